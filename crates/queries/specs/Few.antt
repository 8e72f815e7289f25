-- At most four questions with at most four arguments each: what the checks promise of a sheet's impl parameters and signatures and of a call's question.
use Prim.Native.Nat.{ℕ, zero, suc, ◌+◌, ◌≤◌, ◌<◌, zero-le}
use Rattle.std.specs.Prelude.{◌≡◌, refl, List, [], ◌∷◌, map, T, get_or}
use Rattle.std.proofs.Common.{sym, le_of_suc-le-suc, not-suc-le-zero, arith}
use Rattle.std.proofs.Math.Path.{subst}
use Rattle.std.proofs.Math.Option.{none}
use Rattle.std.proofs.Math.Dec.{eqb→eq, leb→le}
use Rattle.std.proofs.Math.ListN.{length, length-map}
use Rattle.rules.specs.Lists.{Words}
use Rattle.rules.specs.Limits.{limit_arity, limit_sheet}
use Rattle.rules.specs.Layout.{header_generics, header_traits, header_impls, impl_param_trait, impl_param_args, question_args}
use Rattle.rules.specs.Sheet.{at, field, many, trait_arity, impl_param_records, impl_args}
use Rattle.rules.specs.Types.{ImplType}
use Rattle.rules.specs.Transfer.{cell_types}
use Rattle.rules.specs.Search.{Finder, impl_signature, impl_params}
use Rattle.rules.specs.Values.{is_optional, arity, args_ok, generics_ok, impl_ok, trait_ok, impl_question_values}
use Rattle.rules.specs.Check.{refusal, of_sheet, of_ids, of_impl_question, impl_checks}
use Rattle.rules.specs.CheckLaws.{part, unrefused, not_not}
use Rattle.rules.specs.CheckedSheet.{Valid}
use Rattle.rules.specs.CheckedTables.{Ready}
use Rattle.rules.proofs.CheckedTables.{impl_ready}
use Rattle.rules.specs.Members.{all_get}
use Rattle.rules.specs.Calls.{impl_query}

-- At most four questions, each with at most four arguments.
pub record Few (qs : List ImplType) : Type 0 where
  pub many : length qs ≤ 4
  pub each : (k : ℕ) → k < length qs → length (get_or qs k (0, [])).1 ≤ 4

-- Where 8 passed:
module _ (s : Words) (v : Valid s) where
  -- a trait? has at most four arguments,
  arity_few : (t : ℕ) → t ≤ many s header_traits → arity s t ≤ 4
  unfolding arity trait_ok trait_arity field
  arity_few zero h = zero-le
  arity_few (suc t) h = leb→le _ limit_arity (part _ (v.traits t h) 1)

  -- and so has what passed the test of arguments.
  pub args_few : (w : Words) (h t args : ℕ) → T (args_ok s w h t args) → length (cell_types w args) ≤ 4
  unfolding args_ok is_optional
  args_few w h t args o = omega (arith, eqb→eq (length (cell_types w args)) (arity s t) (part _ o 1), arity_few t (leb→le t (many s header_traits) (part _ o 0)))

module _ {A : Type 0} (f : ℕ → A) (a : A) where
  pub map_at : (xs : Words) (k : ℕ) → k < length xs → get_or (map f xs) k a ≡ f (get_or xs k 0)
  map_at [] k h = absurd (not-suc-le-zero h)
  map_at (x ∷ xs) zero h = refl
  map_at (x ∷ xs) (suc k) h = map_at xs k (le_of_suc-le-suc h)

-- A call that passed 6 to 13:
module _ (a : Finder) (q : Words) (r : Ready a q) where
  -- the impl parameters of its generics, or of any others,
  pub few_params : (g : ℕ) → g < many a.sheet header_generics → Few (impl_params a.sheet g).1
  unfolding impl_params impl_param_records generics_ok field
  few_params g h = let s = a.sheet in let ps = impl_param_records s g in record {
    many = omega (arith, leb→le (length ps) 4 (part _ (r.values.generics g h) 2), length-map ps (param s));
    each = λ k l. let m : k < length ps = omega (arith, length-map ps (param s)) in
        subst (λ (p : ImplType). length p.1 ≤ 4) (sym (map_at (param s) (0, []) ps k m))
        (args_few s r.values s _ _ _ (all_get _ ps k 0 (part _ (r.values.generics g h) 3) m));
  }
    where
      param : Words → ℕ → ImplType
      param s p = (at s (p + impl_param_trait), cell_types s (at s (p + impl_param_args)))

  -- the arguments of an impl's signature,
  pub few_args : (i : ℕ) → i < many a.sheet header_impls → length (cell_types a.sheet (impl_args a.sheet i)) ≤ 4
  unfolding impl_ok impl_args field
  few_args i h = args_few a.sheet r.values a.sheet _ _ _ (part _ (r.values.impls i h) 3)

  pub few_signature : (i : ℕ) → i < many a.sheet header_impls → length (impl_signature a.sheet i).1.1 ≤ 4
  unfolding impl_signature
  few_signature = few_args

-- and those of the question of an impl call.
pub few_question : (a : Finder) (basic : ℕ) (q : Words) → length a.sheet ≤ limit_sheet → refusal (impl_checks a basic q) ≡ none → length (cell_types q (at q question_args)) ≤ 4
unfolding impl_checks of_sheet of_ids of_impl_question impl_question_values
few_question a basic q short e = args_few a.sheet (impl_ready a basic q short e).values q _ _ _ (part _ (not_not (impl_question_values a.sheet a.generics q) (unrefused (impl_checks a basic q) e 6)) 1)

pub few_query : (a : Finder) (basic : ℕ) (q : Words) → length a.sheet ≤ limit_sheet → refusal (impl_checks a basic q) ≡ none → length (impl_query q).1 ≤ 4
unfolding impl_query
few_query = few_question
