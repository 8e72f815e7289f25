-- Tests of heads one after the other: those of a record, those of a chain whose records hold heads, those of the header and of a question.
use Rattle.std.specs.Prelude.{ℕ, zero, suc, ◌+◌, ◌≤◌, ◌<◌, ◌≡◌, Bool, ◌&&◌, List, [], ◌∷◌, length}
use Rattle.std.specs.Borrow.{MutBor}
use Rattle.std.specs.ControlFlow.{MatchControlFlow}
use Rattle.std.specs.declared.ops.ControlFlow.{ControlFlow}
use Rattle.std.specs.declared.ops.ControlFlow.TheVariants.{Continue, Break}
use Rattle.std.proofs.Math.Path.{refl}
use Rattle.std.proofs.Common.{sym, ◌∙◌, ap, subst, arith}
use Rattle.std.proofs.Math.Bool.{true, false}
use Rattle.rules.specs.Lists.{Words, holds}
use Rattle.rules.specs.Layout.{header_length, header_definitions, header_generics, header_traits, header_impls, header_opaques, header_structs, header_enums, header_unions, header_closures, header_imports, definition_bindings, definition_named, definition_implicit, definition_length, binding_length, member_length, trait_length, struct_length, union_length, generics_table_word, generics_impl_params, generics_length, impl_table_word, impl_args_word, impl_length, question_table, question_args, question_length}
use Rattle.rules.specs.Sheet.{at, chain, chain_of}
use Rattle.rules.specs.Chains.{zero_or_from, record_keeps, chain_keeps, head_keeps, cells_keep, nodes_keep, plain_keep, definitions_keep, impl_params_keep, generics_keep, impls_keep, sheet_keeps, impl_question_keeps, flex_question_keeps}
use Rattle.rules.specs.ChainLaws.{runs_end}
use Rattle.chains.specs.Walks.{ok_at, never, head_no, head_yes, goes_on, breaks, left, left_falls, left_short, on, Runs, Walks}
use Rattle.chains.specs.Planes.{Planes, Goes}

-- The heads in a record: of a definition, of generics, of an impl.
unfoldable pub definition_heads : Words → ℕ → Bool
definition_heads s p = holds (plain_keep s binding_length (at s (p + definition_bindings)) ∷ plain_keep s member_length (at s (p + definition_named)) ∷ plain_keep s member_length (at s (p + definition_implicit)) ∷ [])

unfoldable pub generics_heads : Words → ℕ → Bool
generics_heads s p = nodes_keep header_length s (at s (p + generics_table_word)) && impl_params_keep s (at s (p + generics_impl_params))

unfoldable pub impl_heads : Words → ℕ → Bool
impl_heads s p = nodes_keep header_length s (at s (p + impl_table_word)) && cells_keep header_length s (at s (p + impl_args_word))

-- Tests one after the other, up to the first that fails.
pub record Run (lo : ℕ) (s : Words) (ts : List Bool) (ws : Words) (r : Bool) : Type 0 where
  pub is : r ≡ holds ts
  pub planes : r ≡ true → Planes lo s ws

module _ {lo : ℕ} {s : Words} where
  -- One more test, or none after one that failed.
  pub and_on : {t u q r v : Bool} {vs us xs : Words} → Goes lo s t vs q → q ≡ true → Goes lo s u us r → xs ≡ us → v ≡ r → Goes lo s (t && u) xs v
  and_on {t} {u} g e h x y = rw (x, y) (record { is = h.is ∙ ap (λ b. b && u) (sym e ∙ g.is); planes = h.planes })

  pub and_no : {t q v : Bool} {vs xs : Words} (u : Bool) → Goes lo s t vs q → q ≡ false → xs ≡ vs → v ≡ q → Goes lo s (t && u) xs v
  and_no {t} u g e x y = rw (x, y) (record { is = e ∙ ap (λ b. b && u) (sym e ∙ g.is); planes = g.planes })

  -- The planes after a test that passed.
  pub after : {t q : Bool} {us : Words} → Goes lo s t us q → q ≡ true → Planes lo s us
  after g e = g.planes e

  -- The test of a record.
  pub record_test : {k : Bool} {ws : Words} (len p : ℕ) → k ≡ record_keeps s len p → Planes lo s ws → Goes lo s (record_keeps s len p) ws k
  record_test len p e a = record { is = e; planes = λ t. a }

  -- A record is as its test and those of the heads in it say.
  pub record_goes : {t r : Bool} {us : Words} (len : ℕ) (heads : ℕ → Bool) (p : ℕ) → t ≡ record_keeps s len p && heads p → Goes lo s t us r → Goes lo s (ok_at s len heads p) us r
  unfolding ok_at
  record_goes len heads p q g = record { is = g.is ∙ q ∙ go (record_keeps s len p) (heads p); planes = g.planes }
    where
      go : (a b : Bool) → (a && b) ≡ elim a as (λ x. Bool) [ true ↦ b | false ↦ false ]
      go true b = refl
      go false b = refl

  -- Tests together are a list of them.
  pub run_goes : {ts : List Bool} {t r : Bool} {us : Words} → t ≡ holds ts → Goes lo s t us r → Run lo s ts us r
  run_goes q g = record { is = g.is ∙ q; planes = g.planes }

and_three : (a b c : Bool) → a && b && c ≡ a && (b && c)
and_three true b c = refl
and_three false b c = refl

and_four : (a b c d : Bool) → a && b && c && d ≡ a && holds (b ∷ c ∷ d ∷ [])
unfolding holds
and_four false b c d = refl
and_four true false c d = refl
and_four true true false d = refl
and_four true true true true = refl
and_four true true true false = refl

pub and_five : (a b c d e : Bool) → a && b && c && d && e ≡ holds (a ∷ b ∷ c ∷ d ∷ e ∷ [])
unfolding holds
and_five false b c d e = refl
and_five true false c d e = refl
and_five true true false d e = refl
and_five true true true false e = refl
and_five true true true true true = refl
and_five true true true true false = refl

-- The tests of a definition, of generics and of an impl.
pub definition_tests : (s : Words) (p : ℕ) (k : Bool) → k && plain_keep s binding_length (at s (p + definition_bindings)) && plain_keep s member_length (at s (p + definition_named)) && plain_keep s member_length (at s (p + definition_implicit)) ≡ k && definition_heads s p
unfolding definition_heads
definition_tests s p k = and_four k _ _ _

pub generics_tests : (s : Words) (p : ℕ) (k : Bool) → k && nodes_keep header_length s (at s (p + generics_table_word)) && impl_params_keep s (at s (p + generics_impl_params)) ≡ k && generics_heads s p
unfolding generics_heads
generics_tests s p k = and_three k _ _

pub impl_tests : (s : Words) (p : ℕ) (k : Bool) → k && nodes_keep header_length s (at s (p + impl_table_word)) && cells_keep header_length s (at s (p + impl_args_word)) ≡ k && impl_heads s p
unfolding impl_heads
impl_tests s p k = and_three k _ _

-- What the test of a record tells in a walk without marks.
abbrev pub Stands : ℕ → Words → Bool → Words → ControlFlow Bool (Unit {0}) → Type 0
Stands lo s t us f = (r : Bool) × Goes lo s t us r × (f ≡ on r)

-- A closure is such a test: what it is lent, what it says and what it leaves.
abbrev pub Knows : (MutBor Words → ℕ → ControlFlow Bool (Unit {0}) → MutBor Words → Type 0) → Words → ℕ → (ℕ → Bool) → Type 0
Knows post s len heads = (lent left : MutBor Words) (p : ℕ) (f : ControlFlow Bool (Unit {0})) → post lent p f left → Planes header_length s lent.now → Stands header_length s (ok_at s len heads p) left.now f

-- Such a walk is over as the rule says.
module _ (lo : ℕ) (s : Words) (len : ℕ) (heads : ℕ → Bool) (h : ℕ) (R : Words → ℕ → ControlFlow Bool (Unit {0}) → Words → Type 0) (long : 0 < len) (some : 0 < length s) (tells : (us : Words) (p : ℕ) (f : ControlFlow Bool (Unit {0})) (xs : Words) → Planes lo s us → R us p f xs → Stands lo s (ok_at s len heads p) xs f) where
  -- From each place on.
  stands : (k p : ℕ) (us vs : Words) (r : Bool) → left (length s) p ≤ k → Planes lo s us → Runs R (chain_of k s p) us vs r → Goes lo s (chain_keeps s len heads p) vs r
  unfolding left chain_of Runs
  stands zero zero us vs r l a (e, t) = record { is = t ∙ sym (runs_end s len long heads); planes = λ z. subst (Planes lo s) e a }
  stands zero (suc p) us vs r l a n = absurd (omega arith)
  stands (suc k) zero us vs r l a (e, t) = record { is = t ∙ sym (runs_end s len long heads); planes = λ z. subst (Planes lo s) e a }
  stands (suc k) (suc p) us vs r l a (f, xs, c, n) = let t = tells us (suc p) f xs a c in go t.0 f t.1 t.2 n (stands k (at s (suc p)) xs vs r)
    where
      go : (q : Bool) (f : ControlFlow Bool (Unit {0})) → Goes lo s (ok_at s len heads (suc p)) xs q → f ≡ on q → MatchControlFlow f (λ u. Runs R (chain_of k s (at s (suc p))) xs vs r) (λ e. (xs ≡ vs) × (r ≡ e)) →
          (left (length s) (at s (suc p)) ≤ k → Planes lo s xs → Runs R (chain_of k s (at s (suc p))) xs vs r → Goes lo s (chain_keeps s len heads (at s (suc p))) vs r) → Goes lo s (chain_keeps s len heads (suc p)) vs r
      go true (Continue u) g e n ih =
          let i = ih (omega (arith, left_falls s len heads (suc p) long some (λ q. omega arith) (at s (suc p)) (sym g.is) refl)) (g.planes refl) n in
          record { is = i.is ∙ sym (goes_on s len heads (suc p) long some (λ q. omega arith) (sym g.is)); planes = i.planes }
      go true (Break x) g e n ih = let z : ⊥ = cc in absurd z
      go false (Continue u) g e n ih = let z : ⊥ = cc in absurd z
      go false (Break x) g e n ih =
          let q : x ≡ false = cc in
          record { is = n.1 ∙ q ∙ sym (breaks s len heads (suc p) long some (λ q. omega arith) (sym g.is)); planes = λ z. never (sym (n.1 ∙ q) ∙ z) }

  pub standing : (ws vs : Words) (r : Bool) → Planes lo s ws → Walks R lo s h ws vs r → Goes lo s (head_keeps lo s len heads h) vs r
  unfolding chain
  standing ws vs r a w = go (zero_or_from lo h) refl
    where
      go : (z : Bool) → zero_or_from lo h ≡ z → Goes lo s (head_keeps lo s len heads h) vs r
      go true y = let g = stands (length s) h ws vs r (left_short s some h) a (w.runs y) in record { is = head_yes lo s len heads h y r g.is; planes = g.planes }
      go false y = record { is = w.low y ∙ head_no lo s len heads h y; planes = λ t. never (sym (w.low y) ∙ t) }

-- The header, in two halves.
abbrev pub first_chains : Words → List Bool
first_chains s = head_keeps header_length s definition_length (definition_heads s) (at s header_definitions) ∷ head_keeps header_length s generics_length (generics_heads s) (at s header_generics) ∷ plain_keep s trait_length (at s header_traits) ∷ head_keeps header_length s impl_length (impl_heads s) (at s header_impls) ∷ cells_keep header_length s (at s header_opaques) ∷ []

abbrev pub last_chains : Words → List Bool
last_chains s = plain_keep s struct_length (at s header_structs) ∷ cells_keep header_length s (at s header_enums) ∷ plain_keep s union_length (at s header_unions) ∷ cells_keep header_length s (at s header_closures) ∷ cells_keep header_length s (at s header_imports) ∷ []

holds_ten : (a b c d e f g h i j : Bool) → elim (holds (a ∷ b ∷ c ∷ d ∷ e ∷ [])) as (λ x. Bool) [ true ↦ holds (f ∷ g ∷ h ∷ i ∷ j ∷ []) | false ↦ false ] ≡ holds (a ∷ b ∷ c ∷ d ∷ e ∷ f ∷ g ∷ h ∷ i ∷ j ∷ [])
unfolding holds
holds_ten true true true true true f g h i j = refl
holds_ten true true true true false f g h i j = refl
holds_ten true true true false e f g h i j = refl
holds_ten true true false d e f g h i j = refl
holds_ten true false c d e f g h i j = refl
holds_ten false b c d e f g h i j = refl

both_halves : (s : Words) → elim (holds (first_chains s)) as (λ x. Bool) [ true ↦ holds (last_chains s) | false ↦ false ] ≡ sheet_keeps s
unfolding sheet_keeps definitions_keep generics_keep impls_keep plain_keep cells_keep definition_heads generics_heads impl_heads
both_halves s = holds_ten _ _ _ _ _ _ _ _ _ _

-- 7.
module _ (lo : ℕ) (s us : Words) (a : Bool) (g : Run lo s (first_chains s) us a) where
  pub sheet_first : a ≡ false → a ≡ sheet_keeps s
  sheet_first f = f ∙ ap (λ x. elim x as (λ x. Bool) [ true ↦ holds (last_chains s) | false ↦ false ]) (sym f ∙ g.is) ∙ both_halves s

  pub sheet_last : (vs : Words) (r : Bool) → a ≡ true → Run lo s (last_chains s) vs r → r ≡ sheet_keeps s
  sheet_last vs r f h = h.is ∙ ap (λ x. elim x as (λ x. Bool) [ true ↦ holds (last_chains s) | false ↦ false ]) (sym f ∙ g.is) ∙ both_halves s

-- 11.
module _ (q us : Words) (a : Bool) (g : Goes question_length q (nodes_keep question_length q (at q question_table)) us a) where
  pub table_no : a ≡ false → a ≡ impl_question_keeps q
  unfolding impl_question_keeps
  table_no f = f ∙ λ i. (sym f ∙ g.is) i && cells_keep question_length q (at q question_args)

  pub table_args : (vs : Words) (r : Bool) → a ≡ true → Goes question_length q (cells_keep question_length q (at q question_args)) vs r → r ≡ impl_question_keeps q
  unfolding impl_question_keeps
  table_args vs r f h = λ i. (sym f ∙ g.is) i && h.is i

  pub table_only : a ≡ flex_question_keeps q
  unfolding flex_question_keeps
  table_only = g.is
