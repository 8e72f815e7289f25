-- What a call that passed the checks promises to the work on one candidate or one impl parameter, and what that work is in the rules.
use Rattle.std.specs.Prelude.{Bool, Result, ℕ, ◌*◌, ◌≤◌, ◌<◌, ◌≡◌, false, length}
use Rattle.std.proofs.Common.{sym, arith}
use Rattle.std.proofs.Math.Path.{ap, subst}
use Rattle.std.proofs.Math.Option.{none}
use Rattle.rules.specs.Lists.{Words}
use Rattle.rules.specs.Limits.{limit_sheet}
use Rattle.rules.specs.Layout.{header_generics, header_impls, generics_table_word, impl_table_word}
use Rattle.rules.specs.Sheet.{chain, field, many, generics_table}
use Rattle.rules.specs.Types.{Types, ImplType}
use Rattle.rules.specs.Solutions.{AllIn}
use Rattle.rules.specs.Transfer.{import_impl_type, table}
use Rattle.rules.specs.Search.{Finder, impl_params}
use Rattle.rules.specs.CheckedTables.{Ready}
use Rattle.rules.specs.Neat.{Neat, Brought, low_none, query_brought, impl_params_neat}
use Rattle.table.specs.Packing.{types_of}
use Rattle.transfer.specs.Moving.{params_of}
use Rattle.queries.specs.declared.Query.{Query}
use Rattle.queries.specs.Queries.{query_of}
use Rattle.refusals.specs.declared.Refusal.{Refusal}
use Rattle.queries.specs.Sizes.{generics_few, impl_few}
use Rattle.opening.specs.Bringing.{Lent}
use Rattle.opening.specs.Meeting.{Meets}

-- The sheet of a call that passed 1 to 13, whatever its source, generics and question.
pub record Sound (s : Words) : Type 0 where
  pub source : ℕ
  pub generics : ℕ
  pub question : Words
  pub ready : Ready (record { sheet = s; source = source; generics = generics }) question
  pub short : length s ≤ limit_sheet

pub sound_of : (a : Finder) (w : Words) → Ready a w → length a.sheet ≤ limit_sheet → Sound a.sheet
sound_of a w r h = record { source = a.source; generics = a.generics; question = w; ready = r; short = h }

module _ (s : Words) (sound : Sound s) where
  abbrev pub finder : Finder
  finder = record { sheet = s; source = sound.source; generics = sound.generics }

  -- Slices of a fifth of its words serve every import from it: for a table whose records fit into it,
  fits : (head : ℕ) (places map : Words) → 5 * length (chain s head) ≤ length s → length s ≤ 5 * length places → (length s ≤ 5 * length map) × (256 ≤ length map) → Lent s head places map
  fits head places map f h k = record { places_long = omega arith; map_long = omega (arith, k.0); marks_long = k.1 }

  -- as those of impls and of generics do.
  pub signature_lent : (i head : ℕ) (places map : Words) → i < many s header_impls → head ≡ field s header_impls i impl_table_word → length s ≤ 5 * length places → (length s ≤ 5 * length map) × (256 ≤ length map) → Lent s head places map
  signature_lent i head places map h e j k = fits head places map (subst (λ x. 5 * length (chain s x) ≤ length s) (sym e) (impl_few s sound.ready.chains i h)) j k

  pub generics_lent : (g head : ℕ) (places map : Words) → g < many s header_generics → head ≡ field s header_generics g generics_table_word → length s ≤ 5 * length places → (length s ≤ 5 * length map) × (256 ≤ length map) → Lent s head places map
  generics_lent g head places map h e j k = fits head places map (subst (λ x. 5 * length (chain s x) ≤ length s) (sym e) (generics_few s sound.ready.chains g h)) j k

  -- One impl parameter of generics g, whose table has that head.
  module _ (g head : ℕ) (h : g < many s header_generics) (e : head ≡ field s header_generics g generics_table_word) where
    pub params-table : table s head ≡ (impl_params s g).0
    unfolding impl_params generics_table
    params-table = ap (table s) e

    pub params_neat : Neat (table s head)
    params_neat = subst Neat (sym params-table) (impl_params_neat finder sound.question sound.ready g h)

    module _ (p : Query) (a : AllIn (length (impl_params s g).0) (query_of p).1) where
      pub param_inside : AllIn (length (table s head)) (query_of p).1
      param_inside = subst (λ (ts : Types). AllIn (length ts) (query_of p).1) (sym params-table) a

      pub param-brought : (xs ds : Words) → Neat (types_of ds) → Brought (types_of ds) (import_impl_type (table s head) (params_of false xs) (query_of p) (types_of ds)).0.1 (import_impl_type (table s head) (params_of false xs) (query_of p) (types_of ds)).1
      unfolding params_of
      param-brought xs ds n = query_brought (table s head) params_neat none (types_of ds) n (low_none (types_of ds)) (query_of p) param_inside

    pub param_meets : (p : Query) (xs ds us : Words) (q : ImplType) (r : Result Bool Refusal) → Meets s (import_impl_type (table s head) (params_of false xs) (query_of p) (types_of ds)) q r us → Meets s (import_impl_type (impl_params s g).0 none (query_of p) (types_of ds)) q r us
    unfolding params_of
    param_meets p xs ds us q r m = subst (λ (ts : Types). Meets s (import_impl_type ts none (query_of p) (types_of ds)) q r us) params-table m
