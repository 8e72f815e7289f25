-- What a search leaves is what the end of its call asks for: its results' tables are neat, and what was exported are types of them.
use Rattle.std.specs.Prelude.{ℕ, ◌/◌, ◌≤◌, ◌<◌, ◌≡◌, Bool, false, List, [], ◌∷◌, map, length, drop}
use Rattle.std.proofs.Common.{sym, subst, arith}
use Rattle.std.proofs.Math.Option.{none}
use Rattle.rules.specs.Lists.{Words}
use Rattle.rules.specs.Limits.{limit_sheet, limit_depth, limit_question}
use Rattle.rules.specs.Layout.{question_type}
use Rattle.rules.specs.Sheet.{at}
use Rattle.rules.specs.Types.{Ty, Types, ImplType, invert_if}
use Rattle.rules.specs.Robinson.{flip_in}
use Rattle.rules.specs.Transfer.{type_of_word, export_types, export_impl_type}
use Rattle.rules.specs.Run.{Out, got, within}
use Rattle.rules.specs.Search.{Finder, Result, question}
use Rattle.rules.specs.Check.{refusal, impl_checks, flex_checks}
use Rattle.rules.proofs.CheckedTables.{flex_ready}
use Rattle.rules.specs.Calls.{question_types, impl_query, impl_search}
use Rattle.rules.specs.Yields.{Comes}
use Rattle.rules.proofs.Yields.{yields_within}
use Rattle.rules.specs.Neat.{Neat, Brought, types_exported}
use Rattle.rules.specs.SearchKeeps.{Kept, AllKept}
use Rattle.rules.proofs.SearchKeeps.{question_keeps}
use Rattle.rules.proofs.CallKeeps.{impl_search_keeps}
use Rattle.table.specs.Packing.{types_of}
use Rattle.slots.specs.Slots.{Slot}
use Rattle.slots.specs.Copies.{Filled}
use Rattle.queries.specs.declared.Query.{Query}
use Rattle.loading.specs.Exports.{Asks}
use Rattle.loading.specs.Checked.{flex_fitting, flex_inside}
use Rattle.closing.specs.Impl.{asks_on}
use Rattle.closing.specs.Flex.{Offered}

came : (P : List Result → Type 0) (o : Out (List Result) × ℕ) (rs : List Result) (d : ℕ) → o ≡ (got rs, d) → Comes P o.0 → P rs
came P o rs d e h = subst (λ (x : Out (List Result) × ℕ). Comes P x.0) e h

-- Every result of an impl call's search is kept.
pub impl_kept : (a : Finder) (basic : ℕ) (q : Words) → length a.sheet ≤ limit_sheet → refusal (impl_checks a basic q) ≡ none → (over : ℕ → Bool) (b : Bool) (c : ℕ) (rs : List Result) (d : ℕ) → within over (impl_search a b q) c ≡ (got rs, d) → AllKept (export_impl_type (question_types q) (impl_query q)).1 rs
impl_kept a basic q sheet_short passed over b c rs d e =
    let P : List Result → Type 0 = AllKept (export_impl_type (question_types q) (impl_query q)).1 in
    came P (within over (impl_search a b q) c) rs d e (yields_within P over (impl_search a b q) c (impl_search_keeps a basic q sheet_short passed b))

-- So is every result of each of a flex call's: h is the header word of the trait.
module _ (a : Finder) (q : Words) (passed : refusal (flex_checks a q) ≡ none) (sheet_short : length a.sheet ≤ limit_sheet) (short : length q ≤ limit_question) where
  abbrev asked : List Ty × Types
  asked = export_types (question_types q) (type_of_word (at q question_type) ∷ [])

  brought : Brought [] asked.0 asked.1
  unfolding type_of_word
  brought = types_exported (question_types q) (flex_fitting a q passed sheet_short short).neat (type_of_word (at q question_type) ∷ []) (flex_inside a q passed sheet_short short, tt)

  pub flex_kept : (over : ℕ → Bool) (h : ℕ) (inv : Bool) (c : ℕ) (rs : List Result) (d : ℕ) → within over (question limit_depth a false (export_types (question_types q) (type_of_word (at q question_type) ∷ [])).1 (at a.sheet h, map (invert_if inv) (export_types (question_types q) (type_of_word (at q question_type) ∷ [])).0)) c ≡ (got rs, d) → AllKept (export_types (question_types q) (type_of_word (at q question_type) ∷ [])).1 rs
  flex_kept over h inv c rs d e =
      let i : ImplType = (at a.sheet h, map (invert_if inv) asked.0) in
      came (AllKept asked.1) (within over (question limit_depth a false asked.1 i) c) rs d e
      (yields_within (AllKept asked.1) over (question limit_depth a false asked.1 i) c (question_keeps a q (flex_ready a q sheet_short passed) limit_depth false asked.1 i brought.neat (flip_in inv (length asked.1) asked.0 brought.inside)))

-- A result that is kept, in its slot: ts is the table that was asked.
module _ (found : Words) (a : ℕ) (r : Result) (ts : Types) (s : Slot found a r) (k : Kept ts r) where
  pub result_filled : Filled found a
  result_filled = record { result = r; slot = s }

  neat : Neat (types_of (drop a found))
  neat = subst Neat (sym s.table.is) k.neat

  grown : length ts ≤ length (types_of (drop a found))
  grown = subst (λ (us : Types). length ts ≤ length us) (sym s.table.is) k.grown

  pub result_asks : (asked : Query) → Asks ts asked → Asks (types_of (drop a found)) asked
  result_asks asked h = asks_on ts (types_of (drop a found)) asked neat grown h

  pub result_offered : (e : ℕ) → e / 2 < length ts → Offered found a e
  result_offered e h = record { filled = result_filled; neat = neat; inside = omega (arith, grown) }
