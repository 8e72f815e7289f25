-- The tables of a call that no check refused are well formed and acyclic, as Robinson's theorem wants them: the question's, and those of the sheet's generics and impls.
use Rattle.std.specs.Prelude.{ℕ, ◌≤◌, ◌≡◌, [], ◌∷◌, leb, length}
use Rattle.std.proofs.Common.{ltb→lt}
use Rattle.std.proofs.Math.Option.{none}
use Rattle.std.proofs.Math.Dec.{eqb}
use Rattle.rules.specs.Lists.{Words, holds}
use Rattle.rules.specs.Limits.{limit_sheet}
use Rattle.rules.specs.Layout.{header_edition, header_definitions, header_generics, edition_1}
use Rattle.rules.specs.Sheet.{at, many}
use Rattle.rules.specs.Search.{Finder}
use Rattle.rules.specs.Chains.{sheet_keeps}
use Rattle.rules.specs.Values.{is_id, sheet_values, impl_question_values, flex_question_values}
use Rattle.rules.specs.Acyclic.{sheet_acyclic, question_acyclic}
use Rattle.rules.specs.Check.{refusal, of_sheet, of_ids, of_impl_question, of_flex_question, impl_checks, flex_checks}
use Rattle.rules.specs.CheckLaws.{part, unrefused, not_not}
use Rattle.rules.specs.CheckedSheet.{valid}
use Rattle.rules.specs.CheckedTables.{Ready, CheckedTables, checked_tables}

pub impl_ready : (a : Finder) (basic : ℕ) (q : Words) → length a.sheet ≤ limit_sheet → refusal (impl_checks a basic q) ≡ none → Ready a q
unfolding impl_checks of_sheet of_ids of_impl_question impl_question_values question_acyclic is_id
impl_ready a basic q few e =
    let h = unrefused (impl_checks a basic q) e in
    let i = part _ (not_not (holds (is_id a.sheet header_definitions a.source ∷ is_id a.sheet header_generics a.generics ∷ leb basic 1 ∷ [])) (h 4)) in
    record {
      short = few;
      edition = not_not (eqb (at a.sheet header_edition) edition_1) (h 0);
      chains = not_not (sheet_keeps a.sheet) (h 1);
      values = valid a.sheet (not_not (sheet_values a.sheet) (h 2));
      end = not_not (sheet_acyclic a.sheet) (h 3);
      source = ltb→lt a.source (many a.sheet header_definitions) (i 0);
      generics = ltb→lt a.generics (many a.sheet header_generics) (i 1);
      typed = part _ (not_not (impl_question_values a.sheet a.generics q) (h 6)) 0;
      asked = not_not (question_acyclic q) (h 7);
    }

pub flex_ready : (a : Finder) (q : Words) → length a.sheet ≤ limit_sheet → refusal (flex_checks a q) ≡ none → Ready a q
unfolding flex_checks of_sheet of_ids of_flex_question flex_question_values question_acyclic is_id
flex_ready a q few e =
    let h = unrefused (flex_checks a q) e in
    let i = part _ (not_not (holds (is_id a.sheet header_definitions a.source ∷ is_id a.sheet header_generics a.generics ∷ leb 0 1 ∷ [])) (h 4)) in
    record {
      short = few;
      edition = not_not (eqb (at a.sheet header_edition) edition_1) (h 0);
      chains = not_not (sheet_keeps a.sheet) (h 1);
      values = valid a.sheet (not_not (sheet_values a.sheet) (h 2));
      end = not_not (sheet_acyclic a.sheet) (h 3);
      source = ltb→lt a.source (many a.sheet header_definitions) (i 0);
      generics = ltb→lt a.generics (many a.sheet header_generics) (i 1);
      typed = part _ (not_not (flex_question_values a.sheet a.generics q) (h 6)) 0;
      asked = not_not (question_acyclic q) (h 7);
    }

-- An impl call that no check refuses, and a flex call: all their tables are well formed and acyclic to start with.
pub impl_tables : (a : Finder) (basic : ℕ) (q : Words) → length a.sheet ≤ limit_sheet → refusal (impl_checks a basic q) ≡ none → CheckedTables a q
impl_tables a basic q few e = checked_tables a q (impl_ready a basic q few e)

pub flex_tables : (a : Finder) (q : Words) → length a.sheet ≤ limit_sheet → refusal (flex_checks a q) ≡ none → CheckedTables a q
flex_tables a q few e = checked_tables a q (flex_ready a q few e)
