-- Document 01, "Turning a call away", 1 to 13: one list of numbers and conditions, in order. A call's number is that of the first condition that holds.
use Rattle.std.specs.Prelude.{ℕ, Bool, true, false, not, ◌||◌, List, [], ◌∷◌, ◌++◌, eqb, ltb, leb, length}
use Rattle.std.proofs.Math.Option.{Option, none, some}
use Rattle.rules.specs.Lists.{Words, holds}
use Rattle.rules.specs.Limits.{limit_sheet, limit_question, limit_answer, limit_workspace, limit_count}
use Rattle.rules.specs.Layout.{header_edition, header_definitions, header_generics, header_length, edition_1, question_length}
use Rattle.rules.specs.Sheet.{at}
use Rattle.rules.specs.Search.{Finder}
use Rattle.rules.specs.Chains.{sheet_keeps, impl_question_keeps, flex_question_keeps}
use Rattle.rules.specs.Values.{is_id, sheet_values, impl_question_values, flex_question_values}
use Rattle.rules.specs.Acyclic.{sheet_acyclic, question_acyclic}

-- Numbers with their conditions.
abbrev pub Checks : Type 0
Checks = List (ℕ × Bool)

-- The number of the first condition that holds.
unfoldable pub refusal : Checks → Option ℕ
refusal [] = none
refusal (c ∷ cs) = elim c.1 [ true ↦ some c.0 | false ↦ refusal cs ]

-- 1: a sheet's length.
unfoldable pub of_length : Words → Checks
of_length s = (1, ltb (length s) header_length || ltb limit_sheet (length s)) ∷ []

-- Entry, 1 to 5: the lengths of sheet, question, answer buffer and workspace, and the start count.
unfoldable pub entry : Words → Words → ℕ → ℕ → ℕ → Checks
entry s q answer work c =
    of_length s
    ++ ((2, ltb (length q) question_length || ltb limit_question (length q))
    ∷ (3, ltb answer limit_answer)
    ∷ (4, ltb work limit_workspace)
    ∷ (5, ltb limit_count c)
    ∷ [])

-- Sheet, 6 to 9: edition, chains, values, no type reaches itself.
unfoldable pub of_sheet : Words → Checks
of_sheet s =
    (6, not (eqb (at s header_edition) edition_1))
    ∷ (7, not (sheet_keeps s)) ∷ (8, not (sheet_values s))
    ∷ (9, not (sheet_acyclic s))
    ∷ []

-- Ids, 10: source and generics are there, the basic flag is 0 or 1.
unfoldable pub of_ids : Finder → ℕ → Checks
of_ids f basic =
    (10, not (holds (is_id f.sheet header_definitions f.source ∷ is_id f.sheet header_generics f.generics ∷ leb basic 1 ∷ []))) ∷ []

-- Question, 11 to 13, of the impl call.
unfoldable pub of_impl_question : Finder → Words → Checks
of_impl_question f q =
    (11, not (impl_question_keeps q))
    ∷ (12, not (impl_question_values f.sheet f.generics q))
    ∷ (13, not (question_acyclic q))
    ∷ []

-- Question, 11 to 13, of the flex call.
unfoldable pub of_flex_question : Finder → Words → Checks
of_flex_question f q =
    (11, not (flex_question_keeps q))
    ∷ (12, not (flex_question_values f.sheet f.generics q))
    ∷ (13, not (question_acyclic q))
    ∷ []

-- The checks of the impl call that come between entry and search: 6 to 13.
unfoldable pub impl_checks : Finder → ℕ → Words → Checks
impl_checks f basic q = of_sheet f.sheet ++ of_ids f basic ++ of_impl_question f q

-- The checks of the flex call that come between entry and search: 6 to 13.
unfoldable pub flex_checks : Finder → Words → Checks
flex_checks f q = of_sheet f.sheet ++ of_ids f 0 ++ of_flex_question f q
