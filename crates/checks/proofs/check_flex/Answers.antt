-- `check_flex`: the sheet, the ids, the question.
use Rattle.checks.specs.Numbers.{passed_on, flex_sheet, flex_ids, flex_question}
use Rattle.checks.proofs.check_flex.Goals as goal

pub returns-in_err-check_sheet : goal.returns-in_err-check_sheet
returns-in_err-check_sheet c = passed_on _ _ _ c.from_residual.ensures (flex_sheet _ _ _ _ _ c.in_err-check_sheet.ensures)

pub returns-in_err-check_ids : goal.returns-in_err-check_ids
returns-in_err-check_ids c = passed_on _ _ _ c.from_residual-in_err-check_ids.ensures (flex_ids _ _ _ _ _ c.in_ok-check_sheet.ensures c.in_err-check_ids.ensures)

pub returns : goal.returns
returns c = flex_question _ _ _ _ _ c.in_ok-check_sheet.ensures c.in_ok-check_ids.ensures c.flex_question_tests.ensures
