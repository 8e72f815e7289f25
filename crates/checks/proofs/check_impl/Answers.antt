-- `check_impl`: the sheet, the ids, the question.
use Rattle.checks.specs.Numbers.{passed_on, impl_sheet, impl_ids, impl_question}
use Rattle.checks.proofs.check_impl.Goals as goal

pub returns-in_err-check_sheet : goal.returns-in_err-check_sheet
returns-in_err-check_sheet c = passed_on _ _ _ c.from_residual.ensures (impl_sheet _ _ _ _ _ _ c.in_err-check_sheet.ensures)

pub returns-in_err-check_ids : goal.returns-in_err-check_ids
returns-in_err-check_ids c = passed_on _ _ _ c.from_residual-in_err-check_ids.ensures (impl_ids _ _ _ _ _ _ c.in_ok-check_sheet.ensures c.in_err-check_ids.ensures)

pub returns : goal.returns
returns c = impl_question _ _ _ _ _ _ c.in_ok-check_sheet.ensures c.in_ok-check_ids.ensures c.impl_question_tests.ensures
