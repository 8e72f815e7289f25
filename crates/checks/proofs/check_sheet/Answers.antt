-- `check_sheet`: the edition, then the tests of the sheet.
use Rattle.checks.specs.Numbers.{passed_on, sheet_edition, sheet_further}
use Rattle.checks.proofs.check_sheet.Goals as goal

pub returns-in_err-require : goal.returns-in_err-require
returns-in_err-require c = passed_on _ _ _ c.from_residual.ensures (sheet_edition _ _ c.word.ensures _ c.in_err-require.ensures)

pub returns : goal.returns
returns c = sheet_further _ _ c.word.ensures _ c.in_ok-require.ensures c.sheet_tests.ensures
