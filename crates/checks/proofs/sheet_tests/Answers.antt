-- `sheet_tests`: one test after the other.
use Rattle.std.proofs.Common.{ap}
use Rattle.std.proofs.Math.Bool.{not}
use Rattle.checks.specs.Numbers.{passed_on, refuses, passes, requires}
use Rattle.refusals.specs.declared.Refusal.TheVariants.{SheetChains, SheetValues, SheetCycle}
use Rattle.checks.proofs.sheet_tests.Goals as goal

pub returns-in_err-require : goal.returns-in_err-require
returns-in_err-require c = passed_on _ _ _ c.from_residual.ensures (refuses SheetChains _ _ (ap not c.sheet_keeps.ensures) _ _ c.in_err-require.ensures)

pub returns-in_err-require-2 : goal.returns-in_err-require-2
returns-in_err-require-2 c = passed_on _ _ _ c.from_residual-in_err-require-2.ensures (passes SheetChains _ _ (ap not c.sheet_keeps.ensures) _ _ c.in_ok-require.ensures (refuses SheetValues _ _ (ap not c.sheet_values.ensures) _ _ c.in_err-require-2.ensures))

pub returns : goal.returns
returns c = passes SheetChains _ _ (ap not c.sheet_keeps.ensures) _ _ c.in_ok-require.ensures (passes SheetValues _ _ (ap not c.sheet_values.ensures) _ _ c.in_ok-require-2.ensures (requires SheetCycle _ _ (ap not c.sheet_acyclic.ensures.value) _ c.require-3.ensures))
