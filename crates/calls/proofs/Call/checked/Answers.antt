use Rattle.std.proofs.Common.{rules}
use Rattle.calls.specs.Behind.{behind_passed, behind_refused, call_passed, entered_work, entered-kept}
use Rattle.calls.proofs.Call.checked.Goals as goal

pub check-requires-clause-in_bounds : goal.check-requires-clause-in_bounds
check-requires-clause-in_bounds c = search (rules, entered_work)

pub with_sets-requires-clause-call_passed : goal.with_sets-requires-clause-call_passed
with_sets-requires-clause-call_passed c = call_passed _ _ _ _ _ _ _ _ c.requires c.in-Ok.ensures

pub with_sets-requires-clause-in_bounds : goal.with_sets-requires-clause-in_bounds
with_sets-requires-clause-in_bounds c = search (rules, entered-kept, c.requires, c.check.auto)

pub returns-in-Ok : goal.returns-in-Ok
returns-in-Ok c = behind_passed _ _ _ _ _ _ (call_passed _ _ _ _ _ _ _ _ c.requires c.in-Ok.ensures).passed c.with_sets.ensures

pub returns-in-Err : goal.returns-in-Err
returns-in-Err c = behind_refused _ _ _ _ _ c.in-Err.ensures
