use Rattle.std.proofs.Common.{◌*◌, ap, rules}
use Rattle.calls.specs.Outcomes.{packed_answered, packed_refused}
use Rattle.calls.proofs.packed.Goals as goal

pub returns-in-Ok : goal.returns-in-Ok
returns-in-Ok c = packed_answered _ _ _ c.in-Ok.is (ap (λ n. n * 4294967296) c.from.ensures)

pub returns-in-Err : goal.returns-in-Err
returns-in-Err c = search (rules, packed_refused)
