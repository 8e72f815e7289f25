-- `leave`: nothing changes, or a component is settled.
use Rattle.std.proofs.Common.{rules}
use Rattle.candidates.specs.Spread.{visited_none}
use Rattle.candidates.proofs.rows.leave.Goals as goal

pub returns-then-low-number : goal.returns-then-low-number
returns-then-low-number c = search (rules, visited_none)
