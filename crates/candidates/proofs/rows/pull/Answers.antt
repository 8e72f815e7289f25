-- `pull`: nothing changes, or the rows are joined.
use Rattle.std.proofs.Common.{rules}
use Rattle.candidates.specs.Spread.{pulled, visited_none}
use Rattle.candidates.proofs.rows.pull.Goals as goal

pub returns-then-on-2 : goal.returns-then-on-2
returns-then-on-2 c = search (rules, pulled)

pub returns-else-z-n : goal.returns-else-z-n
returns-else-z-n c = search (rules, visited_none)
