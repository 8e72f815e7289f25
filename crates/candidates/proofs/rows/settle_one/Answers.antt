-- `settle_one`: a node, or none.
use Rattle.std.proofs.Common.{rules}
use Rattle.candidates.specs.Spread.{visited_none}
use Rattle.candidates.proofs.rows.settle_one.Goals as goal

pub returns-else-y-n : goal.returns-else-y-n
returns-else-y-n c = search (rules, visited_none)
