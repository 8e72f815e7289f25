-- `is_loose`: a ref that is its own inverse, and whose label nothing known has.
use Rattle.std.proofs.Common.{rules}
use Rattle.loose.specs.Loose.{nodes_few, opposed_by}
use Rattle.loose.proofs.is_loose.Goals as goal

pub set_from-requires : goal.set_from-requires
set_from-requires c = search (rules, nodes_few)

pub returns-then-free-ne0 : goal.returns-then-free-ne0
returns-then-free-ne0 c = search (rules, opposed_by)
