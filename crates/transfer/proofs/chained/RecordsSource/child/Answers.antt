-- `child`: past its children a node has none.
use Rattle.std.proofs.Common.{rules}
use Rattle.transfer.specs.Records.{child_here, child_past}
use Rattle.transfer.proofs.chained.RecordsSource.child.Goals as goal

pub returns-then-j-child_count : goal.returns-then-j-child_count
returns-then-j-child_count c = search (rules, child_here)

pub returns-else-j-child_count : goal.returns-else-j-child_count
returns-else-j-child_count c = search (rules, child_past)
