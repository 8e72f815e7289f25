-- `child_count`: an unknown node has no children.
use Rattle.std.proofs.Common.{rules}
use Rattle.transfer.specs.Records.{children-none, count_here}
use Rattle.transfer.proofs.chained.RecordsSource.child_count.Goals as goal

pub returns-then-kind_of-eq0 : goal.returns-then-kind_of-eq0
returns-then-kind_of-eq0 c = search (rules, children-none)

pub returns-else-kind_of-eq0 : goal.returns-else-kind_of-eq0
returns-else-kind_of-eq0 c = search (rules, count_here)
