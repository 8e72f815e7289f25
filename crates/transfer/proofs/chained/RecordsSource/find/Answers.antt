-- `find`: a node is its own root.
use Rattle.std.proofs.Common.{rules}
use Rattle.transfer.specs.Records.{find_own, find_past}
use Rattle.transfer.proofs.chained.RecordsSource.find.Goals as goal

pub returns-then-t-self : goal.returns-then-t-self
returns-then-t-self c = search (rules, find_own)

pub returns-else-t-self : goal.returns-else-t-self
returns-else-t-self c = search (rules, find_past)
