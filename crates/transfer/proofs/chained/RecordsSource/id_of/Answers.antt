-- `id_of`: an unknown node has no id.
use Rattle.std.proofs.Common.{rules}
use Rattle.transfer.specs.Records.{id_none, id_here}
use Rattle.transfer.proofs.chained.RecordsSource.id_of.Goals as goal

pub returns-then-kind_of-eq0 : goal.returns-then-kind_of-eq0
returns-then-kind_of-eq0 c = search (rules, id_none)

pub returns-else-kind_of-eq0 : goal.returns-else-kind_of-eq0
returns-else-kind_of-eq0 c = search (rules, id_here)
