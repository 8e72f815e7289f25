-- `kind_of`: past the places a node is unknown.
use Rattle.std.proofs.Common.{rules}
use Rattle.transfer.specs.Records.{kind_here, kind_past}
use Rattle.transfer.proofs.chained.RecordsSource.kind_of.Goals as goal

pub returns-then-n-self : goal.returns-then-n-self
returns-then-n-self c = search (rules, kind_here)

pub returns-else-n-self : goal.returns-else-n-self
returns-else-n-self c = search (rules, kind_past)
