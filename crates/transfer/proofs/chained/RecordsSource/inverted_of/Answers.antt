-- `inverted_of`: an unknown node is not inverted.
use Rattle.std.proofs.Common.{rules}
use Rattle.transfer.specs.Records.{inverted_here, inverted_none}
use Rattle.transfer.proofs.chained.RecordsSource.inverted_of.Goals as goal

pub returns-then-kind_of-ne0 : goal.returns-then-kind_of-ne0
returns-then-kind_of-ne0 c = search (rules, inverted_here)

pub returns-else-kind_of-ne0 : goal.returns-else-kind_of-ne0
returns-else-kind_of-ne0 c = search (rules, inverted_none)
