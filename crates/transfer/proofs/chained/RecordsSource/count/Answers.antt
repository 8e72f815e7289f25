-- `count`: a node for each place.
use Rattle.std.proofs.Common.{rules}
use Rattle.transfer.specs.Records.{indexed-count}
use Rattle.transfer.proofs.chained.RecordsSource.count.Goals as goal

pub returns : goal.returns
returns c = search (rules, indexed-count)
