-- `inherent`: its record stands where the index says.
use Rattle.std.proofs.Common.{rules}
use Rattle.candidates.specs.Index.{inherent_is}
use Rattle.candidates.proofs.index.Records.inherent.Goals as goal

pub returns : goal.returns
returns c = search (rules, inherent_is)
