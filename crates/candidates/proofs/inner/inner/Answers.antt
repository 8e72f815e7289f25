-- `inner`: the edges of the nodes below x.
use Rattle.std.proofs.Common.{rules}
use Rattle.candidates.specs.Inner.{all_more}
use Rattle.candidates.proofs.inner.inner.Goals as goal

pub loop-x-preserved : goal.loop-x-preserved
loop-x-preserved c = (search rules, search (rules, all_more))
