-- `inner_row`: the next edge is looked at.
use Rattle.std.proofs.Common.{rules}
use Rattle.candidates.specs.Inner.{opening_after}
use Rattle.candidates.proofs.inner.inner_row.Goals as goal

pub loop-next-preserved : goal.loop-next-preserved
loop-next-preserved c = search (rules, opening_after)
