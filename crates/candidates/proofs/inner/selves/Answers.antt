-- `selves`: so many nodes have their own bit.
use Rattle.std.proofs.Common.{rules, arith}
use Rattle.candidates.specs.Inner.{selves_more}
use Rattle.candidates.proofs.inner.selves.Goals as goal

pub loop-x-preserved : goal.loop-x-preserved
loop-x-preserved c = (search rules, selves_more c.args.n _ _ _ _ (omega arith) c.requires.0 (omega arith) c.loop-x.invariant.1 c.set_bit.ensures)
