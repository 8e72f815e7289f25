-- `gather`: the next node that x leads to is taken.
use Rattle.std.proofs.Common.{rules}
use Rattle.candidates.specs.Spread.{taking_first, taking_after}
use Rattle.candidates.proofs.rows.gather.Goals as goal

pub loop-next-init : goal.loop-next-init
loop-next-init c = search (rules, taking_first)

pub loop-next-preserved : goal.loop-next-preserved
loop-next-preserved c = search (rules, taking_after)
