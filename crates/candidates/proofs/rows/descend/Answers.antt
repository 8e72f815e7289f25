-- `descend`: rows grow.
use Rattle.std.proofs.Common.{rules}
use Rattle.candidates.specs.Spread.{settling_none, settling_more}
use Rattle.candidates.proofs.rows.descend.Goals as goal

pub loop-x-init : goal.loop-x-init
loop-x-init c = search (rules, settling_none)

pub loop-x-preserved : goal.loop-x-preserved
loop-x-preserved c = (search rules, search (rules, settling_more))
