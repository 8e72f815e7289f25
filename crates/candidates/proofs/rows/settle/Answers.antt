-- `settle`: rows grow.
use Rattle.std.proofs.Common.{rules}
use Rattle.candidates.specs.Spread.{settling_none, settling_more}
use Rattle.candidates.proofs.rows.settle.Goals as goal
use Rattle.candidates.proofs.rows.settle.Goals.{in-Some, in_default}

pub loop-q-init : goal.loop-q-init
loop-q-init c = search (rules, settling_none)

pub loop-q-preserved : goal.loop-q-preserved
loop-q-preserved c =
    elim c.match-stacked.branch [
      | in-Some w ↦ (search rules, search (rules, settling_more))
      | in_default w ↦ (search rules, search rules)
    ]
