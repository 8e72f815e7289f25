-- `mark_each`: one more ancestor, with a word or without.
use Rattle.std.proofs.Common.{rules}
use Rattle.chart.specs.Ancestors.{marked_none, marked_more, marked_past}
use Rattle.chart.proofs.scope.mark_each.Goals as goal

pub loop-d-init : goal.loop-d-init
loop-d-init c = search (rules, marked_none)

pub loop-d-preserved-then-d-marks : goal.loop-d-preserved-then-d-marks
loop-d-preserved-then-d-marks c = search (rules, marked_more)

pub loop-d-preserved : goal.loop-d-preserved
loop-d-preserved c = search (rules, marked_past)
