-- `mark_each`: those so far are marked.
use Rattle.chart.specs.Ancestors.{Marked}
use Rattle.chart.proofs.scope.mark_each.Given as goal

abbrev pub invariant-loop-d : goal.invariant-loop-d
invariant-loop-d l = Marked l.marks l.yielded
