-- `are_alike_in`: one by one.
use Rattle.std.proofs.Common.{true}
use Rattle.loose.specs.Loose.{SameLabels}
use Rattle.loose.proofs.labelling.Labels.are_alike_in.Given as goal

abbrev pub invariant-loop-j : goal.invariant-loop-j
invariant-loop-j l = SameLabels l.initial.self.of l.j l.xs.types l.ys.types l.self.of true
