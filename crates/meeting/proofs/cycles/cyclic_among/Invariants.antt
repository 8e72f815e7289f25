-- `cyclic_among`: from ref to ref; between them no more are open.
use Rattle.meeting.specs.Cycles.{Kept}
use Rattle.meeting.proofs.cycles.cyclic_among.Given as goal

abbrev pub invariant-loop-r : goal.invariant-loop-r
invariant-loop-r l = Kept l.initial.marks l.marks
