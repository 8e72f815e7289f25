-- `within` and `among`: what is left falls; of the children passed none has an open one within it.
use Rattle.std.proofs.Common.{◌+◌, ◌*◌}
use Rattle.meeting.specs.Cycles.{Kept}
use Rattle.meeting.proofs.cycles.+walk.Given as goal

abbrev pub decreases-among : goal.decreases-among
decreases-among l = 2 * l.left + 1

abbrev pub decreases-within : goal.decreases-within
decreases-within l = 2 * l.left

abbrev pub invariant-among-loop-j : goal.invariant-among-loop-j
invariant-among-loop-j l = Kept l.initial.marks l.marks
