-- `occurs_in` and `occurs_among`: the rank falls from a type to the children of its root; of the children passed none has anything of v.
use Rattle.std.proofs.Common.{◌+◌, ◌*◌, ◌/◌}
use Rattle.rules.specs.RootRank.{rank}
use Rattle.table.specs.Packing.{types_of}
use Rattle.walks.specs.Occurs.{Scan}
use Rattle.walks.proofs.+occurs_walk.Given as goal

abbrev pub decreases-occurs_among : goal.decreases-occurs_among
decreases-occurs_among l = 2 * rank (types_of l.ws.now) l.n

abbrev pub decreases-occurs_in : goal.decreases-occurs_in
decreases-occurs_in l = 2 * rank (types_of l.ws.now) (l.t / 2) + 1

abbrev pub invariant-occurs_among-loop-i : goal.invariant-occurs_among-loop-i
invariant-occurs_among-loop-i l = Scan (types_of l.ws) l.v l.n l.i l.marks
