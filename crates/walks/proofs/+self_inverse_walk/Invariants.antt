-- `self_inverse_in` and `self_inverse_all`: the rank falls from a type to the children of its root; the children passed are their own inverse.
use Rattle.std.proofs.Common.{◌+◌, ◌*◌, ◌/◌}
use Rattle.rules.specs.RootRank.{rank}
use Rattle.table.specs.Packing.{types_of}
use Rattle.walks.specs.SelfInverse.{Passed}
use Rattle.walks.proofs.+self_inverse_walk.Given as goal

abbrev pub decreases-self_inverse_all : goal.decreases-self_inverse_all
decreases-self_inverse_all l = 2 * rank (types_of l.ws.now) l.n

abbrev pub decreases-self_inverse_in : goal.decreases-self_inverse_in
decreases-self_inverse_in l = 2 * rank (types_of l.ws.now) (l.t / 2) + 1

abbrev pub invariant-self_inverse_all-loop-i : goal.invariant-self_inverse_all-loop-i
invariant-self_inverse_all-loop-i l = Passed l.s (types_of l.ws) l.n l.i l.marks
