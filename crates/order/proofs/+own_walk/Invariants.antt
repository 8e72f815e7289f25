-- The cycle of `own`: the root and then its children, and the fuel falls.
use Rattle.std.proofs.Common.{◌+◌, ◌*◌}
use Rattle.order.specs.Owning.{Owning}
use Rattle.order.proofs.+own_walk.Given as goal

abbrev pub decreases-own : goal.decreases-own
decreases-own l = 2 * l.left

abbrev pub decreases-own_all : goal.decreases-own_all
decreases-own_all l = 2 * l.left + 1

abbrev pub invariant-own_all-loop-j : goal.invariant-own_all-loop-j
invariant-own_all-loop-j l = Owning l.sides.sheet.now l.sides.places.now l.sides.table.now l.initial.m l.row l.m l.j
