-- The cycle of `go`: the rule is followed layer by layer, and the fuel falls.
use Rattle.std.proofs.Common.{◌+◌, ◌*◌}
use Rattle.table.specs.ChildTypes.{row_at}
use Rattle.order.specs.Kids.{Beside, Rows}
use Rattle.order.proofs.+meeting.Given as goal

abbrev pub decreases-across : goal.decreases-across
decreases-across l = 10 * l.left + 8

abbrev pub decreases-below : goal.decreases-below
decreases-below l = 10 * l.left + 9

abbrev pub decreases-beside : goal.decreases-beside
decreases-beside l = 10 * l.left + 7

abbrev pub decreases-cell : goal.decreases-cell
decreases-cell l = 10 * l.left + 5

abbrev pub decreases-go : goal.decreases-go
decreases-go l = 10 * l.left + 2

abbrev pub decreases-meet : goal.decreases-meet
decreases-meet l = 10 * l.left + 1

abbrev pub decreases-pair : goal.decreases-pair
decreases-pair l = 10 * l.left + 4

abbrev pub decreases-pairs : goal.decreases-pairs
decreases-pairs l = 10 * l.left + 7

abbrev pub decreases-rows : goal.decreases-rows
decreases-rows l = 10 * l.left + 8

abbrev pub invariant-beside-loop-j : goal.invariant-beside-loop-j
invariant-beside-loop-j l = Beside l.sides.sheet.now l.sides.places.now l.sides.table.now l.initial.m l.head (row_at l.sides.table.now l.z l.n) l.b l.m l.c l.j

abbrev pub invariant-pairs-loop-j : goal.invariant-pairs-loop-j
invariant-pairs-loop-j l = Rows l.sides.sheet.now l.sides.places.now l.sides.table.now l.initial.m l.xs l.ys l.b l.m l.j
