-- `walk`: between two cells of a node, what the cells passed name is finished. Its measure is the fuel.
use Rattle.std.proofs.Common.{◌≡◌, length}
use Rattle.acyclic.specs.Walk.{Turning}
use Rattle.acyclic.proofs.+walk.Given as goal

abbrev pub decreases-walk : goal.decreases-walk
decreases-walk l = l.fuel

abbrev pub invariant-loop-cell : goal.invariant-loop-cell
invariant-loop-cell l = (length l.ws ≡ length l.initial.ws) × Turning l.s l.head l.node l.initial.ws l.ws l.cell-iterator
