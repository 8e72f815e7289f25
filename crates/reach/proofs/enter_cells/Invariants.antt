-- `enter_cells`: cell by cell.
use Rattle.std.proofs.Common.{◌≡◌, length}
use Rattle.std.specs.Prelude.{not, eqb}
use Rattle.reach.specs.Walk.{Turning}
use Rattle.reach.proofs.enter_cells.Given as goal

abbrev pub invariant-loop-c : goal.invariant-loop-c
invariant-loop-c g l = (length l.places ≡ length l.initial.places) × Turning l.sheet (not (eqb g.row.GIVEN 0)) l.initial.places l.initial.queue.records l.initial.queue.end l.head l.places l.queue.records l.queue.end l.c-iterator
