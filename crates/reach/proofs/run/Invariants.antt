-- `run`: record by record.
use Rattle.std.proofs.Common.{◌≡◌, length}
use Rattle.std.specs.Prelude.{not, eqb}
use Rattle.reach.specs.Walk.{Running}
use Rattle.reach.proofs.run.Given as goal

abbrev pub invariant-loop-k : goal.invariant-loop-k
invariant-loop-k g l = (length l.places ≡ length l.initial.places) × Running l.sheet (not (eqb g.row.GIVEN 0)) l.initial.places l.initial.queue.records l.initial.queue.end l.places l.queue.records l.k l.queue.end
