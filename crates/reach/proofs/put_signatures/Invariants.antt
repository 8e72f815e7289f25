-- `put_signatures`: record by record.
use Rattle.std.proofs.Common.{◌≡◌, length}
use Rattle.reach.specs.Impls.{Signing}
use Rattle.reach.proofs.put_signatures.Given as goal

abbrev pub invariant-loop-i : goal.invariant-loop-i
invariant-loop-i l =
    (goal.iterator-loop-i).can_next l.i-iterator
    × (goal.iterator-loop-i).is_finite l.i-iterator
    × (length l.places ≡ length l.initial.places)
    × (length l.taken ≡ length l.initial.taken)
    × Signing l.sheet l.taken l.i-iterator.count l.i-iterator.iter
