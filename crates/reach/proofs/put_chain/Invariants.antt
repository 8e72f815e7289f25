-- `put_chain`: record by record.
use Rattle.std.proofs.Common.{◌≡◌, length}
use Rattle.reach.specs.Params.{Adding}
use Rattle.reach.proofs.put_chain.Given as goal

abbrev pub invariant-loop-k : goal.invariant-loop-k
invariant-loop-k l =
    (goal.iterator-loop-k).can_next l.k-iterator
    × (goal.iterator-loop-k).is_finite l.k-iterator
    × (length l.places ≡ length l.initial.places)
    × (length l.taken ≡ length l.initial.taken)
    × Adding l.sheet l.head l.first l.initial.taken l.taken l.k-iterator.count l.k-iterator.iter
