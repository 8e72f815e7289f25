-- The question's table. The loop's invariant: the nodes of the records passed are there.
use Rattle.std.proofs.Common.{◌≡◌, length}
use Rattle.loading.specs.Tables.{Loading}
use Rattle.loading.proofs.load_table.Given as goal

abbrev pub invariant-loop-p : goal.invariant-loop-p
invariant-loop-p l =
    (goal.iterator-loop-p).can_next l.p-iterator
    × (goal.iterator-loop-p).is_finite l.p-iterator
    × (length l.dst ≡ length l.initial.dst)
    × Loading l.q l.dst l.yielded l.p-iterator
