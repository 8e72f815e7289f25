-- The cells from a head. The loop's invariant: those passed are read.
use Rattle.std.proofs.Common.{◌≡◌, length}
use Rattle.loading.specs.Nodes.{Reading}
use Rattle.loading.proofs.read_cells.Given as goal

abbrev pub invariant-loop-p : goal.invariant-loop-p
invariant-loop-p l =
    (goal.iterator-loop-p).can_next l.p-iterator
    × (goal.iterator-loop-p).is_finite l.p-iterator
    × (length l.cs ≡ length l.initial.cs)
    × Reading l.q l.head l.cs l.yielded l.p-iterator l.m
