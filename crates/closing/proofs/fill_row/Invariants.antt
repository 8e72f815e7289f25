-- The type words of nodes 0, 1, 2 and on. The loop's invariant: the first i are written.
use Rattle.std.proofs.Common.{◌≡◌, length}
use Rattle.closing.specs.Rows.{Filling}
use Rattle.closing.proofs.fill_row.Given as goal

abbrev pub invariant-loop-i : goal.invariant-loop-i
invariant-loop-i l = (length l.row ≡ length l.initial.row) × Filling l.row l.n l.i
