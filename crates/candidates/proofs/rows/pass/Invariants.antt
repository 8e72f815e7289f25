-- `pass`: so many nodes have had their turn.
use Rattle.std.proofs.Common.{◌≡◌, length}
use Rattle.candidates.specs.Spread.{Rows, Passed}
use Rattle.candidates.proofs.rows.pass.Given as goal

abbrev pub invariant-loop-x : goal.invariant-loop-x
invariant-loop-x l = (length l.ws ≡ length l.initial.ws) × Rows l.n l.m l.ws × Passed l.n l.m l.x l.initial.ws l.ws l.changed
