-- `descend`: rows grow.
use Rattle.std.proofs.Common.{◌≡◌, length}
use Rattle.candidates.specs.Spread.{Settling}
use Rattle.candidates.proofs.rows.descend.Given as goal

abbrev pub invariant-loop-x : goal.invariant-loop-x
invariant-loop-x l = (length l.ws ≡ length l.initial.ws) × Settling l.n l.m l.initial.ws l.ws
