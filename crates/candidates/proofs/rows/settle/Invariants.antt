-- `settle`: rows grow.
use Rattle.std.proofs.Common.{◌≡◌, length}
use Rattle.candidates.specs.Spread.{Settling}
use Rattle.candidates.proofs.rows.settle.Given as goal

abbrev pub invariant-loop-q : goal.invariant-loop-q
invariant-loop-q l = (length l.ws ≡ length l.initial.ws) × Settling l.n l.m l.initial.ws l.ws
