-- `selves`: so many nodes have their own bit.
use Rattle.std.proofs.Common.{◌≡◌, length}
use Rattle.candidates.specs.Inner.{Selves}
use Rattle.candidates.proofs.inner.selves.Given as goal

abbrev pub invariant-loop-x : goal.invariant-loop-x
invariant-loop-x l = (length l.ws ≡ length l.initial.ws) × Selves l.x l.initial.ws l.ws
