-- `inner`: the edges of the nodes below x.
use Rattle.std.proofs.Common.{◌≡◌, length}
use Rattle.candidates.specs.Inner.{InnerAll}
use Rattle.candidates.proofs.inner.inner.Given as goal

abbrev pub invariant-loop-x : goal.invariant-loop-x
invariant-loop-x l = (length l.ws ≡ length l.initial.ws) × InnerAll l.n l.x l.initial.ws l.ws
