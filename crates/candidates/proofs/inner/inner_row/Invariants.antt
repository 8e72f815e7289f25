-- `inner_row`: the edges to the nodes before the next have been looked at.
use Rattle.std.proofs.Common.{◌-◌, ◌≡◌, length}
use Rattle.candidates.specs.Spread.{or_end, Below}
use Rattle.candidates.specs.Inner.{Opening}
use Rattle.candidates.proofs.inner.inner_row.Given as goal

abbrev pub invariant-loop-next : goal.invariant-loop-next
invariant-loop-next l = (length l.ws ≡ length l.initial.ws) × Below l.n l.next × Opening l.n l.x (or_end l.n l.next) l.initial.ws l.ws

abbrev pub decreases-loop-next : goal.decreases-loop-next
decreases-loop-next l = l.n - or_end l.n l.next
