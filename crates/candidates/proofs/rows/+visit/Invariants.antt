-- `visit`: rows grow, and x is at the next node that it leads to.
use Rattle.std.proofs.Common.{◌-◌, ◌≡◌, length}
use Rattle.candidates.specs.Spread.{or_end, Visited, WayOn}
use Rattle.candidates.proofs.rows.+visit.Given as goal

abbrev pub decreases-visit : goal.decreases-visit
decreases-visit l = l.left

abbrev pub invariant-loop-next : goal.invariant-loop-next
invariant-loop-next l = (length l.ws ≡ length l.initial.ws) × WayOn l.n l.m l.x l.ws l.next × Visited l.n l.m l.initial.ws l.ws

abbrev pub decreases-loop-next : goal.decreases-loop-next
decreases-loop-next l = l.n - or_end l.n l.next
