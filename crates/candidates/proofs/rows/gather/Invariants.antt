-- `gather`: what the nodes before the next have is taken.
use Rattle.std.proofs.Common.{◌-◌, ◌≡◌, length}
use Rattle.candidates.specs.Spread.{or_end, Below, Taking}
use Rattle.candidates.proofs.rows.gather.Given as goal

abbrev pub invariant-loop-next : goal.invariant-loop-next
invariant-loop-next l = (length l.ws ≡ length l.initial.ws) × Below l.n l.next × Taking l.n l.m l.x (or_end l.n l.next) l.initial.ws l.ws l.changed

abbrev pub decreases-loop-next : goal.decreases-loop-next
decreases-loop-next l = l.n - or_end l.n l.next
