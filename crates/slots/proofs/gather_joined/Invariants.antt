-- `gather_joined`: k of the results are added.
use Rattle.std.proofs.Common.{◌≤◌, ◌≡◌, length}
use Rattle.slots.specs.Gathering.{JoinGathering}
use Rattle.slots.proofs.gather_joined.Given as goal

abbrev pub invariant-loop-k : goal.invariant-loop-k
invariant-loop-k l = JoinGathering l.initial.ws l.ws l.element l.from l.n l.found l.fn.sub.n l.k × (l.found ≤ 4) × (length l.ws ≡ length l.initial.ws)
