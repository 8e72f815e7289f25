-- `gather_wrapped`: k of the results are added.
use Rattle.slots.specs.Adding.{under}
use Rattle.slots.specs.Gathering.{Gathering}
use Rattle.slots.proofs.gather_wrapped.Given as goal

abbrev pub invariant-loop-k : goal.invariant-loop-k
invariant-loop-k l = Gathering (under l.id) l.initial.ws l.ws l.from l.n l.found l.fn.sub.n l.k
