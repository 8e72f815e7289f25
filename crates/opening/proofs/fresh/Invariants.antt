-- `fresh`: what is left to push makes the same table.
use Rattle.std.proofs.Common.{◌≡◌, length}
use Rattle.opening.specs.Fresh.{Freshening}
use Rattle.opening.proofs.fresh.Given as goal

abbrev pub invariant-loop-i : goal.invariant-loop-i
invariant-loop-i l = Freshening l.initial.ws l.ws l.n l.i × (length l.ws ≡ length l.initial.ws)
