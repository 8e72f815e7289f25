-- `first_on`: no bit up to word j.
use Rattle.std.proofs.Common.{◌*◌}
use Rattle.candidates.specs.Spread.{Clear}
use Rattle.candidates.proofs.rows.first_on.Given as goal

abbrev pub invariant-loop-j : goal.invariant-loop-j
invariant-loop-j l = Clear l.ws l.p (32 * l.k) (32 * l.j)
