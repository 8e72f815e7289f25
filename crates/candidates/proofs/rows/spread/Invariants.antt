-- `spread`: turns go on while a pass changes anything.
use Rattle.std.proofs.Common.{◌≡◌, true, length}
use Rattle.candidates.specs.Bits.{slack}
use Rattle.candidates.specs.Spread.{Rows, Going}
use Rattle.candidates.proofs.rows.spread.Given as goal

abbrev pub invariant-loop-n : goal.invariant-loop-n
invariant-loop-n l = (length l.ws ≡ length l.initial.ws) × Rows l.n l.m l.ws × Going l.n l.m l.initial.ws l.ws true

abbrev pub decreases-loop-n : goal.decreases-loop-n
decreases-loop-n l = slack l.ws
