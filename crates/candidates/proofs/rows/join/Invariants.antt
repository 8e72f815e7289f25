-- `join`: so many words are joined.
use Rattle.std.proofs.Common.{◌≡◌}
use Rattle.candidates.specs.Bits.{join_words, Moved}
use Rattle.candidates.proofs.rows.join.Given as goal

abbrev pub invariant-loop-k : goal.invariant-loop-k
invariant-loop-k l = (l.ws ≡ join_words l.k l.a l.b l.initial.ws) × Moved l.initial.ws l.ws l.changed
