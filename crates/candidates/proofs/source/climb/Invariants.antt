-- `climb`: the marks, and the ancestors of d still to be marked.
use Rattle.std.proofs.Common.{◌-◌, ◌≡◌, length}
use Rattle.candidates.specs.Index.{Indexes}
use Rattle.candidates.specs.Source.{Climbing}
use Rattle.candidates.proofs.source.climb.Given as goal

abbrev pub invariant-loop : goal.invariant-loop
invariant-loop l = (length l.ws ≡ length l.initial.ws) × Indexes l.s l.ws × Climbing l.s l.src l.initial.ws l.ws l.d (l.n - l.counter)
