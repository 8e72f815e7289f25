-- `bind_all`: what the first d definitions bind is entered.
use Rattle.std.proofs.Common.{◌≡◌, length}
use Rattle.candidates.specs.Sets.{Bound}
use Rattle.candidates.proofs.sets.bind_all.Given as goal

abbrev pub invariant-loop-d : goal.invariant-loop-d
invariant-loop-d l = (length l.ws ≡ length l.initial.ws) × Bound l.s l.d l.initial.ws l.ws
