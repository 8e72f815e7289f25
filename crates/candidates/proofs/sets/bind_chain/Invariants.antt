-- `bind_chain`: the impls of the bindings so far are entered.
use Rattle.std.proofs.Common.{◌≡◌, length}
use Rattle.candidates.specs.Sets.{Binding, Enters}
use Rattle.candidates.proofs.sets.bind_chain.Given as goal

abbrev pub invariant-loop-b : goal.invariant-loop-b
invariant-loop-b l = (length l.ws ≡ length l.initial.ws) × Binding l.d l.s l.ws × Enters l.s l.d l.yielded l.initial.ws l.ws
