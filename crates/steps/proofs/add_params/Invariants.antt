-- `add_params`: k of them are done.
use Rattle.std.proofs.Common.{◌≡◌, length}
use Rattle.steps.specs.Params.{ParamsDone}
use Rattle.steps.proofs.add_params.Given as goal

abbrev pub invariant-loop-k : goal.invariant-loop-k
invariant-loop-k l = ParamsDone l.sheet l.f l.q l.ps l.fn.found l.initial.ws l.ws l.k l.found × (length l.places ≡ length l.initial.places) × (length l.map ≡ length l.initial.map)
