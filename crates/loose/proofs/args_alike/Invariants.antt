-- `args_alike`: one by one.
use Rattle.loose.specs.Loose.{ArgsGone}
use Rattle.loose.proofs.args_alike.Given as goal

abbrev pub invariant-loop-k : goal.invariant-loop-k
invariant-loop-k l = ArgsGone l.ws l.initial.labels.of l.p l.q l.k l.labels.of
