-- `inverted_to`: by both types and both states.
use Rattle.std.proofs.Common.{rules}
use Rattle.unify.specs.Binding.{met}
use Rattle.unify.proofs.inverted_to.Goals as goal

pub returns : goal.returns
returns c = search (rules, met)
