-- `met_child`: a child as it is met.
use Rattle.std.proofs.Common.{rules}
use Rattle.unify.specs.Children.{turned-child}
use Rattle.unify.proofs.met_child.Goals as goal

pub returns : goal.returns
returns c = search (rules, turned-child)
