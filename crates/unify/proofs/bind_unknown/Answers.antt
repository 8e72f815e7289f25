-- `bind_unknown`: neither may occur in the other.
use Rattle.std.proofs.Common.{rules}
use Rattle.unify.specs.Binding.{bind_fails, bind_joins}
use Rattle.unify.proofs.bind_unknown.Goals as goal

pub returns-then-occurs_either : goal.returns-then-occurs_either
returns-then-occurs_either c = search (rules, bind_fails)

pub returns : goal.returns
returns c = search (rules, bind_joins)
