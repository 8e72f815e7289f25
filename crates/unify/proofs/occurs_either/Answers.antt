-- `occurs_either`: one after the other.
use Rattle.std.proofs.Common.{rules}
use Rattle.unify.specs.Binding.{right_there, left_there}
use Rattle.unify.proofs.occurs_either.Goals as goal

pub occurs_at-requires-clause-t_in_bounds : goal.occurs_at-requires-clause-t_in_bounds
occurs_at-requires-clause-t_in_bounds c = search (rules, right_there)

pub occurs_at-requires-else-occurs_at-clause-t_in_bounds : goal.occurs_at-requires-else-occurs_at-clause-t_in_bounds
occurs_at-requires-else-occurs_at-clause-t_in_bounds c = search (rules, left_there)
