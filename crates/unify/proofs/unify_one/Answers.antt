-- `unify_one`: fuel for one level more than there are nodes.
use Rattle.std.proofs.Common.{rules, arith}
use Rattle.unify.specs.Lists.{full_fuelled, unify_full, count_few}
use Rattle.unify.proofs.unify_one.Goals as goal

pub overflow_add-n : goal.overflow_add-n
overflow_add-n c = omega (arith, count_few _ _ c.count-n.ensures)

pub unify_in-requires-clause-fuelled : goal.unify_in-requires-clause-fuelled
unify_in-requires-clause-fuelled c = search (rules, full_fuelled)

pub returns : goal.returns
returns c = search (rules, unify_full)
