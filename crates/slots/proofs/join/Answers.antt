-- `join`: the table, the tree of the element, and the trees behind it.
use Rattle.std.proofs.Common.{rules}
use Rattle.slots.specs.Copies.{trees_apart}
use Rattle.slots.specs.Adding.{element_few, join_few, joined}
use Rattle.slots.proofs.join.Goals as goal

pub copy_within-requires-clause-a_bound : goal.copy_within-requires-clause-a_bound
copy_within-requires-clause-a_bound c = search (rules, element_few)

pub copy_within-requires-clause-apart : goal.copy_within-requires-clause-apart
copy_within-requires-clause-apart c = search (rules, trees_apart)

pub append_within-requires-clause-a_bound : goal.append_within-requires-clause-a_bound
append_within-requires-clause-a_bound c = search (rules, join_few)

pub append_within-requires-clause-apart : goal.append_within-requires-clause-apart
append_within-requires-clause-apart c = search (rules, trees_apart)

pub returns : goal.returns
returns c = search (rules, joined)
