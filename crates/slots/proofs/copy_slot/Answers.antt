-- `copy_slot`: the table, and the trees behind it.
use Rattle.std.proofs.Common.{rules}
use Rattle.slots.specs.Copies.{filled_room, trees_few, trees_apart, doubled}
use Rattle.slots.proofs.copy_slot.Goals as goal

pub copy_within-requires-clause-trees_length_in_bounds : goal.copy_within-requires-clause-trees_length_in_bounds
copy_within-requires-clause-trees_length_in_bounds c = search (rules, filled_room)

pub copy_within-requires-clause-trees_length_in_bounds_2 : goal.copy_within-requires-clause-trees_length_in_bounds_2
copy_within-requires-clause-trees_length_in_bounds_2 c = search (rules, filled_room)

pub copy_within-requires-clause-a_bound : goal.copy_within-requires-clause-a_bound
copy_within-requires-clause-a_bound c = search (rules, trees_few)

pub copy_within-requires-clause-apart : goal.copy_within-requires-clause-apart
copy_within-requires-clause-apart c = search (rules, trees_apart)

pub returns : goal.returns
returns c = search (rules, doubled)
