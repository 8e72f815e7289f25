-- `copy_table_slot`: the table, and no trees.
use Rattle.std.proofs.Common.{rules}
use Rattle.slots.specs.Copies.{with_trees}
use Rattle.slots.proofs.copy_table_slot.Goals as goal

pub returns : goal.returns
returns c = search (rules, with_trees)
