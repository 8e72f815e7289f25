-- `copy_table`: the words of its nodes are the whole table.
use Rattle.std.proofs.Common.{rules}
use Rattle.slots.specs.Copies.{tabled}
use Rattle.slots.proofs.copy_table.Goals as goal

pub returns : goal.returns
returns c = search (rules, tabled)
