-- `next_apart`: the children passed are alike.
use borrow.Author.Rules.{rules}
use Rattle.table.specs.Alike.{parent_low, child_low, alike_more}
use Rattle.table.proofs.next_apart.Goals as goal

pub are_alike-requires-clause-x_bound : goal.are_alike-requires-clause-x_bound
are_alike-requires-clause-x_bound c = search (rules, parent_low)

pub are_alike-requires-clause-y_bound : goal.are_alike-requires-clause-y_bound
are_alike-requires-clause-y_bound c = search (rules, parent_low)

pub are_alike-requires-clause-j_bound : goal.are_alike-requires-clause-j_bound
are_alike-requires-clause-j_bound c = search (rules, child_low)

pub loop-j-preserved : goal.loop-j-preserved
loop-j-preserved c = search (rules, alike_more)
