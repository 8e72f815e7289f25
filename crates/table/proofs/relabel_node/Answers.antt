-- `relabel_node`: by whether the node is of the class.
use Rattle.table.specs.Joins.{relabel_not, invert_small, relabel_yes}
use borrow.Author.Rules.{rules}
use Rattle.table.proofs.relabel_node.Goals as goal

pub returns-then-u-lo : goal.returns-then-u-lo
returns-then-u-lo c = search (rules, relabel_not)

pub set_up-requires-clause-u_bound : goal.set_up-requires-clause-u_bound
set_up-requires-clause-u_bound c = search (rules, invert_small)

pub returns : goal.returns
returns c = search (rules, relabel_yes)
