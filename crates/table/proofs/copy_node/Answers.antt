-- `copy_node`: the words of one node at another.
use Rattle.table.specs.Joins.{copied-node}
use borrow.Author.Rules.{rules}
use Rattle.table.proofs.copy_node.Goals as goal

pub returns : goal.returns
returns c = search (rules, copied-node)
