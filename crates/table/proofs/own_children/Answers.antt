-- `own_children`: by the head.
use Rattle.table.specs.ChildTypes.{own_row}
use borrow.Author.Rules.{rules}
use Rattle.table.proofs.own_children.Goals as goal

pub returns : goal.returns
returns c = search (rules, own_row)
