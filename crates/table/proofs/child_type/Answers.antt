-- `child_type`: the digit of one word.
use Rattle.table.specs.ChildTypes.{child_type_at}
use borrow.Author.Rules.{rules}
use Rattle.table.proofs.child_type.Goals as goal

pub returns : goal.returns
returns c = search (rules, child_type_at)
