-- `type_read`: a field of the head.
use Rattle.table.specs.ChildTypes.{type_read_word}
use borrow.Author.Rules.{rules}
use Rattle.table.proofs.type_read.Goals as goal

pub returns : goal.returns
returns c = search (rules, type_read_word)
