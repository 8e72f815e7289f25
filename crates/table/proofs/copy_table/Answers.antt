-- `copy_table`: so many words are the whole table.
use Rattle.table.specs.Copies.{copied-table}
use borrow.Author.Rules.{rules}
use Rattle.table.proofs.copy_table.Goals as goal

pub returns : goal.returns
returns c = search (rules, copied-table)
