-- `clear_table`: a count of none.
use Rattle.table.specs.Copies.{cleared-table}
use borrow.Author.Rules.{rules}
use Rattle.table.proofs.clear_table.Goals as goal

pub returns : goal.returns
returns c = search (rules, cleared-table)
