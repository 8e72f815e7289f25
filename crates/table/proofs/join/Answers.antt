-- `join`: by which class is larger.
use Rattle.table.specs.Joins.{join_first, join_second}
use borrow.Author.Rules.{rules}
use Rattle.table.proofs.join.Goals as goal

pub returns-then-size_of : goal.returns-then-size_of
returns-then-size_of c = search (rules, join_first)

pub returns : goal.returns
returns c = search (rules, join_second)
