-- `find`: one read, since every node has its root.
use Rattle.table.specs.Reads.{find_here}
use borrow.Author.Rules.{rules}
use Rattle.table.proofs.find.Goals as goal

pub returns : goal.returns
returns c = search (rules, find_here)
