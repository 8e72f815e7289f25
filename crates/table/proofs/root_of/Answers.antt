-- `root_of`: half of which type of its root it is.
use Rattle.table.specs.Reads.{root_half}
use borrow.Author.Rules.{rules}
use Rattle.table.proofs.root_of.Goals as goal

pub returns : goal.returns
returns c = search (rules, root_half)
