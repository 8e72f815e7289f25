-- `type_of`: twice the node, and 1 if inverted.
use Rattle.table.specs.Joins.{made_type}
use borrow.Author.Rules.{rules}
use Rattle.table.proofs.type_of.Goals as goal

pub returns-clause-is : goal.returns-clause-is
returns-clause-is c = search (rules, made_type)
