-- `sizes`: two classes have no more nodes than the table.
use Rattle.table.specs.Joins.{sizes_fit}
use borrow.Author.Rules.{rules}
use Rattle.table.proofs.sizes.Goals as goal

pub returns-clause-small : goal.returns-clause-small
returns-clause-small c = search (rules, sizes_fit)
