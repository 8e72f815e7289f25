-- `acyclic_table` lends the words that the walk uses.
use Rattle.std.proofs.Common.{rules}
use Rattle.acyclic.specs.Sheets.{lent_outside}
use Rattle.acyclic.proofs.acyclic_table.Goals as goal

pub returns-clause-value : goal.returns-clause-value
returns-clause-value c = search (rules, lent_outside)

pub returns-clause-outside : goal.returns-clause-outside
returns-clause-outside c = search (rules, lent_outside)
