-- `sheet_acyclic` lends the words that the walks use.
use Rattle.std.proofs.Common.{rules}
use Rattle.acyclic.specs.Sheets.{lent_outside}
use Rattle.acyclic.proofs.sheet_acyclic.Goals as goal

pub returns-clause-value : goal.returns-clause-value
returns-clause-value c = search (rules, lent_outside)

pub returns-clause-outside : goal.returns-clause-outside
returns-clause-outside c = search (rules, lent_outside)
