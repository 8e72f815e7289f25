-- `last`: by whether there are children.
use Rattle.table.specs.Writes.{last_none, last_some}
use Rattle.std.proofs.Common.{rules}
use Rattle.table.proofs.known.KnownType.last.Goals as goal

pub returns-then-is_empty : goal.returns-then-is_empty
returns-then-is_empty c = search (rules, last_none)

pub returns : goal.returns
returns c = search (rules, last_some)
