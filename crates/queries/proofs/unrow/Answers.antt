-- `unrow`: the four cut out and put together.
use Rattle.std.proofs.Common.{rules}
use Rattle.queries.specs.Rows.{unrowed}
use Rattle.queries.proofs.unrow.Goals as goal

pub returns : goal.returns
returns c = search (rules, unrowed)
