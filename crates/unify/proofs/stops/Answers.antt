-- `stops`: only where none is tried after the first that does not succeed.
use Rattle.std.proofs.Common.{rules}
use Rattle.unify.proofs.Success.{stops_told}
use Rattle.unify.proofs.stops.Goals as goal

pub returns-then-not-whole : goal.returns-then-not-whole
returns-then-not-whole c = search (rules, stops_told)
