-- `take`: nothing where the node leads to itself, else the rows are joined.
use Rattle.std.proofs.Common.{rules}
use Rattle.candidates.specs.Spread.{takes_self, takes_join}
use Rattle.candidates.proofs.rows.take.Goals as goal

pub returns-then-y-x : goal.returns-then-y-x
returns-then-y-x c = search (rules, takes_self)

pub returns : goal.returns
returns c = search (rules, takes_join)
