-- `take_child`: row y is taken, and the next sought.
use Rattle.std.proofs.Common.{rules}
use Rattle.candidates.specs.Spread.{child_next}
use Rattle.candidates.proofs.rows.take_child.Goals as goal

pub returns : goal.returns
returns c = search (rules, child_next)
