-- `clear`: a count of 0.
use Rattle.std.proofs.Common.{rules}
use Rattle.trees.specs.Changes.{empty_held}
use Rattle.trees.proofs.clear.Goals as goal

pub returns : goal.returns
returns c = search (rules, empty_held)
