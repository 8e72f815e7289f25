-- `copy_within`: the count and the words behind it, which are not overwritten.
use Rattle.std.proofs.Common.{rules}
use Rattle.trees.specs.Changes.{copied}
use Rattle.trees.proofs.copy_within.Goals as goal

pub returns : goal.returns
returns c = search (rules, copied)
