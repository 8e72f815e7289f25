-- `copy`: the count and the words behind it.
use Rattle.std.proofs.Common.{rules}
use Rattle.trees.specs.Changes.{copied}
use Rattle.trees.proofs.copy.Goals as goal

pub returns : goal.returns
returns c = search (rules, copied)
