-- `put_leaf`: a count of 1, and the leaf's word.
use Rattle.std.proofs.Common.{rules}
use Rattle.trees.specs.Changes.{leaf_held}
use Rattle.trees.proofs.put_leaf.Goals as goal

pub returns : goal.returns
returns c = search (rules, leaf_held)
