-- `pack_trees`: the first record, the trees below it and those behind it. The measure is how many words there are.
use Rattle.std.proofs.Common.{◌-◌}
use Rattle.answer.proofs.+pack_trees.Given as goal

abbrev pub decreases-pack_trees : goal.decreases-pack_trees
decreases-pack_trees l = l.hi - l.lo
