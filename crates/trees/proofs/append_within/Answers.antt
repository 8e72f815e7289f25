-- `append_within`: the words of the second, which are not overwritten, behind those of the first, and the count of both.
use Rattle.std.proofs.Common.{rules}
use Rattle.trees.specs.Changes.{appended}
use Rattle.trees.proofs.append_within.Goals as goal

pub returns : goal.returns
returns c = search (rules, appended)
