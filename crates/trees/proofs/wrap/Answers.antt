-- `wrap`: the words one place up, and the Def's before them.
use Rattle.std.proofs.Common.{rules}
use Rattle.trees.specs.Changes.{wrapped}
use Rattle.trees.proofs.wrap.Goals as goal

pub returns : goal.returns
returns c = search (rules, wrapped)
