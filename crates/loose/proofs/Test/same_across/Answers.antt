-- `same_across`: what its cells say.
use Rattle.std.proofs.Common.{rules}
use Rattle.loose.specs.LooseAcross.{across_same}
use Rattle.loose.proofs.Test.same_across.Goals as goal

pub returns : goal.returns
returns c = search (rules, c.in-Some.ensures, across_same)
