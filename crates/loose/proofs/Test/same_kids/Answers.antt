-- `same_kids`: two rows of one length.
use Rattle.std.proofs.Common.{rules}
use Rattle.loose.specs.Loose.{kids-same}
use Rattle.loose.proofs.Test.same_kids.Goals as goal

pub returns-then-xs-ys : goal.returns-then-xs-ys
returns-then-xs-ys c = search (rules, c.in-Some.ensures, c.in-Some-kids.ensures, kids-same)
