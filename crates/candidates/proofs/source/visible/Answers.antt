-- `visible`: the cases of a vis.
use Rattle.std.proofs.Common.{rules}
use Rattle.candidates.specs.Source.{seen_public, seen-marked, seen_past}
use Rattle.candidates.proofs.source.visible.Goals as goal

pub returns-in-None : goal.returns-in-None
returns-in-None c = search (rules, seen_public)

pub returns-then-a-lt-MARKS : goal.returns-then-a-lt-MARKS
returns-then-a-lt-MARKS c = search (rules, seen-marked)

pub returns-else-a-lt-MARKS : goal.returns-else-a-lt-MARKS
returns-else-a-lt-MARKS c = search (rules, seen_past)
