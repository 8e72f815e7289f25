-- `keeps`: the tests say which part of the rule decides.
use Rattle.std.proofs.Common.{rules}
use Rattle.marks.specs.Keeping.{keeps_short, keeps_past, keeps_last, keeps_next}
use Rattle.marks.proofs.keeps.Goals as goal
use Rattle.marks.proofs.keeps.Goals.{then-s-len-via-then-s-len, then-s-len-via-else-s-len+then-s-len-2}

pub returns-then-s-len : goal.returns-then-s-len
returns-then-s-len c = elim c.then-s-len.branch [
  | then-s-len-via-then-s-len w ↦ search (rules, keeps_short)
  | then-s-len-via-else-s-len+then-s-len-2 w ↦ search (rules, keeps_past)
]

pub returns-then-next-eq0 : goal.returns-then-next-eq0
returns-then-next-eq0 c = search (rules, keeps_last)

pub returns-else-next-eq0 : goal.returns-else-next-eq0
returns-else-next-eq0 c = search (rules, keeps_next)
