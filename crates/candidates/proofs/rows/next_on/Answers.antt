-- `next_on`: in the word of y, or after it.
use Rattle.std.proofs.Common.{rules}
use Rattle.candidates.specs.Spread.{next_found, next_over, next_later}
use Rattle.candidates.proofs.rows.next_on.Goals as goal

pub returns-then-w-eq0 : goal.returns-then-w-eq0
returns-then-w-eq0 c = search (rules, next_later)

pub returns-then-i-n : goal.returns-then-i-n
returns-then-i-n c = search (rules, next_found)

pub returns-else-i-n : goal.returns-else-i-n
returns-else-i-n c = search (rules, next_over)
