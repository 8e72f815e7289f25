-- `first_on`: in the word of j, or after it.
use Rattle.std.proofs.Common.{rules}
use Rattle.candidates.specs.Spread.{word_found, word_past, clear_zero}
use Rattle.candidates.proofs.rows.first_on.Goals as goal

pub returns-then-i-n : goal.returns-then-i-n
returns-then-i-n c = search (rules, word_found)

pub returns-else-i-n : goal.returns-else-i-n
returns-else-i-n c = search (rules, word_past)

pub loop-j-preserved : goal.loop-j-preserved
loop-j-preserved c = search (rules, clear_zero)
