-- `put_number`: one, two or three digits.
use Rattle.std.proofs.Common.{rules}
use Rattle.lines.specs.Text.{number-one, number_two, number_three}
use Rattle.lines.proofs.put_number.Goals as goal

pub returns-then-n-lt10 : goal.returns-then-n-lt10
returns-then-n-lt10 c = (search (rules, number-one), search rules)

pub returns-then-n-lt100 : goal.returns-then-n-lt100
returns-then-n-lt100 c = (search (rules, number_two), search rules)

pub returns : goal.returns
returns c = (search (rules, number_three), search rules)
