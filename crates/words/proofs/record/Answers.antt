-- `record`: the tests say whether the record passes the end.
use Rattle.std.proofs.Common.{rules}
use Rattle.rules.specs.WordLaws.{record_in, record_long, record_past}
use Rattle.words.proofs.record.Goals as goal

pub returns-then-len-s : goal.returns-then-len-s
returns-then-len-s c = search (rules, record_in)

pub returns-else-len-s : goal.returns-else-len-s
returns-else-len-s c = search (rules, record_long)

pub returns-else-at-s : goal.returns-else-at-s
returns-else-at-s c = search (rules, record_past)
