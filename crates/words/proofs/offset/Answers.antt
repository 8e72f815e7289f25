-- `offset`: a word past the end is 0.
use Rattle.rules.specs.WordLaws.{offset_past, offset_long}
use Rattle.std.proofs.Common.{rules}
use Rattle.words.proofs.offset.Goals as goal

pub returns-else-p-s : goal.returns-else-p-s
returns-else-p-s c = search (rules, offset_long)

pub returns-else-k-s : goal.returns-else-k-s
returns-else-k-s c = search (rules, offset_past)
