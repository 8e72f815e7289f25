-- `look`: a record past the count has place 0.
use Rattle.std.proofs.Common.{rules}
use Rattle.candidates.specs.Index.{look_in, look_past}
use Rattle.candidates.proofs.index.look.Goals as goal

pub returns-then-id-next : goal.returns-then-id-next
returns-then-id-next c = search (rules, look_in)

pub returns-else-id-next : goal.returns-else-id-next
returns-else-id-next c = search (rules, look_past)
