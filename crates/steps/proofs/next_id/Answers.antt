-- `next_id`: the sets are the words before what signatures take.
use Rattle.std.proofs.Common.{rules}
use Rattle.steps.specs.Next.{sets_length, sets_index, sets_give}
use Rattle.steps.proofs.next_id.Goals as goal

pub slice_bounds-next-end : goal.slice_bounds-next-end
slice_bounds-next-end c = search (rules, sets_length)

pub next-requires-clause-indexes : goal.next-requires-clause-indexes
next-requires-clause-indexes c = search (rules, sets_index)

pub returns : goal.returns
returns c = search (rules, sets_give)
