-- `cells`: the cells passed are read.
use Rattle.std.proofs.Common.{◌∙◌}
use Rattle.transfer.specs.Cells.{passing_start}
use Rattle.transfer.proofs.chained.cells.Goals as goal

pub loop-c-init : goal.loop-c-init
loop-c-init c = passing_start _ _ _ _ c.requires.in_bounds c.requires.head_len_bound (c.into_iter-c-iterator.ensures.into_iter_gives ∙ c.records-c-items.ensures)
