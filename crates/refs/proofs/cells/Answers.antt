-- `cells`: all are left at first.
use Rattle.std.proofs.Common.{◌∙◌, refl}
use Rattle.refs.specs.Children.{walks_start}
use Rattle.refs.proofs.cells.Goals as goal

pub loop-c-init : goal.loop-c-init
loop-c-init c = walks_start _ _ _ _ refl (c.into_iter-c-iterator.ensures.into_iter_gives ∙ c.records-c-items.ensures)
