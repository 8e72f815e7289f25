-- `mark`: in its part.
use Rattle.std.specs.Prelude.{set, ◌+◌}
use Rattle.std.proofs.Common.{◌∙◌, ap}
use Rattle.order.specs.Owning.{mark_set}
use Rattle.order.specs.Notes.{own_set}
use Rattle.order.proofs.classes.Classes.mark.Goals as goal

pub returns : goal.returns
returns c = rw (own_set _ _ c.self.invariant c.ref_of.result ∙ ap (λ m. set m (6144 + c.ref_of.result) 1) c.self.view_is) (mark_set _ _)
