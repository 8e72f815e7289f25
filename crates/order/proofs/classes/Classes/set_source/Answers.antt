-- `set_source`: in its part.
use Rattle.std.specs.Prelude.{set, refl, ◌+◌}
use Rattle.std.proofs.Common.{◌∙◌, ap, rules}
use Rattle.order.specs.Notes.{source_set}
use Rattle.order.proofs.classes.Classes.set_source.Goals as goal

pub returns : goal.returns
returns c = source_set _ _ c.self.invariant _ _ _ (search rules) refl refl refl ∙ ap (λ m. set m (4096 + c.ref_of.result) c.args.w) c.self.view_is ∙ ap (λ r. set c.args.self.now (4096 + r) c.args.w) c.ref_of.ensures
