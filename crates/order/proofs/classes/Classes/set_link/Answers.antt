-- `set_link`: in its part.
use Rattle.std.specs.Prelude.{set, refl}
use Rattle.std.proofs.Common.{◌∙◌, ap, rules}
use Rattle.order.specs.Notes.{link_set}
use Rattle.order.proofs.classes.Classes.set_link.Goals as goal

pub returns : goal.returns
returns c = link_set _ _ c.self.invariant _ _ _ (search rules) refl refl refl ∙ ap (λ m. set m c.ref_of.result c.args.w) c.self.view_is ∙ ap (λ r. set c.args.self.now r c.args.w) c.ref_of.ensures
