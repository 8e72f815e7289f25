-- `link`: by its part.
use Rattle.std.proofs.Common.{◌∙◌, ap, rules}
use Rattle.rules.specs.Sheet.{at}
use Rattle.order.specs.Notes.{at_link}
use Rattle.order.proofs.classes.Classes.link.Goals as goal

pub returns : goal.returns
returns c = at_link _ _ c.self.invariant _ (search rules) ∙ ap (λ m. at m c.ref_of.result) c.self.view_is ∙ ap (λ r. at c.args.self.now r) c.ref_of.ensures
