-- `more`: by its part.
use Rattle.std.specs.Prelude.{◌+◌}
use Rattle.std.proofs.Common.{◌∙◌, ap, rules}
use Rattle.rules.specs.Sheet.{at}
use Rattle.order.specs.Notes.{at_more}
use Rattle.order.proofs.classes.Classes.more.Goals as goal

pub returns : goal.returns
returns c = at_more _ _ c.self.invariant _ (search rules) ∙ ap (λ m. at m (2048 + c.ref_of.result)) c.self.view_is ∙ ap (λ r. at c.args.self.now (2048 + r)) c.ref_of.ensures
