-- `marked`: by its part.
use Rattle.std.specs.Prelude.{◌+◌}
use Rattle.std.proofs.Common.{◌∙◌, ap, rules}
use Rattle.rules.specs.Sheet.{at}
use Rattle.order.specs.Notes.{at_mark}
use Rattle.order.proofs.classes.Classes.marked.Goals as goal

pub returns : goal.returns
returns c = at_mark _ _ c.self.invariant _ (search rules) ∙ ap (λ m. at m (6144 + c.ref_of.result)) c.self.view_is ∙ ap (λ r. at c.args.self.now (6144 + r)) c.ref_of.ensures
