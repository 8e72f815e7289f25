-- `source`: by its part.
use Rattle.std.specs.Prelude.{◌+◌}
use Rattle.std.proofs.Common.{◌∙◌, ap, rules}
use Rattle.rules.specs.Sheet.{at}
use Rattle.order.specs.Notes.{at_source}
use Rattle.order.proofs.classes.Classes.source.Goals as goal

pub returns : goal.returns
returns c = at_source _ _ c.self.invariant _ (search rules) ∙ ap (λ m. at m (4096 + c.ref_of.result)) c.self.view_is ∙ ap (λ r. at c.args.self.now (4096 + r)) c.ref_of.ensures
