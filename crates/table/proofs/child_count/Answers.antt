-- `child_count`: an unknown node has no children.
use Rattle.std.proofs.Common.{◌∙◌, ap, min, refl, sym}
use Rattle.table.specs.Reads.{children-none, arity_min}
use Rattle.table.proofs.child_count.Goals as goal

pub returns-in-Some : goal.returns-in-Some
returns-in-Some c = c.min.ensures ∙ ap (min 8) c.arity.ensures ∙ arity_min _ _ _ _ refl c.in-Some.ensures.known c.in-Some.ensures.is

pub returns-in-None : goal.returns-in-None
returns-in-None c = children-none _ _ _ (sym c.in-None.ensures.none) refl
