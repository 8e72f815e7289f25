-- `inverted_of`: an unknown node is not inverted.
use Rattle.std.proofs.Common.{◌∙◌, refl, sym}
use Rattle.table.specs.Reads.{inverted_none, inverted_here}
use Rattle.table.proofs.inverted_of.Goals as goal

pub returns-in-Some : goal.returns-in-Some
returns-in-Some c = c.is_inverted.ensures ∙ inverted_here _ _ _ refl c.in-Some.ensures.known _ c.in-Some.ensures.is

pub returns-in-None : goal.returns-in-None
returns-in-None c = inverted_none _ _ _ (sym c.in-None.ensures.none) refl
