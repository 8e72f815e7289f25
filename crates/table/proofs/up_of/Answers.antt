-- `up_of`: past the end a node is a new unknown.
use Rattle.std.proofs.Common.{◌∙◌, refl}
use Rattle.table.specs.Reads.{up_in, up_past}
use Rattle.table.proofs.up_of.Goals as goal

pub returns-in-Some : goal.returns-in-Some
returns-in-Some c = c.up.ensures.is ∙ up_in _ _ _ _ refl c.in-Some.ensures.there c.in-Some.ensures.is

pub returns-in-None : goal.returns-in-None
returns-in-None c = up_past _ _ _ refl c.in-None.ensures.past
