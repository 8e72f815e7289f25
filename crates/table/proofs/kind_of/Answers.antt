-- `kind_of`: past the end a node is unknown.
use Rattle.std.proofs.Common.{◌∙◌, refl}
use Rattle.table.specs.Reads.{kind_here, kind_past}
use Rattle.table.proofs.kind_of.Goals as goal

pub returns-in-Some : goal.returns-in-Some
returns-in-Some c = c.kind.ensures ∙ kind_here _ _ _ _ refl c.in-Some.ensures.there c.in-Some.ensures.is

pub returns-in-None : goal.returns-in-None
returns-in-None c = kind_past _ _ _ refl c.in-None.ensures.past
