-- `size_of`: past the end a node is a new unknown.
use Rattle.std.proofs.Common.{◌∙◌, refl}
use Rattle.table.specs.Reads.{size_in, size_past}
use Rattle.table.proofs.size_of.Goals as goal

pub returns-in-Some-clause-is : goal.returns-in-Some-clause-is
returns-in-Some-clause-is c = c.size.ensures.is ∙ size_in _ _ _ _ refl c.in-Some.ensures.there c.in-Some.ensures.is

pub returns-in-None-clause-is : goal.returns-in-None-clause-is
returns-in-None-clause-is c = size_past _ _ _ refl c.in-None.ensures.past
