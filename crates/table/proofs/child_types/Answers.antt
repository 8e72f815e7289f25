-- `child_types`: the words of a known node.
use Rattle.table.specs.ChildTypes.{types_own}
use borrow.Author.Rules.{rules}
use mathlib.Core.Path.{refl}
use Rattle.table.proofs.child_types.Goals as goal

pub returns : goal.returns
returns c = types_own _ _ _ _ _ _ _ _ _ c.requires.n_nonzero refl refl refl (search rules) refl refl refl _ c.types_read.ensures
