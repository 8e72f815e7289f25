-- `write`: a level deeper each time.
use Rattle.std.proofs.Common.{◌-◌}
use Rattle.notation.proofs.tree.Tree.+write.Given as goal

abbrev pub decreases-write : goal.decreases-write
decreases-write g l = 32 - l.level
