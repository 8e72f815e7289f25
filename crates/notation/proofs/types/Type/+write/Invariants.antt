-- `write` and `write_chain`: a level less each time.
use Rattle.std.proofs.Common.{◌+◌, ◌*◌}
use Rattle.notation.proofs.types.Type.+write.Given as goal

abbrev pub decreases-write_chain : goal.decreases-write_chain
decreases-write_chain g l = 2 * l.levels + 1

abbrev pub decreases-write : goal.decreases-write
decreases-write g l = 2 * l.levels
