-- The cells from a head: none is left.
use Rattle.std.proofs.Common.{rules}
use Rattle.loading.specs.Nodes.{reading_done}
use Rattle.loading.proofs.read_cells.Goals as goal

pub returns : goal.returns
returns c = search (rules, reading_done)
