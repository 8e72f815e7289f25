-- `read_children`: the first j are read.
use Rattle.std.proofs.Common.{rules}
use Rattle.transfer.specs.Leaves.{reading_start, reading_next, reading_done}
use Rattle.transfer.proofs.sources.PackedTableSource.read_children.Goals as goal

pub loop-j-init : goal.loop-j-init
loop-j-init c = search (rules, reading_start)

pub loop-j-preserved : goal.loop-j-preserved
loop-j-preserved c = search (rules, reading_next)

pub returns : goal.returns
returns c = search (rules, reading_done)
