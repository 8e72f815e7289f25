-- `read_children`: the first j are read.
use Rattle.table.specs.Packing.{types_of}
use Rattle.transfer.specs.Leaves.{Reading}
use Rattle.transfer.proofs.sources.PackedTableSource.read_children.Given as goal

abbrev pub invariant-loop-j : goal.invariant-loop-j
invariant-loop-j l = Reading (types_of l.self.0.now) l.n l.cs l.m l.j
