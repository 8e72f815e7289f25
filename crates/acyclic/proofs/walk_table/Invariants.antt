-- `walk_table`: the nodes passed are finished.
use Rattle.std.proofs.Common.{◌≡◌, length}
use Rattle.acyclic.specs.Tables.{Walks}
use Rattle.acyclic.proofs.walk_table.Given as goal

abbrev pub invariant-loop-node : goal.invariant-loop-node
invariant-loop-node l = (length l.ws ≡ length l.initial.ws) × Walks l.s l.head l.ws l.node
