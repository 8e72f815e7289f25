-- `nodes_closed`: one by one.
use Rattle.loose.specs.Loose.{NodesGone}
use Rattle.loose.proofs.Test.nodes_closed.Given as goal

abbrev pub invariant-loop-r : goal.invariant-loop-r
invariant-loop-r l = NodesGone l.self.sides.sheet.now l.self.sides.places.now l.self.sides.table.now l.initial.labels.of l.self.free l.r l.labels.of
