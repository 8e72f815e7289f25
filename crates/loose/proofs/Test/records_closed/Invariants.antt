-- `records_closed`: one by one.
use Rattle.loose.specs.Loose.{RecordsGone}
use Rattle.loose.proofs.Test.records_closed.Given as goal

abbrev pub invariant-loop-i : goal.invariant-loop-i
invariant-loop-i l = RecordsGone l.self.sides.sheet.now l.self.sides.places.now l.self.sides.table.now l.initial.labels.of l.self.free l.down l.n l.i l.labels.of
