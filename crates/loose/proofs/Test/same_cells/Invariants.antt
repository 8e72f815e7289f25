-- `same_cells`: cell by cell.
use Rattle.table.specs.ChildTypes.{row_at}
use Rattle.loose.specs.LooseAcross.{Beside}
use Rattle.loose.proofs.Test.same_cells.Given as goal

abbrev pub invariant-loop-j : goal.invariant-loop-j
invariant-loop-j l = Beside l.self.sides.sheet.now l.initial.labels.of l.head (row_at l.self.sides.table.now l.z l.n) l.labels.of l.c l.j
