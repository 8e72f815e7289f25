-- `meet_cells`: cell by cell, as the children go.
use Rattle.table.specs.ChildTypes.{row_at}
use Rattle.meeting.specs.Across.{Crosses}
use Rattle.meeting.proofs.state.Meeting.meet_cells.Given as goal

abbrev pub invariant-loop-j : goal.invariant-loop-j
invariant-loop-j l = Crosses l.sides.sheet.now l.sides.places.now l.sides.table.now l.initial.self l.head l.b (row_at l.sides.table.now l.y l.n) l.self l.c l.j
