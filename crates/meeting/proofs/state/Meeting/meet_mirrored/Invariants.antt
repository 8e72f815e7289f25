-- `meet_mirrored`: one by one.
use Rattle.std.specs.Prelude.{false}
use Rattle.meeting.specs.Rows.{Goes}
use Rattle.meeting.proofs.state.Meeting.meet_mirrored.Given as goal

abbrev pub invariant-loop-j : goal.invariant-loop-j
invariant-loop-j l = Goes l.sides.sheet.now l.sides.places.now l.sides.table.now l.initial.self l.xs.n 1 l.xs.types l.xs.types l.self false
