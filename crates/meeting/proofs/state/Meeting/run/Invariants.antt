-- `run`: pair by pair, the last first.
use Rattle.std.specs.Prelude.{false}
use Rattle.meeting.specs.Rows.{Ran}
use Rattle.meeting.proofs.state.Meeting.run.Given as goal

abbrev pub invariant-loop : goal.invariant-loop
invariant-loop l = Ran l.sides.sheet.now l.sides.places.now l.sides.table.now l.initial.self l.self false
