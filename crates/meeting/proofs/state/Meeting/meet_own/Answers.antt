-- `meet_own`: by its root.
use Rattle.std.proofs.Common.{rules}
use Rattle.meeting.specs.Meeting.{own_found}
use Rattle.meeting.proofs.state.Meeting.meet_own.Goals as goal

pub returns : goal.returns
returns c = search (rules, own_found)
