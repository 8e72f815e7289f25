-- `meet_known`: what differs.
use Rattle.std.proofs.Common.{rules}
use Rattle.meeting.specs.Meeting.{known_apart, known_ids, roots_errors}
use Rattle.meeting.proofs.state.Meeting.meet_known.Goals as goal

pub returns-then-x-y : goal.returns-then-x-y
returns-then-x-y c = search (rules, roots_errors)

pub returns-then-d-id : goal.returns-then-d-id
returns-then-d-id c = search (rules, known_ids)

pub returns-then-apart : goal.returns-then-apart
returns-then-apart c = search (rules, known_apart)
