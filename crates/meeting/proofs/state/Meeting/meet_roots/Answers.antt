-- `meet_roots`: kinds differ.
use Rattle.std.proofs.Common.{rules}
use Rattle.meeting.specs.Meeting.{roots_kinds}
use Rattle.meeting.proofs.state.Meeting.meet_roots.Goals as goal

pub returns-then-k-j : goal.returns-then-k-j
returns-then-k-j c = search (rules, roots_kinds)
