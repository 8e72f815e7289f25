-- `mirror_known`: a kind that is not its own inverse.
use Rattle.std.proofs.Common.{rules}
use Rattle.meeting.specs.Meeting.{mirrors_sided}
use Rattle.meeting.proofs.state.Meeting.mirror_known.Goals as goal

pub returns-then-sided_once : goal.returns-then-sided_once
returns-then-sided_once c = search (rules, mirrors_sided)
