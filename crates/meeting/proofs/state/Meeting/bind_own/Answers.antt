-- `bind_own`: what the unknown was linked to.
use Rattle.std.proofs.Common.{rules}
use Rattle.meeting.specs.Meeting.{bind_mirrors}
use Rattle.meeting.proofs.state.Meeting.bind_own.Goals as goal

pub returns-then-up-r : goal.returns-then-up-r
returns-then-up-r c = search (rules, bind_mirrors)
