-- `queue`: the pair.
use Rattle.std.proofs.Common.{rules}
use Rattle.meeting.specs.Meeting.{joins_queued}
use Rattle.meeting.proofs.state.Meeting.queue.Goals as goal

pub returns : goal.returns
returns c = search (rules, joins_queued)
