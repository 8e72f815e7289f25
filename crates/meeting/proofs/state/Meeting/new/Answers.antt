-- `new`: nothing is linked or queued.
use Rattle.std.proofs.Common.{refl}
use Rattle.meeting.specs.Meeting.{fresh}
use Rattle.meeting.proofs.state.Meeting.new.Goals as goal

pub returns : goal.returns
returns c = fresh 2048 _ refl refl
