-- `new`: no note has a key.
use Rattle.std.proofs.Common.{refl}
use Rattle.meeting.specs.Notes.{blank_notes}
use Rattle.meeting.proofs.notes.Notes.new.Goals as goal

pub returns : goal.returns
returns c = blank_notes 251 _ refl refl
