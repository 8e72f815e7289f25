-- `meet_record`: what differs.
use Rattle.std.proofs.Common.{rules}
use Rattle.meeting.specs.Across.{record_apart, record_errors, record_ids, record_kinds}
use Rattle.meeting.proofs.state.Meeting.meet_record.Goals as goal

pub returns-then-kind_of-k : goal.returns-then-kind_of-k
returns-then-kind_of-k c = search (rules, record_kinds, record_errors)

pub returns-then-d-id_of : goal.returns-then-d-id_of
returns-then-d-id_of c = search (rules, record_ids)

pub returns-then-across : goal.returns-then-across
returns-then-across c = search (rules, record_apart)
