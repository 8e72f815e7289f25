-- `meet_rows`: child by child.
use Rattle.std.proofs.Common.{rules}
use Rattle.refs.specs.Refs.{side_bit}
use Rattle.meeting.specs.Rows.{children_clash, children_meet, mirrored_told}
use Rattle.meeting.proofs.state.Meeting.meet_rows.Goals as goal

pub returns-then-inverted : goal.returns-then-inverted
returns-then-inverted c = search (rules, mirrored_told)

pub returns-then-xs-ys : goal.returns-then-xs-ys
returns-then-xs-ys c = search (rules, children_clash)

pub returns : goal.returns
returns c = children_meet _ _ _ _ _ _ _ _ c.in-Some.ensures c.in-Some-children.ensures _ _ _ (side_bit _ _ _ c.apart-inverted.ensures c.from.ensures) c.meet_all.ensures
