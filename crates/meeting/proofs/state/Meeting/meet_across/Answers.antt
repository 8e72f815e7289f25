-- `meet_across`: what the cells mean.
use Rattle.std.proofs.Common.{refl}
use Rattle.refs.specs.Refs.{side_bit}
use Rattle.meeting.specs.Across.{across_meets}
use Rattle.meeting.proofs.state.Meeting.meet_across.Goals as goal

pub returns : goal.returns
returns c = across_meets _ _ _ _ _ _ _ _ _ _ _ _ _ _ _ c.kind.ensures c.if-kind-eq0.false c.requires.bound c.requires.y_bound c.kind_of.ensures c.if-kind_of-eq0.false c.in-Some.ensures c.place_of-p.ensures c.offset-head.ensures refl (side_bit _ _ _ c.across.ensures c.from-b.ensures) c.meet_cells.ensures
