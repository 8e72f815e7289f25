-- The join of what the last imports brought, and then the closing join and the answer.
use Rattle.closing.specs.FlexEnd.{joining_on, joining_asked, closing_writes, joined_fails, joined_answers}
use Rattle.closing.proofs.close_joined.Goals as goal

pub returns-then-join_types : goal.returns-then-join_types
returns-then-join_types c = joined_fails _ _ _ _ _ _ _ _ _ _ _ _ c.join_types.ensures _ c.if-join_types.true

pub join_types-requires-2-clause-all_in : goal.join_types-requires-2-clause-all_in
join_types-requires-2-clause-all_in c = joining_asked _ _ _ _ _ (joining_on _ _ _ _ _ c.requires.joining _ _ _ c.join_types.ensures)

pub returns : goal.returns
returns c =
    let on = joining_on _ _ _ _ _ c.requires.joining _ _ _ c.join_types.ensures in
    joined_answers _ _ _ _ _ _ _ _ _ _ _ _ c.join_types.ensures _ _ c.if-join_types.false (closing_writes _ _ _ _ _ on _ c.or.ensures _ _ _ c.join_types-2.ensures _ _ _ _ _ _ c.write_flex.ensures)
