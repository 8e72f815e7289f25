-- `is_cyclic`: at the start none is open.
use Rattle.meeting.specs.Cycles.{cyclic_first, cyclic_then}
use Rattle.meeting.proofs.cycles.is_cyclic.Goals as goal

pub returns-then-cyclic_among : goal.returns-then-cyclic_among
returns-then-cyclic_among c = cyclic_first _ _ _ _ 2048 _ _ c.cyclic_among.ensures c.if-cyclic_among.true

pub returns-else-cyclic_among : goal.returns-else-cyclic_among
returns-else-cyclic_among c = cyclic_then _ _ _ _ 2048 _ _ _ _ c.cyclic_among.ensures c.if-cyclic_among.false c.cyclic_among-else-cyclic_among.ensures
