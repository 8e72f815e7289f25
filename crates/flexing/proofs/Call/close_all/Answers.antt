-- The side that counts.
use Rattle.flexing.specs.Sides.{upright_fork, upright-drop, upright_closes, inverse_fork, inverse-drop, inverse_closes}
use Rattle.flexing.proofs.Call.close_all.Goals as goal

pub close_side-requires-clause-lends : goal.close_side-requires-clause-lends
close_side-requires-clause-lends c = upright_fork _ _ _ _ _ _ _ _ _ c.requires.behind _ c.is_upright.ensures c.if-is_upright.true

pub close_side-requires-clause-lends_2 : goal.close_side-requires-clause-lends_2
close_side-requires-clause-lends_2 c = upright-drop _ _ _ _ _ _ _ _ _ c.requires.behind _ c.is_upright.ensures c.if-is_upright.true

pub returns-then-is_upright : goal.returns-then-is_upright
returns-then-is_upright c = upright_closes _ _ _ _ _ _ _ _ _ _ _ c.is_upright.ensures _ _ _ c.if-is_upright.true c.close_side.ensures

pub close_side-requires-else-is_upright-clause-lends : goal.close_side-requires-else-is_upright-clause-lends
close_side-requires-else-is_upright-clause-lends c = inverse_fork _ _ _ _ _ _ _ _ _ c.requires.behind _ c.is_upright.ensures c.if-is_upright.false

pub close_side-requires-else-is_upright-clause-lends_2 : goal.close_side-requires-else-is_upright-clause-lends_2
close_side-requires-else-is_upright-clause-lends_2 c = inverse-drop _ _ _ _ _ _ _ _ _ c.requires.behind _ c.is_upright.ensures c.if-is_upright.false

pub returns-else-is_upright : goal.returns-else-is_upright
returns-else-is_upright c = inverse_closes _ _ _ _ _ _ _ _ _ _ _ c.is_upright.ensures _ _ _ c.if-is_upright.false c.close_side-else-is_upright.ensures
