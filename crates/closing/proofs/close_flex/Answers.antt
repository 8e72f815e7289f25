-- The results of the four flex questions.
use Rattle.std.proofs.Common.{rules}
use Rattle.closing.specs.Last.{marks_room}
use Rattle.closing.specs.FlexResults.{caller_good, flex_several, flex_both_lem, flex_side}
use Rattle.closing.proofs.close_flex.Goals as goal

pub returns-then-has_several : goal.returns-then-has_several
returns-then-has_several c = flex_several _ _ _ _ _ _ _ _ _ _ _ c.has_several.ensures _ c.if-has_several.true

pub self_inverse-own-requires-clause-good : goal.self_inverse-own-requires-clause-good
self_inverse-own-requires-clause-good c = caller_good _ _ c.requires.caller

pub self_inverse-own-requires-clause-ws_in_bounds : goal.self_inverse-own-requires-clause-ws_in_bounds
self_inverse-own-requires-clause-ws_in_bounds c = search (rules, marks_room)

pub returns-then-is_bi_flexible : goal.returns-then-is_bi_flexible
returns-then-is_bi_flexible c = flex_both_lem _ _ _ _ _ _ _ _ _ _ _ c.has_several.ensures c.if-has_several.false _ _ c.self_inverse-own.ensures c.is_bi_flexible.ensures _ c.if-is_bi_flexible.true

pub returns : goal.returns
returns c = flex_side _ _ _ _ _ _ _ _ _ _ _ c.has_several.ensures c.if-has_several.false _ _ c.self_inverse-own.ensures c.is_bi_flexible.ensures _ _ _ _ _ _ c.if-is_bi_flexible.false (search rules) (search rules) c.is_inverted.ensures c.close_found.ensures
