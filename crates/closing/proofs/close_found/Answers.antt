-- The last imports of a flex call, and then the joins and the answer.
use Rattle.std.proofs.Common.{rules}
use Rattle.closing.specs.FlexEnd.{found_full, found_over, found_joining, found_closes}
use Rattle.closing.proofs.close_found.Goals as goal

pub returns-in_err-x : goal.returns-in_err-x
returns-in_err-x c = found_full _ _ _ _ _ _ c.requires.caller c.requires.offers_2 _ _ _ _ _ _ (search rules) c.requires.offers c.in_err-x.ensures

pub returns-in_err-y : goal.returns-in_err-y
returns-in_err-y c = found_over _ _ _ _ _ _ c.requires.caller c.requires.offers_2 _ c.in_ok-x.ensures _ _ _ _ _ _ _ (search rules) c.in_err-y.ensures

pub close_joined-requires-clause-joining : goal.close_joined-requires-clause-joining
close_joined-requires-clause-joining c = found_joining _ _ _ _ _ _ c.requires.caller c.requires.offers_2 _ c.in_ok-x.ensures _ _ c.in_ok-y.ensures _ c.count-n.ensures

pub returns : goal.returns
returns c = found_closes _ _ _ _ _ _ c.requires.caller c.requires.offers_2 _ c.in_ok-x.ensures _ _ c.in_ok-y.ensures _ _ _ _ _ _ _ c.count-n.ensures c.close_joined.ensures
