-- `join`: the smaller class goes under the larger.
use Rattle.order.specs.Halts.{joins_over, joins_under}
use Rattle.order.proofs.classes.Classes.join.Goals as goal

pub returns-then-b-a : goal.returns-then-b-a
returns-then-b-a c = joins_under _ _ _ _ _ _ _ _ _ _ c.in-Some.ensures c.in-Some-size.ensures c.if-b-a.true c.hang.ensures

pub returns : goal.returns
returns c = joins_over _ _ _ _ _ _ _ _ _ _ c.in-Some.ensures c.in-Some-size.ensures c.if-b-a.false c.hang-2.ensures
