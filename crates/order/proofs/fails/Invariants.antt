-- `fails`: argument by argument.
use Rattle.order.specs.Arguments.{Asked}
use Rattle.order.proofs.fails.Given as goal

abbrev pub invariant-loop-k : goal.invariant-loop-k
invariant-loop-k l = Asked l.sides.sheet.now l.sides.places.now l.sides.table.now l.p l.q l.m l.k
