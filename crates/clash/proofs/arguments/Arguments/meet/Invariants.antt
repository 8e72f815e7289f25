-- `meet`: one by one.
use Rattle.std.specs.Prelude.{false}
use Rattle.clash.specs.Pairs.{ArgsMet}
use Rattle.clash.proofs.arguments.Arguments.meet.Given as goal

abbrev pub invariant-loop-k : goal.invariant-loop-k
invariant-loop-k l = ArgsMet l.sides.sheet.now l.sides.places.now l.sides.table.now l.initial.meeting l.self.signature l.self.question l.meeting false
