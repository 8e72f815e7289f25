-- `find`: along links.
use Rattle.order.specs.Words.{Leads}
use Rattle.order.proofs.classes.Classes.find.Given as goal

abbrev pub invariant-loop : goal.invariant-loop
invariant-loop l = Leads l.self l.t l.x
