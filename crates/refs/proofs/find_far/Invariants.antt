-- `find_far`: along links.
use Rattle.refs.specs.Links.{Finds}
use Rattle.refs.proofs.find_far.Given as goal

abbrev pub invariant-loop : goal.invariant-loop
invariant-loop l = Finds l.links l.t l.x
