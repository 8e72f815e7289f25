-- `visit`: rows grow, and x is at the next node that it leads to.
use Rattle.std.proofs.Common.{rules}
use Rattle.candidates.specs.Spread.{visited_none, way_later, child_on, child_grown, left_visited}
use Rattle.candidates.proofs.rows.+visit.Goals as goal

pub returns-then-left-eq0 : goal.returns-then-left-eq0
returns-then-left-eq0 t c = search (rules, visited_none)

pub returns-in_err-number : goal.returns-in_err-number
returns-in_err-number t c = search (rules, visited_none)

pub loop-next-init : goal.loop-next-init
loop-next-init t c = (search rules, search rules, search (rules, visited_none))

pub take_child-next-requires : goal.take_child-next-requires
take_child-next-requires t c = way_later _ _ _ _ _ _ _ c.in-Some.is c.loop-next.invariant.1 c.visit-reached.ensures

pub loop-next-preserved : goal.loop-next-preserved
loop-next-preserved t c = (search rules, child_on _ _ _ _ _ _ _ c.take_child-next.ensures, child_grown _ _ _ _ _ _ _ _ _ _ c.in-Some.is c.loop-next.invariant.1 c.loop-next.invariant.2 c.visit-reached.ensures c.take_child-next.ensures)

pub returns : goal.returns
returns t c = left_visited _ _ _ _ _ _ _ c.loop-next.invariant.1.way c.loop-next.invariant.2 c.leave.ensures
