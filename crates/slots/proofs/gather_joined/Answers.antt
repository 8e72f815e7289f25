-- `gather_joined`: k of the results are added.
use Rattle.std.proofs.Common.{rules}
use Rattle.slots.specs.Gathering.{element_next, join_filled_next, joining_none, joining_more, joining_few, joining_stops, joining_done}
use Rattle.slots.proofs.gather_joined.Goals as goal

pub loop-k-init : goal.loop-k-init
loop-k-init c = (search (rules, joining_none), search rules, search rules)

pub add_joined-requires-clause-element : goal.add_joined-requires-clause-element
add_joined-requires-clause-element c = search (rules, element_next)

pub add_joined-requires-clause-filled : goal.add_joined-requires-clause-filled
add_joined-requires-clause-filled c = search (rules, join_filled_next)

pub returns-in-Err : goal.returns-in-Err
returns-in-Err c = search (rules, joining_stops)

pub loop-k-preserved : goal.loop-k-preserved
loop-k-preserved c = (search (rules, joining_more), search (rules, joining_few), search rules)

pub returns : goal.returns
returns c = search (rules, joining_done)
