-- `gather_wrapped`: k of the results are added.
use Rattle.std.proofs.Common.{rules}
use Rattle.slots.specs.Gathering.{filled_next, gathering_none, gathering_more, gathering_stops, gathering_done}
use Rattle.slots.proofs.gather_wrapped.Goals as goal

pub loop-k-init : goal.loop-k-init
loop-k-init c = search (rules, gathering_none)

pub add_wrapped-requires-clause-filled : goal.add_wrapped-requires-clause-filled
add_wrapped-requires-clause-filled c = search (rules, filled_next)

pub returns-in-Err : goal.returns-in-Err
returns-in-Err c = search (rules, gathering_stops)

pub loop-k-preserved : goal.loop-k-preserved
loop-k-preserved c = search (rules, gathering_more)

pub returns : goal.returns
returns c = search (rules, gathering_done)
