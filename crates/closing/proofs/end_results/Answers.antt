-- By how many results there are.
use Rattle.std.proofs.Common.{rules}
use Rattle.closing.specs.Last.{tail_all}
use Rattle.closing.specs.Ends.{results_none, results_many, results_one, one_room, one-filled, one_asks}
use Rattle.closing.proofs.end_results.Goals as goal

pub close_impl-requires-clause-filled : goal.close_impl-requires-clause-filled
close_impl-requires-clause-filled c = search (rules, one-filled, tail_all, one_room)

pub close_impl-requires-clause-asks_2 : goal.close_impl-requires-clause-asks_2
close_impl-requires-clause-asks_2 c = search (rules, one_asks, tail_all, one_room)

pub returns-in-0 : goal.returns-in-0
returns-in-0 c = search (rules, results_none)

pub returns-in-1 : goal.returns-in-1
returns-in-1 c = search (rules, results_one, tail_all, one_room)

pub returns-in_default : goal.returns-in_default
returns-in_default c = search (rules, results_many)
