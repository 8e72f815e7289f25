-- `joins`: the question's arguments are the first of its words.
use Rattle.std.proofs.Common.{rules}
use Rattle.opening.specs.Meeting.{args_nodes, args_join}
use Rattle.opening.proofs.joins.Goals as goal

pub join_impl_type-requires-clause-nodes_2 : goal.join_impl_type-requires-clause-nodes_2
join_impl_type-requires-clause-nodes_2 c = search (rules, args_nodes)

pub returns : goal.returns
returns c = search (rules, args_join)
