-- The closing join.
use Rattle.std.proofs.Common.{rules}
use Rattle.closing.specs.Last.{query_good, args_nodes, args_joined}
use Rattle.closing.proofs.join_query.Goals as goal

pub unify_impl_type-requires-clause-good : goal.unify_impl_type-requires-clause-good
unify_impl_type-requires-clause-good c = search (rules, query_good)

pub unify_impl_type-requires-clause-nodes : goal.unify_impl_type-requires-clause-nodes
unify_impl_type-requires-clause-nodes c = search (rules, args_nodes)

pub returns : goal.returns
returns c = search (rules, args_joined)
