-- `write_state`: the state of one node at another.
use Rattle.table.specs.Writes.{node_low}
use Rattle.table.specs.Joins.{wrote_state}
use borrow.Author.Rules.{rules}
use Rattle.table.proofs.write_state.Goals as goal

pub at_root-requires-clause-n_lt_limit_nodes : goal.at_root-requires-clause-n_lt_limit_nodes
at_root-requires-clause-n_lt_limit_nodes c = search (rules, node_low)

pub returns : goal.returns
returns c = search (rules, wrote_state)
