-- `set_up`: the head alone is stored.
use Rattle.table.specs.Writes.{node_low}
use Rattle.table.specs.Joins.{set_up}
use borrow.Author.Rules.{rules}
use Rattle.table.proofs.set_up.Goals as goal

pub put_head-requires-clause-n_lt_limit_nodes : goal.put_head-requires-clause-n_lt_limit_nodes
put_head-requires-clause-n_lt_limit_nodes c = search (rules, node_low)

pub returns : goal.returns
returns c = search (rules, set_up)
