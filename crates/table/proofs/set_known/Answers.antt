-- `set_known`: a root is written anew.
use Rattle.table.specs.Writes.{node_low, set_root}
use borrow.Author.Rules.{rules}
use Rattle.table.proofs.set_known.Goals as goal

pub write_known-requires-clause-n_lt_limit_nodes : goal.write_known-requires-clause-n_lt_limit_nodes
write_known-requires-clause-n_lt_limit_nodes c = search (rules, node_low)

pub returns : goal.returns
returns c = search (rules, set_root)
