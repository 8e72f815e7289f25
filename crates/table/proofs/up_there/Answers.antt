-- `up_there`: a field of the head.
use borrow.Author.Rules.{rules}
use Rattle.table.specs.Reads.{up_here, few_nodes}
use Rattle.table.proofs.up_there.Goals as goal

pub head_at-requires-clause-n_lt_limit_nodes : goal.head_at-requires-clause-n_lt_limit_nodes
head_at-requires-clause-n_lt_limit_nodes c = search (rules, few_nodes)

pub returns : goal.returns
returns c = search (rules, up_here)
