-- `relabel_class`: the nodes passed are relabelled.
use borrow.Author.Rules.{rules}
use Rattle.table.specs.Joins.{firsts-none, firsts_long, firsts_in, firsts_more, firsts_done}
use Rattle.table.proofs.relabel_class.Goals as goal

pub loop-i-init : goal.loop-i-init
loop-i-init c = search (rules, firsts-none)

pub relabel_node-requires-clause-n_in_bounds : goal.relabel_node-requires-clause-n_in_bounds
relabel_node-requires-clause-n_in_bounds c = search (rules, firsts_long, firsts_in)

pub loop-i-preserved : goal.loop-i-preserved
loop-i-preserved c = search (rules, firsts_more)

pub returns : goal.returns
returns c = search (rules, firsts_done)
