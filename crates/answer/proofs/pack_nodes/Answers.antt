-- `pack_nodes`: the nodes passed are written; the rest of them is to come.
use Rattle.std.proofs.Common.{rules}
use Rattle.answer.specs.Nodes.{nodes_start, nodes_more, nodes_done, count_few}
use Rattle.answer.proofs.pack_nodes.Goals as goal

pub loop-n-init : goal.loop-n-init
loop-n-init c = (search (rules, nodes_start), search rules, search (rules, count_few), search rules)

pub loop-n-preserved : goal.loop-n-preserved
loop-n-preserved c = (search (rules, nodes_more), search rules, search rules, search rules)

pub returns : goal.returns
returns c = search (rules, nodes_done)
