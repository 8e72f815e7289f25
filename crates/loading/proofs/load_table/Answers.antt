-- The question's table. One record more, and none.
use Rattle.std.proofs.Common.{rules}
use Rattle.loading.specs.Tables.{loading_fits, loading_room, loading_next, loading_done}
use Rattle.loading.proofs.load_table.Goals as goal

pub load_node-requires-clause-node_fits : goal.load_node-requires-clause-node_fits
load_node-requires-clause-node_fits c = loading_fits _ _ _ _ _ _ c.loop-p.invariant.3 c.in-Some.ensures.steps

pub load_node-requires-clause-dst_len_bound : goal.load_node-requires-clause-dst_len_bound
load_node-requires-clause-dst_len_bound c = loading_room _ _ _ _ _ _ c.loop-p.invariant.3 c.in-Some.ensures.steps

pub loop-p-preserved : goal.loop-p-preserved
loop-p-preserved c = (search rules, search rules, search rules, loading_next _ _ _ _ _ _ c.loop-p.invariant.3 c.in-Some.ensures.steps _ c.load_node.ensures)

pub returns : goal.returns
returns c = search (rules, loading_done)
