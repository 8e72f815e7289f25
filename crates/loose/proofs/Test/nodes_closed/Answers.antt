-- `nodes_closed`: one by one.
use Rattle.std.proofs.Common.{rules}
use Rattle.loose.specs.Loose.{node_low, nodes_on}
use Rattle.loose.proofs.Test.nodes_closed.Goals as goal

pub node_closed-requires : goal.node_closed-requires
node_closed-requires c = search (rules, node_low)

pub loop-r-preserved : goal.loop-r-preserved
loop-r-preserved c = search (rules, nodes_on)
