-- `walk_table`: the nodes passed are finished.
use Rattle.std.proofs.Common.{rules}
use Rattle.acyclic.specs.Tables.{list_room, walks_start, walks_deep, walks_end}
use Rattle.acyclic.proofs.walk_table.Goals as goal

pub index_chain-n-requires : goal.index_chain-n-requires
index_chain-n-requires c = search (rules, list_room)

pub loop-node-init : goal.loop-node-init
loop-node-init c = search (rules, walks_start)

pub returns-then-not-walk : goal.returns-then-not-walk
returns-then-not-walk c = search (rules, walks_deep)

pub returns : goal.returns
returns c = search (rules, walks_end)
