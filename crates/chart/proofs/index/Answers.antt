-- `index`: the chain that the header word heads.
use Rattle.chart.specs.Index.{index_room_of, index_of}
use Rattle.std.proofs.Common.{rules}
use Rattle.chart.proofs.index.Goals as goal

pub index_chain-requires : goal.index_chain-requires
index_chain-requires c = search (rules, index_room_of)

pub returns : goal.returns
returns c = search (rules, index_of)
