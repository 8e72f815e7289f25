-- `index`: the count, and the places behind it.
use Rattle.std.proofs.Common.{arith}
use Rattle.words.specs.Chain.{chain_within}
use Rattle.rules.specs.ChainLaws.{chain_short}
use Rattle.candidates.specs.Index.{indexed_places, indexing_done}
use Rattle.candidates.proofs.index.index.Goals as goal

pub index_chain-count-requires : goal.index_chain-count-requires
index_chain-count-requires c = omega (arith, chain_within c.args.s.now c.word.result)

pub overflow_cast-ws : goal.overflow_cast-ws
overflow_cast-ws c = record { fits = omega (arith, c.index_chain-count.ensures.count, chain_short c.args.s.now c.word.result) }

pub returns : goal.returns
returns c = indexing_done _ _ _ _ _ _ _ c.word.ensures (omega arith) (indexed_places _ _ _ _ _ _ c.index_chain-count.ensures)
