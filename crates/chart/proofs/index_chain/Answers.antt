-- `index_chain`: a place is a word, and one more is written.
use Rattle.std.proofs.Common.{rules}
use Rattle.chart.specs.Index.{index_fits, index_on}
use Rattle.chart.proofs.index_chain.Goals as goal

pub overflow_cast-ws : goal.overflow_cast-ws
overflow_cast-ws c = index_fits _ _ _ _ _ _ _ _ _ c.loop-i.invariant c.in-Some.ensures.steps (search rules) c.type_inv.s

pub loop-i-preserved : goal.loop-i-preserved
loop-i-preserved c = search (rules, index_on)
