-- `index_chain`: the places written and those that are left are the chain's.
use Rattle.chart.specs.Index.{Indexing}
use Rattle.chart.proofs.index_chain.Given as goal

abbrev pub invariant-loop-i : goal.invariant-loop-i
invariant-loop-i l = Indexing l.s l.head l.initial.ws l.ws l.b l.n l.i-iterator
