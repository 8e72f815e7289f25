-- `cells`: the types written are those of the cells passed.
use Rattle.refs.specs.Children.{Walks}
use Rattle.refs.proofs.cells.Given as goal

abbrev pub invariant-loop-c : goal.invariant-loop-c
invariant-loop-c l = Walks l.sheet l.head l.types l.c-iterator l.n
