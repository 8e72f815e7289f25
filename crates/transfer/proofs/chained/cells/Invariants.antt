-- `cells`: the cells passed are read.
use Rattle.transfer.specs.Cells.{Passing}
use Rattle.transfer.proofs.chained.cells.Given as goal

abbrev pub invariant-loop-c : goal.invariant-loop-c
invariant-loop-c l = Passing l.s l.head l.cs l.c-iterator l.m
