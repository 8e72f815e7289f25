-- `next_apart`: the children passed are alike.
use Rattle.table.specs.Packing.{types_of}
use Rattle.table.specs.Alike.{Alike}
use Rattle.table.proofs.next_apart.Given as goal

abbrev pub invariant-loop-j : goal.invariant-loop-j
invariant-loop-j l = Alike (types_of l.ws) l.x l.y l.inverted l.i l.m l.j
