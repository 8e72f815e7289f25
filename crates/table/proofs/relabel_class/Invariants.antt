-- `relabel_class`: the nodes passed are relabelled.
use Rattle.rules.specs.Types.{relabel}
use Rattle.rules.specs.Transfer.{type_of_word}
use Rattle.table.specs.Packing.{types_of, Rewritten}
use Rattle.table.specs.Joins.{firsts}
use Rattle.table.proofs.relabel_class.Given as goal

abbrev pub invariant-loop-i : goal.invariant-loop-i
invariant-loop-i l = Rewritten l.initial.ws l.ws (firsts (relabel l.lo (type_of_word l.t)) l.i (types_of l.initial.ws))
