-- `get_mod`: what is left of the way comes to the whole.
use Rattle.std.proofs.Common.{◌-◌}
use Rattle.rules.specs.Search.{get_mod}
use Rattle.rules.specs.Transfer.{type_of_word}
use Rattle.table.specs.Packing.{types_of}
use Rattle.walks.specs.Modules.{Seeking}
use Rattle.walks.proofs.get_mod.Given as goal

abbrev pub invariant-loop-i : goal.invariant-loop-i
invariant-loop-i l = Seeking l.s (types_of l.ws) (l._i-end - l._i) l.at (get_mod l.s (types_of l.ws) (type_of_word l.t))
