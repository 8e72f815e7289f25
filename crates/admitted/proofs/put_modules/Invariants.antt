-- `put_modules`: the arguments that are left.
use Rattle.table.specs.Packing.{types_of}
use Rattle.admitted.specs.Modules.{Gathering}
use Rattle.admitted.proofs.put_modules.Given as goal

abbrev pub invariant-loop-t : goal.invariant-loop-t
invariant-loop-t l = Gathering l.s (types_of l.types) l.args l.count l.t-index l.fn.nodes l.all
