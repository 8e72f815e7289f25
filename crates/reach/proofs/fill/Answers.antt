-- `fill`: signatures, and then impl parameters.
use Rattle.std.proofs.Common.{rules}
use Rattle.reach.specs.Whole.{whole_room, generics_indexed}
use Rattle.reach.proofs.fill.Goals as goal

pub index-requires : goal.index-requires
index-requires c = search (rules, whole_room)

pub put_signatures-requires-clause-generics : goal.put_signatures-requires-clause-generics
put_signatures-requires-clause-generics c = search (rules, generics_indexed)

pub put_params-requires-clause-generics : goal.put_params-requires-clause-generics
put_params-requires-clause-generics c = search (rules, generics_indexed)
