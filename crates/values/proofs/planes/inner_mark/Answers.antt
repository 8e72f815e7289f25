-- `inner_mark`: the head is read, then the plane.
use Rattle.std.proofs.Common.{rules}
use Rattle.values.specs.Value.{inner_found}
use Rattle.values.proofs.planes.inner_mark.Goals as goal

pub returns : goal.returns
returns c = search (rules, inner_found)
