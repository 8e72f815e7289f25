-- `cell_need`: the node of a type word.
use Rattle.std.proofs.Common.{rules}
use Rattle.values.specs.Value.{cell_found}
use Rattle.values.proofs.planes.cell_need.Goals as goal

pub returns : goal.returns
returns c = search (rules, cell_found)
