-- `cell_node`: half of the cell's type word.
use Rattle.std.proofs.Common.{rules}
use Rattle.acyclic.specs.Nodes.{names}
use Rattle.acyclic.proofs.cell_node.Goals as goal

pub returns : goal.returns
returns c = search (rules, names)
