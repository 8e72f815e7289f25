-- `pack_node`: the record and its cells.
use Rattle.std.proofs.Common.{rules}
use Rattle.answer.specs.Nodes.{noded}
use Rattle.answer.proofs.pack_node.Goals as goal

pub returns : goal.returns
returns c = search (rules, noded)
