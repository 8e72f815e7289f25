-- The type of a new node.
use Rattle.std.proofs.Common.{rules}
use Rattle.transfer.specs.Leaves.{typed}
use Rattle.transfer.proofs.new_type.Goals as goal

pub returns : goal.returns
returns c = search (rules, typed)
