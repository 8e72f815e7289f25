-- The answer of an impl call written: one tree, and none.
use Rattle.std.proofs.Common.{rules}
use Rattle.closing.specs.Impl.{behind_room, behind_writes}
use Rattle.closing.proofs.write_impl.Goals as goal

pub write_closing-requires-clause-trees_length_in_bounds : goal.write_closing-requires-clause-trees_length_in_bounds
write_closing-requires-clause-trees_length_in_bounds c = search (rules, behind_room)

pub returns : goal.returns
returns c = search (rules, behind_writes)
