-- A node filled in.
use Rattle.std.proofs.Common.{rules}
use Rattle.transfer.specs.Leaves.{kind_low, id_above, alike_few}
use Rattle.table.specs.Writes.{node_low}
use Rattle.transfer.proofs.fill.Goals as goal

pub invariant_of-known-clause-kinds : goal.invariant_of-known-clause-kinds
invariant_of-known-clause-kinds g c = search (rules, kind_low)

pub invariant_of-known-clause-above : goal.invariant_of-known-clause-above
invariant_of-known-clause-above g c = search (rules, id_above)

pub invariant_of-known-clause-few : goal.invariant_of-known-clause-few
invariant_of-known-clause-few g c = search (rules, alike_few)

pub new_type-requires : goal.new_type-requires
new_type-requires g c = search (rules, node_low)
