-- `add_wrapped`: 16, 17 by one node more, or the slot with the node over its trees.
use Rattle.std.proofs.Common.{rules}
use Rattle.slots.specs.Adding.{beside_result, under_full, under_big, under_small, under_added}
use Rattle.slots.proofs.add_wrapped.Goals as goal

pub returns-then-n-eq-RESULTS : goal.returns-then-n-eq-RESULTS
returns-then-n-eq-RESULTS c = search (rules, under_full)

pub returns-then-trees_size-ge-NODES : goal.returns-then-trees_size-ge-NODES
returns-then-trees_size-ge-NODES c = search (rules, under_big)

pub copy_slot-requires-clause-beside : goal.copy_slot-requires-clause-beside
copy_slot-requires-clause-beside c = search (rules, beside_result)

pub wrap-requires-clause-b_bound : goal.wrap-requires-clause-b_bound
wrap-requires-clause-b_bound c = search (rules, under_small)

pub returns : goal.returns
returns c = search (rules, under_added)
