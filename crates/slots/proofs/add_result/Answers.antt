-- `add_result`: 16, or the slot.
use Rattle.std.proofs.Common.{rules}
use Rattle.slots.specs.Copies.{filled_room}
use Rattle.slots.specs.Adding.{beside_result, plain_full, plain_added}
use Rattle.slots.proofs.add_result.Goals as goal

pub returns-then-n-eq-RESULTS : goal.returns-then-n-eq-RESULTS
returns-then-n-eq-RESULTS c = search (rules, plain_full)

pub copy_slot-requires-clause-to_in_bounds : goal.copy_slot-requires-clause-to_in_bounds
copy_slot-requires-clause-to_in_bounds c = search (rules, filled_room)

pub copy_slot-requires-clause-beside : goal.copy_slot-requires-clause-beside
copy_slot-requires-clause-beside c = search (rules, beside_result)

pub returns : goal.returns
returns c = search (rules, plain_added)
