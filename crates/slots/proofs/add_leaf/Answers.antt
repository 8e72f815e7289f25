-- `add_leaf`: 16, or the table and the leaf behind it.
use Rattle.std.proofs.Common.{rules}
use Rattle.slots.specs.Adding.{aside_beside, adds_full, leaf_added}
use Rattle.slots.proofs.add_leaf.Goals as goal

pub returns-then-n-eq-RESULTS : goal.returns-then-n-eq-RESULTS
returns-then-n-eq-RESULTS c = search (rules, adds_full)

pub copy_table-requires-clause-beside : goal.copy_table-requires-clause-beside
copy_table-requires-clause-beside c = search (rules, aside_beside)

pub returns : goal.returns
returns c = search (rules, leaf_added)
