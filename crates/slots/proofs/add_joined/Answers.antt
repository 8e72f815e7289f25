-- `add_joined`: 16, 17 by the nodes of both, or the two together.
use Rattle.std.proofs.Common.{rules}
use Rattle.slots.specs.Adding.{beside_result, join_full, join_big, join_added}
use Rattle.slots.proofs.add_joined.Goals as goal

pub returns-then-n-eq-RESULTS : goal.returns-then-n-eq-RESULTS
returns-then-n-eq-RESULTS c = search (rules, join_full)

pub returns-then-first-rest-gt-NODES : goal.returns-then-first-rest-gt-NODES
returns-then-first-rest-gt-NODES c = search (rules, join_big)

pub join-requires-clause-beside : goal.join-requires-clause-beside
join-requires-clause-beside c = search (rules, beside_result)

pub join-requires-clause-beside_2 : goal.join-requires-clause-beside_2
join-requires-clause-beside_2 c = search (rules, beside_result)

pub returns : goal.returns
returns c = search (rules, join_added)
