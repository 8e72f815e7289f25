-- `built_ins`: by the flag.
use Rattle.std.proofs.Common.{rules}
use Rattle.steps.specs.Beginning.{small_ids, begins_basic, begins_plain}
use Rattle.steps.proofs.built_ins.Goals as goal

pub returns-then-basic-eq1 : goal.returns-then-basic-eq1
returns-then-basic-eq1 c = search (rules, begins_basic)

pub add_autos-requires-clause-small_ids : goal.add_autos-requires-clause-small_ids
add_autos-requires-clause-small_ids c = search (rules, small_ids)

pub returns : goal.returns
returns c = search (rules, begins_plain)
