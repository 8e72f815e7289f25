-- `none_left`: the table itself, in slot 1.
use Rattle.std.proofs.Common.{rules}
use Rattle.steps.specs.Built.{beside_one, none_left}
use Rattle.steps.proofs.none_left.Goals as goal

pub copy_table_slot-requires-clause-beside : goal.copy_table_slot-requires-clause-beside
copy_table_slot-requires-clause-beside c = search (rules, beside_one)

pub returns : goal.returns
returns c = search (rules, none_left)
