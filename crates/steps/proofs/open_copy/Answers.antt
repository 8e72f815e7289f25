-- `open_copy`: in the part behind slot 4, with a copy of the table.
use Rattle.std.proofs.Common.{rules}
use Rattle.steps.specs.Behind.{sound_sheet, beside_behind}
use Rattle.steps.specs.Candidate.{behind_asking, opens}
use Rattle.steps.proofs.open_copy.Goals as goal

pub copy_table_slot-requires-clause-beside : goal.copy_table_slot-requires-clause-beside
copy_table_slot-requires-clause-beside c = search (rules, beside_behind)

pub open_part-requires-clause-sound_sheet : goal.open_part-requires-clause-sound_sheet
open_part-requires-clause-sound_sheet c = search (rules, sound_sheet)

pub open_part-requires-clause-asking : goal.open_part-requires-clause-asking
open_part-requires-clause-asking c = search (rules, behind_asking)

pub returns : goal.returns
returns c = search (rules, opens)
