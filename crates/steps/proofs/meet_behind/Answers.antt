-- `meet_behind`: on a copy of the table.
use Rattle.std.proofs.Common.{rules}
use Rattle.steps.specs.Behind.{sound_sheet, beside_behind, behind_packed, behind_neat, behind_inside, behind-met}
use Rattle.steps.proofs.meet_behind.Goals as goal

pub copy_table_slot-requires-clause-beside : goal.copy_table_slot-requires-clause-beside
copy_table_slot-requires-clause-beside c = search (rules, beside_behind)

pub meet_param-requires-clause-sound : goal.meet_param-requires-clause-sound
meet_param-requires-clause-sound c = search (rules, sound_sheet)

pub meet_param-requires-clause-packed : goal.meet_param-requires-clause-packed
meet_param-requires-clause-packed c = search (rules, behind_packed)

pub meet_param-requires-clause-neat : goal.meet_param-requires-clause-neat
meet_param-requires-clause-neat c = search (rules, behind_neat)

pub meet_param-requires-clause-all_in : goal.meet_param-requires-clause-all_in
meet_param-requires-clause-all_in c = search (rules, behind_inside)

pub returns : goal.returns
returns c = search (rules, behind-met)
