-- `export`: the types are nodes, and there is room for them.
use Rattle.std.proofs.Common.{rules}
use Rattle.type_cases.specs.Steps.{loaded_passed, loaded_inside, sound_export, marks_room}
use Rattle.type_cases.proofs.steps.export.Goals as goal

pub export_types-done-requires-clause-places_in_bounds : goal.export_types-done-requires-clause-places_in_bounds
export_types-done-requires-clause-places_in_bounds c = search (rules, marks_room)

pub export_types-done-requires-clause-inside : goal.export_types-done-requires-clause-inside
export_types-done-requires-clause-inside c = search (rules, loaded_inside, loaded_passed)

pub returns-then-is_ok : goal.returns-then-is_ok
returns-then-is_ok c = search (rules, sound_export, loaded_passed)

pub returns-else-is_ok : goal.returns-else-is_ok
returns-else-is_ok c = search (rules, sound_export, loaded_passed)
