-- `move_types`: what was moved, or an empty table.
use Rattle.std.proofs.Common.{rules}
use Rattle.type_cases.specs.Given.{fitting_given, sound_given}
use Rattle.type_cases.specs.Steps.{loaded_inside, marks_room}
use Rattle.type_cases.specs.Sound.{sound_empty}
use Rattle.type_cases.proofs.steps.move_types.Goals as goal

pub import_types-requires-clause-type_words : goal.import_types-requires-clause-type_words
import_types-requires-clause-type_words c = search (rules, fitting_given)

pub import_types-requires-clause-places_in_bounds : goal.import_types-requires-clause-places_in_bounds
import_types-requires-clause-places_in_bounds c = search (rules, marks_room)

pub import_types-requires-clause-inside : goal.import_types-requires-clause-inside
import_types-requires-clause-inside c = search (rules, loaded_inside)

pub returns-in-Err : goal.returns-in-Err
returns-in-Err c = search (rules, sound_empty)

pub returns : goal.returns
returns c = search (rules, sound_given)
