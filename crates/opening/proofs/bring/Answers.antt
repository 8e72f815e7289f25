-- `bring`: the places of the chain are a source of records.
use Rattle.std.proofs.Common.{rules}
use Rattle.opening.specs.Bringing.{source_neat, source_room, source_inside, source_imports}
use Rattle.opening.proofs.bring.Goals as goal

pub import_types-requires-clause-neat : goal.import_types-requires-clause-neat
import_types-requires-clause-neat c = search (rules, source_neat)

pub import_types-requires-clause-places_in_bounds : goal.import_types-requires-clause-places_in_bounds
import_types-requires-clause-places_in_bounds c = search (rules, source_room)

pub import_types-requires-clause-inside : goal.import_types-requires-clause-inside
import_types-requires-clause-inside c = search (rules, source_inside)

pub returns-clause-imports : goal.returns-clause-imports
returns-clause-imports c = search (rules, source_imports)
