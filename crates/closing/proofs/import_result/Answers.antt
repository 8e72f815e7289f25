-- The last import: the source is packed, and there are no parameters.
use Rattle.std.proofs.Common.{rules, []}
use Rattle.closing.specs.Last.{source_room, plainly}
use Rattle.closing.proofs.import_result.Goals as goal

pub import_types-requires-clause-places_in_bounds : goal.import_types-requires-clause-places_in_bounds
import_types-requires-clause-places_in_bounds c = search (rules, source_room)

pub returns-clause-imports : goal.returns-clause-imports
returns-clause-imports c = plainly [] _ _ _ _ _ _ _ c.import_types.ensures.imports
