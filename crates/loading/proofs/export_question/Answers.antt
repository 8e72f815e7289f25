-- A query exported: its table is never too large.
use Rattle.std.proofs.Common.{rules}
use Rattle.loading.specs.Exports.{asks_room, args_inside, args_exported}
use Rattle.loading.proofs.export_question.Goals as goal

pub export_types-requires-clause-places_in_bounds : goal.export_types-requires-clause-places_in_bounds
export_types-requires-clause-places_in_bounds c = search (rules, asks_room)

pub export_types-requires-clause-inside : goal.export_types-requires-clause-inside
export_types-requires-clause-inside c = search (rules, args_inside)

pub returns : goal.returns
returns c = search (rules, args_exported)
