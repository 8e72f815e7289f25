-- A type exported: its table is never too large.
use Rattle.std.proofs.Common.{rules}
use Rattle.loading.specs.Exports.{type_room, type_inside, type_exported}
use Rattle.loading.proofs.export_type.Goals as goal

pub export_types-requires-clause-places_in_bounds : goal.export_types-requires-clause-places_in_bounds
export_types-requires-clause-places_in_bounds c = search (rules, type_room)

pub export_types-requires-clause-inside : goal.export_types-requires-clause-inside
export_types-requires-clause-inside c = search (rules, type_inside)

pub returns : goal.returns
returns c = search (rules, type_exported)
