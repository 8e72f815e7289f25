-- The question's nodes exported: their table is never too large.
use Rattle.std.proofs.Common.{rules}
use Rattle.closing.specs.Rows.{nodes_few, caller_room, row_inside, row-exported}
use Rattle.closing.proofs.export_nodes.Goals as goal

pub fill_row-requires-clause-n_bound : goal.fill_row-requires-clause-n_bound
fill_row-requires-clause-n_bound c = search (rules, nodes_few)

pub export_types-requires-clause-places_in_bounds : goal.export_types-requires-clause-places_in_bounds
export_types-requires-clause-places_in_bounds c = search (rules, caller_room)

pub export_types-requires-clause-inside : goal.export_types-requires-clause-inside
export_types-requires-clause-inside c = search (rules, row_inside)

pub returns : goal.returns
returns c = search (rules, row-exported)
