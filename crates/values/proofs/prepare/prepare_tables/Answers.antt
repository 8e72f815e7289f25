-- `prepare_tables`: cells, then nodes.
use Rattle.std.proofs.Common.{rules}
use Rattle.values.specs.Tables.{space_cells, tables_made}
use Rattle.values.proofs.prepare.prepare_tables.Goals as goal

pub prepare_nodes-requires : goal.prepare_nodes-requires
prepare_nodes-requires c = search (rules, space_cells)

pub returns : goal.returns
returns c = search (rules, tables_made)
