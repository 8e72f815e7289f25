-- `walk_sheet`: the tables of the generics, then those of the impls.
use Rattle.std.proofs.Common.{rules}
use Rattle.acyclic.specs.Sheets.{generics_inside, impls_inside, generics_cyclic, sheet_both}
use Rattle.acyclic.proofs.walk_sheet.Goals as goal

pub walk_tables-requires-clause-all_inside : goal.walk_tables-requires-clause-all_inside
walk_tables-requires-clause-all_inside c = search (rules, generics_inside)

pub walk_tables-requires-then-walk_tables-clause-all_inside : goal.walk_tables-requires-then-walk_tables-clause-all_inside
walk_tables-requires-then-walk_tables-clause-all_inside c = search (rules, impls_inside)

pub returns-then-walk_tables : goal.returns-then-walk_tables
returns-then-walk_tables c = search (rules, sheet_both)

pub returns-else-walk_tables : goal.returns-else-walk_tables
returns-else-walk_tables c = search (rules, generics_cyclic)
