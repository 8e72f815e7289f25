-- `walk_tables`: the tables of the records that are left decide.
use Rattle.std.proofs.Common.{rules}
use Rattle.acyclic.specs.Sheets.{along_inside, along_on, along_cut, along_end}
use Rattle.acyclic.proofs.walk_tables.Goals as goal

pub walk_table-requires-clause-inside : goal.walk_table-requires-clause-inside
walk_table-requires-clause-inside c = along_inside _ _ _ _ c.loop-place.invariant.1 _ _ _ c.in-Some.ensures.steps c.offset-table.ensures

pub returns-then-not-walk_table : goal.returns-then-not-walk_table
returns-then-not-walk_table c = along_cut _ _ _ _ c.loop-place.invariant.1 _ _ _ c.in-Some.ensures.steps c.offset-table.ensures _ c.walk_table.ensures (search rules)

pub loop-place-preserved : goal.loop-place-preserved
loop-place-preserved c = (search rules, along_on _ _ _ _ c.loop-place.invariant.1 _ _ _ c.in-Some.ensures.steps c.offset-table.ensures _ c.walk_table.ensures (search rules))

pub returns : goal.returns
returns c = search (rules, along_end)
