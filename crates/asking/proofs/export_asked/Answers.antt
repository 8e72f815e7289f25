use Rattle.std.proofs.Common.{rules}
use Rattle.asking.specs.Impls.{exported, loaded_asks, new_map, new_table}
use Rattle.asking.proofs.export_asked.Goals as goal

pub load_table-requires-clause-in_bounds : goal.load_table-requires-clause-in_bounds
load_table-requires-clause-in_bounds c = new_table

pub export_question-requires-clause-asks : goal.export_question-requires-clause-asks
export_question-requires-clause-asks c = search (rules, loaded_asks)

pub export_question-requires-clause-in_bounds_2 : goal.export_question-requires-clause-in_bounds_2
export_question-requires-clause-in_bounds_2 c = new_map

pub returns : goal.returns
returns c = search (rules, exported)
