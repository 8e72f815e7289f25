-- The question's table is loaded, and its type exported.
use Rattle.std.proofs.Common.{rules}
use Rattle.flexing.specs.Asked.{flexing_fitting, flexing_inside, loaded_neat, loaded_inside}
use Rattle.flexing.proofs.Call.export.Goals as goal

pub load_table-requires-clause-fitting : goal.load_table-requires-clause-fitting
load_table-requires-clause-fitting c = search (rules, flexing_fitting)

pub export_type-requires-clause-neat : goal.export_type-requires-clause-neat
export_type-requires-clause-neat c = search (rules, loaded_neat, flexing_fitting)

pub export_type-requires-clause-t_in_bounds : goal.export_type-requires-clause-t_in_bounds
export_type-requires-clause-t_in_bounds c = search (rules, loaded_inside, flexing_inside)
