-- `param_opened`: by what the join came to.
use Rattle.std.proofs.Common.{rules}
use Rattle.slots.specs.Adding.{aside_behind}
use Rattle.steps.specs.Params.{met_packed, met_full, met_unfit, met_fits}
use Rattle.steps.proofs.param_opened.Goals as goal

pub leaf_step-requires-clause-packed : goal.leaf_step-requires-clause-packed
leaf_step-requires-clause-packed c = search (rules, met_packed)

pub leaf_step-requires-clause-aside : goal.leaf_step-requires-clause-aside
leaf_step-requires-clause-aside c = search (rules, aside_behind)

pub returns-in-Err : goal.returns-in-Err
returns-in-Err c = search (rules, met_full)

pub returns-in-Ok-false : goal.returns-in-Ok-false
returns-in-Ok-false c = met_unfit _ _ c.args.f _ _ _ _ _ _ c.requires.p_value c.in-Ok-false.ensures (search rules) c.requires.found_n_bound c.requires.found_count_bound

pub returns-in-Ok-true : goal.returns-in-Ok-true
returns-in-Ok-true c = met_fits _ _ c.args.f _ _ _ _ _ _ c.requires.p_value c.in-Ok-true.ensures (search rules) c.requires.found_n_bound _ _ c.leaf_step.ensures
