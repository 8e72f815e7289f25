-- `add_autos`: by what is found.
use Rattle.std.proofs.Common.{rules}
use Rattle.steps.specs.Built.{args_fit_kind, args_fit_id, args_none, args_one}
use Rattle.slots.specs.Adding.{aside_first}
use Rattle.steps.proofs.add_autos.Goals as goal

pub leaf_step-requires-clause-aside : goal.leaf_step-requires-clause-aside
leaf_step-requires-clause-aside c = search (rules, aside_first)

pub leaf_step-requires-clause-kind_bound : goal.leaf_step-requires-clause-kind_bound
leaf_step-requires-clause-kind_bound c = search (rules, args_fit_kind)

pub leaf_step-requires-clause-id_bound : goal.leaf_step-requires-clause-id_bound
leaf_step-requires-clause-id_bound c = search (rules, args_fit_id)

pub returns-in-None : goal.returns-in-None
returns-in-None c = search (rules, args_none)

pub returns-in-Some : goal.returns-in-Some
returns-in-Some c = search (rules, args_one)
