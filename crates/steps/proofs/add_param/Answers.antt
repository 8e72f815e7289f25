-- `add_param`: by its trait.
use Rattle.std.proofs.Common.{rules}
use Rattle.steps.specs.Params.{param-same, param_other}
use Rattle.steps.proofs.add_param.Goals as goal

pub param_met-requires-clause-p_value : goal.param_met-requires-clause-p_value
param_met-requires-clause-p_value c = search (rules, param-same)

pub returns : goal.returns
returns c = search (rules, param_other)
