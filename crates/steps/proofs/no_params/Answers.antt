-- `no_params`: by the head of their chain.
use Rattle.std.proofs.Common.{rules}
use Rattle.steps.specs.Beginning.{params_none}
use Rattle.steps.proofs.no_params.Goals as goal

pub returns : goal.returns
returns c = search (rules, params_none)
