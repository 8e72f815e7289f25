-- `param_met`: a clash, or it is opened.
use Rattle.std.proofs.Common.{rules}
use Rattle.steps.specs.Asking.{scratch_kept}
use Rattle.steps.specs.Behind.{calling_of}
use Rattle.steps.specs.Params.{param_read, met_clash}
use Rattle.steps.proofs.param_met.Goals as goal

pub param_clashes-requires-clause-param_takes : goal.param_clashes-requires-clause-param_takes
param_clashes-requires-clause-param_takes c = search (rules, param_read)

pub param_clashes-requires-clause-calling : goal.param_clashes-requires-clause-calling
param_clashes-requires-clause-calling c = search (rules, calling_of)

pub returns-then-param_clashes : goal.returns-then-param_clashes
returns-then-param_clashes c = search (rules, met_clash)

pub param_opened-requires-clause-scratch : goal.param_opened-requires-clause-scratch
param_opened-requires-clause-scratch c = search (rules, scratch_kept)
