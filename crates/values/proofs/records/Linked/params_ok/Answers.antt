-- `params_ok`: two planes say what impl parameters ask for.
use Rattle.std.proofs.Common.{rules}
use Rattle.values.specs.Verdict.{params-found}
use Rattle.values.proofs.records.Linked.params_ok.Goals as goal

pub returns : goal.returns
returns c = search (rules, params-found)
