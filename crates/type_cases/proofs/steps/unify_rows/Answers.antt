-- `unify_rows`: all arguments are nodes.
use Rattle.std.proofs.Common.{rules}
use Rattle.type_cases.specs.Steps.{rows-joined}
use Rattle.type_cases.proofs.steps.unify_rows.Goals as goal

pub returns : goal.returns
returns c = search (rules, rows-joined)
