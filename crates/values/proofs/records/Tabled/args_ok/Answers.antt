-- `args_ok`: two planes say what the arguments ask for.
use Rattle.std.proofs.Common.{rules}
use Rattle.values.specs.Verdict.{args_found}
use Rattle.values.proofs.records.Tabled.args_ok.Goals as goal

pub returns : goal.returns
returns c = search (rules, args_found)
