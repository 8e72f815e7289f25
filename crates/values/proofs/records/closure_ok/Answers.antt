-- `closure_ok`: the word that is tested.
use Rattle.std.proofs.Common.{rules}
use Rattle.values.specs.Verdict.{closure-found}
use Rattle.values.proofs.records.closure_ok.Goals as goal

pub returns : goal.returns
returns c = search (rules, closure-found)
