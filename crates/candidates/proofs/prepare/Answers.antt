-- `prepare`: one step after the other.
use Rattle.std.proofs.Common.{rules}
use Rattle.candidates.specs.Build.{prepared}
use Rattle.candidates.proofs.prepare.Goals as goal

pub returns : goal.returns
returns c = search (rules, prepared)
