-- `may_enter`: the cases of flags and trait?.
use Rattle.std.proofs.lemmas.Grind.{common_steps}
use Rattle.std.proofs.Common.{arith}
use Rattle.rules.specs.Candidates.{may_enter}
use Rattle.rules.specs.Sheet.{impl_trait}
use Rattle.candidates.proofs.index.Records.may_enter.Goals as goal

pub returns-then-not-impl_flag-2 : goal.returns-then-not-impl_flag-2
unfolding may_enter impl_trait
returns-then-not-impl_flag-2 c = grind (arith, common_steps)

pub returns-else-not-impl_flag-2 : goal.returns-else-not-impl_flag-2
unfolding may_enter impl_trait
returns-else-not-impl_flag-2 c = grind (arith, common_steps)
