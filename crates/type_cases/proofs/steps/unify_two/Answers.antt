-- `unify_two`: both types are nodes.
use Rattle.std.proofs.Common.{rules}
use Rattle.type_cases.specs.Sound.{sound_unify}
use Rattle.type_cases.proofs.steps.unify_two.Goals as goal

pub returns : goal.returns
returns c = search (rules, sound_unify)
