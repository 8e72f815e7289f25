-- `leaf_step`: by what `add_leaf` answered.
use Rattle.std.proofs.Common.{rules}
use Rattle.steps.specs.Built.{leaf_added, leaf_refused}
use Rattle.steps.proofs.leaf_step.Goals as goal

pub returns-in-Ok : goal.returns-in-Ok
returns-in-Ok c = search (rules, leaf_added)

pub returns-in-Err : goal.returns-in-Err
returns-in-Err c = search (rules, leaf_refused)
