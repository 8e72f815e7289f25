-- `step`: one link on.
use Rattle.std.proofs.Common.{rules}
use Rattle.order.specs.Words.{steps_either}
use Rattle.order.proofs.classes.Classes.step.Goals as goal

pub returns : goal.returns
returns c = search (rules, steps_either)
