-- `state`: its own, or another's.
use Rattle.std.proofs.Common.{rules}
use Rattle.order.specs.Joined.{state_other, state_own}
use Rattle.order.proofs.classes.Classes.state.Goals as goal

pub returns-in-0 : goal.returns-in-0
returns-in-0 c = search (rules, state_own)

pub returns-in_default : goal.returns-in_default
returns-in_default c = search (rules, state_other)
