-- `own_inverse_of`: an unknown is not.
use Rattle.std.proofs.Common.{rules}
use Rattle.walks.specs.SelfInverse.{own_none, own_flag}
use Rattle.walks.proofs.own_inverse_of.Goals as goal

pub returns-then-k-ne0 : goal.returns-then-k-ne0
returns-then-k-ne0 c = search (rules, own_flag)

pub returns-else-k-ne0 : goal.returns-else-k-ne0
returns-else-k-ne0 c = search (rules, own_none)
