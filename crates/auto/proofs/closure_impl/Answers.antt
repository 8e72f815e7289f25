-- `closure_impl`: the bit of its flex.
use Rattle.std.proofs.Common.{rules}
use Rattle.auto.specs.Built.{own_some, own_none}
use Rattle.auto.proofs.closure_impl.Goals as goal

pub returns-then-flex-built-eq1 : goal.returns-then-flex-built-eq1
returns-then-flex-built-eq1 c = search (rules, own_some)

pub returns-else-flex-built-eq1 : goal.returns-else-flex-built-eq1
returns-else-flex-built-eq1 c = search (rules, own_none)
