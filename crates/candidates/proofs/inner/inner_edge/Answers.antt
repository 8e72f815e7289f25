-- `inner_edge`: the cases of an edge.
use Rattle.std.proofs.Common.{rules}
use Rattle.candidates.specs.Inner.{step_open, step_leave}
use Rattle.candidates.proofs.inner.inner_edge.Goals as goal

pub returns-then-on : goal.returns-then-on
returns-then-on c = search (rules, step_open)

pub returns-else-on : goal.returns-else-on
returns-else-on c = search (rules, step_leave)
