-- `node_need`: of a Param its id.
use Rattle.std.proofs.Common.{rules}
use Rattle.values.specs.Value.{need_none, need_some}
use Rattle.values.proofs.planes.node_need.Goals as goal

pub returns-then-k-ne-KIND_PARAM : goal.returns-then-k-ne-KIND_PARAM
returns-then-k-ne-KIND_PARAM c = search (rules, need_none)

pub returns : goal.returns
returns c = search (rules, need_some)
