-- `own_size`: of a node, or 1.
use Rattle.std.proofs.Common.{rules}
use Rattle.order.specs.Halts.{base_node, base_other}
use Rattle.order.proofs.own_size.Goals as goal

pub returns-then-r-lt-NODES-clause-size : goal.returns-then-r-lt-NODES-clause-size
returns-then-r-lt-NODES-clause-size c = search (rules, base_node)

pub returns-clause-size : goal.returns-clause-size
returns-clause-size c = search (rules, base_other)
