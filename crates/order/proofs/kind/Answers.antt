-- `kind`: by what it is.
use Rattle.std.proofs.Common.{rules}
use Rattle.order.specs.Words.{kind-node, kind_param_lem, kind_record}
use Rattle.order.proofs.kind.Goals as goal

pub returns-then-r-lt-NODES : goal.returns-then-r-lt-NODES
returns-then-r-lt-NODES c = search (rules, kind-node)

pub returns-then-r-lt-RECORDS : goal.returns-then-r-lt-RECORDS
returns-then-r-lt-RECORDS c = search (rules, kind_param_lem)

pub returns : goal.returns
returns c = search (rules, kind_record)
