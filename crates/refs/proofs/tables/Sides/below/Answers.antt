-- `below`: by its node or its record.
use Rattle.std.proofs.Common.{rules}
use Rattle.refs.specs.Children.{below_node, below_record}
use Rattle.refs.proofs.tables.Sides.below.Goals as goal

pub returns-then-r-lt-NODES : goal.returns-then-r-lt-NODES
returns-then-r-lt-NODES c = search (rules, below_node)

pub returns : goal.returns
returns c = search (rules, below_record)
