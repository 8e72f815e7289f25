-- `prepare_nodes`: three planes, each above those that it reads.
use Rattle.std.proofs.Common.{rules}
use Rattle.values.specs.Tables.{nodes_made}
use Rattle.values.proofs.prepare.prepare_nodes.Goals as goal

pub returns : goal.returns
returns c = search (rules, nodes_made)
