-- A node, by its kind.
use Rattle.std.proofs.Common.{rules}
use Rattle.loading.specs.Nodes.{unknown_pushed}
use Rattle.loading.proofs.load_node.Goals as goal

pub returns-then-kind-eq0 : goal.returns-then-kind-eq0
returns-then-kind-eq0 c = search (rules, unknown_pushed)
