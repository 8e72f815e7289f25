-- `children_head`: the test says whether the node is an unknown.
use Rattle.std.proofs.Common.{rules}
use Rattle.acyclic.specs.Nodes.{head_unknown, head_known}
use Rattle.acyclic.proofs.children_head.Goals as goal

pub returns-then-field_at-eq-KIND_UNKNOWN : goal.returns-then-field_at-eq-KIND_UNKNOWN
returns-then-field_at-eq-KIND_UNKNOWN c = search (rules, head_unknown)

pub returns : goal.returns
returns c = search (rules, head_known)
