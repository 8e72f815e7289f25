-- `root_clash`: what differs.
use Rattle.std.proofs.Common.{rules}
use Rattle.clash.specs.Pairs.{root_errors, root_ids, root_apart, root_kinds}
use Rattle.clash.proofs.arguments.root_clash.Goals as goal

pub returns-then-k-l : goal.returns-then-k-l
returns-then-k-l c = search (rules, root_kinds)

pub returns-then-a-b : goal.returns-then-a-b
returns-then-a-b c = search (rules, root_errors)

pub returns-then-d-id : goal.returns-then-d-id
returns-then-d-id c = search (rules, root_ids)

pub returns-then-apart : goal.returns-then-apart
returns-then-apart c = search (rules, root_apart)
