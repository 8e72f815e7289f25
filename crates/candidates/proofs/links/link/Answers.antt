-- `link`: the cases of an edge.
use Rattle.std.proofs.Common.{rules}
use Rattle.candidates.specs.Links.{link_past, link_open, link_shut}
use Rattle.candidates.proofs.links.link.Goals as goal

pub returns-then-y-ge-NODES : goal.returns-then-y-ge-NODES
returns-then-y-ge-NODES c = search (rules, link_past)

pub returns-then-open : goal.returns-then-open
returns-then-open c = search (rules, link_open)

pub returns-else-open : goal.returns-else-open
returns-else-open c = search (rules, link_shut)
