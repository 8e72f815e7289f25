-- `link_ancestors`: the parent, or the prelude, or neither.
use Rattle.std.proofs.Common.{rules}
use Rattle.candidates.specs.Links.{parent_at, prelude_at, no_prelude_edges}
use Rattle.candidates.proofs.links.link_ancestors.Goals as goal

pub returns-in-Some : goal.returns-in-Some
returns-in-Some c = search (rules, parent_at)

pub returns-in-Some-checked_sub : goal.returns-in-Some-checked_sub
returns-in-Some-checked_sub c = search (rules, prelude_at)

pub returns-in_default-checked_sub : goal.returns-in_default-checked_sub
returns-in_default-checked_sub c = search (rules, no_prelude_edges)
