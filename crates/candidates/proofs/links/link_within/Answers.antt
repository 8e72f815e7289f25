-- `link_within`: the direct level, named members, unnamed impls.
use Rattle.std.proofs.Common.{rules}
use Rattle.candidates.specs.Links.{within-edges}
use Rattle.candidates.proofs.links.link_within.Goals as goal

pub returns : goal.returns
returns c = search (rules, within-edges)
