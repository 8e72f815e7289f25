-- `link_direct`: its trait, named impls, implicit members.
use Rattle.std.proofs.Common.{rules}
use Rattle.candidates.specs.Links.{direct-edges}
use Rattle.candidates.proofs.links.link_direct.Goals as goal

pub returns : goal.returns
returns c = search (rules, direct-edges)
