-- `link_trait`: a trait, or none.
use Rattle.std.proofs.Common.{rules}
use Rattle.candidates.specs.Links.{trait_none, trait_at}
use Rattle.candidates.proofs.links.link_trait.Goals as goal

pub returns-in-Some : goal.returns-in-Some
returns-in-Some c = search (rules, trait_at)

pub returns-in_default : goal.returns-in_default
returns-in_default c = search (rules, trait_none)
