-- `link_binding`: an impl that is named as asked, or otherwise.
use Rattle.std.proofs.Common.{rules}
use Rattle.candidates.specs.Links.{binding_asked, binding_not_asked}
use Rattle.candidates.proofs.links.link_binding.Goals as goal

pub returns-then-impl_flag-named : goal.returns-then-impl_flag-named
returns-then-impl_flag-named c = search (rules, binding_asked)

pub returns-else-impl_flag-named : goal.returns-else-impl_flag-named
returns-else-impl_flag-named c = search (rules, binding_not_asked)
