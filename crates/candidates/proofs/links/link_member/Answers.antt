-- `link_member`: the cases of a member.
use Rattle.std.proofs.Common.{rules}
use Rattle.candidates.specs.Links.{member_child, member_unresolved, member_at}
use Rattle.candidates.proofs.links.link_member.Goals as goal

pub returns-then-offset-eq0 : goal.returns-then-offset-eq0
returns-then-offset-eq0 c = search (rules, member_child)

pub returns-in-Some : goal.returns-in-Some
returns-in-Some c = search (rules, member_at)

pub returns-in_default : goal.returns-in_default
returns-in_default c = search (rules, member_unresolved)
