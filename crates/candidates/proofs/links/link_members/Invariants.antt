-- `link_members`: the edges of the records so far are added.
use Rattle.std.proofs.Common.{◌≡◌, length}
use Rattle.rules.specs.Lists.{concat_map}
use Rattle.rules.specs.Candidates.{member_edges}
use Rattle.candidates.specs.Links.{Linking, Adds}
use Rattle.candidates.proofs.links.link_members.Given as goal

abbrev pub invariant-loop-m : goal.invariant-loop-m
invariant-loop-m l = (length l.ws ≡ length l.initial.ws) × Linking l.x l.s l.ws × Adds l.x (concat_map (member_edges l.s) l.yielded) l.initial.ws l.ws
