-- `link_all`: the rows of the first d definitions hold their edges.
use Rattle.std.proofs.Common.{◌*◌, ◌≡◌, length}
use Rattle.candidates.specs.Links.{Built}
use Rattle.candidates.proofs.links.link_all.Given as goal

abbrev pub invariant-loop-d : goal.invariant-loop-d
invariant-loop-d l = (length l.ws ≡ length l.initial.ws) × Built l.s (3 * l.d) l.initial.ws l.ws
