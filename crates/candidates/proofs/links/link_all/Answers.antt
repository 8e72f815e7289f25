-- `link_all`: the rows of the first d definitions hold their edges.
use Rattle.std.proofs.Common.{rules}
use Rattle.candidates.specs.Links.{built_start, built_more}
use Rattle.candidates.proofs.links.link_all.Goals as goal

pub loop-d-init : goal.loop-d-init
loop-d-init c = search (rules, built_start)

pub loop-d-preserved : goal.loop-d-preserved
loop-d-preserved c = (search rules, search (rules, built_more))
