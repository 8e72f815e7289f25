-- `link_bindings`: one record more.
use Rattle.std.proofs.Common.{rules}
use Rattle.rules.specs.Lists.{concat_map}
use Rattle.candidates.specs.Links.{linking_on, adds_none, adds_more}
use Rattle.candidates.proofs.links.link_bindings.Goals as goal

pub loop-m-init : goal.loop-m-init
unfolding concat_map
loop-m-init c = (search rules, search rules, search (rules, adds_none))

pub loop-m-preserved : goal.loop-m-preserved
loop-m-preserved c = (search rules, search (rules, linking_on), search (rules, adds_more))
