-- `bind_chain`: one binding more.
use Rattle.std.proofs.Common.{rules}
use Rattle.candidates.specs.Sets.{binding_on, enters_none, enters_more}
use Rattle.candidates.proofs.sets.bind_chain.Goals as goal

pub loop-b-init : goal.loop-b-init
loop-b-init c = (search rules, search rules, search (rules, enters_none))

pub loop-b-preserved : goal.loop-b-preserved
loop-b-preserved c = (search rules, search (rules, binding_on), search (rules, enters_more))
