-- `bind_all`: what the first d definitions bind is entered.
use Rattle.std.proofs.Common.{rules}
use Rattle.candidates.specs.Sets.{bound_start, bound_more}
use Rattle.candidates.proofs.sets.bind_all.Goals as goal

pub loop-d-init : goal.loop-d-init
loop-d-init c = search (rules, bound_start)

pub loop-d-preserved : goal.loop-d-preserved
loop-d-preserved c = (search rules, search (rules, bound_more))
