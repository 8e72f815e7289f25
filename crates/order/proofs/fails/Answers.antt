-- `fails`: argument by argument.
use Rattle.std.proofs.Common.{rules}
use Rattle.order.specs.Arguments.{asked_clash, asked_on, asked_start}
use Rattle.order.proofs.fails.Goals as goal

pub loop-k-init : goal.loop-k-init
loop-k-init c = asked_start _ _ _ _ _ _ c.new-m.ensures c.requires

pub returns-in-Err-Clash : goal.returns-in-Err-Clash
returns-in-Err-Clash c = search (rules, asked_clash)

pub loop-k-preserved : goal.loop-k-preserved
loop-k-preserved c = search (rules, asked_on, c.in-Ok.ensures)
