-- `pass`: so many nodes have had their turn.
use Rattle.std.proofs.Common.{rules}
use Rattle.candidates.specs.Spread.{passed_none, pass_more, rows_same}
use Rattle.candidates.proofs.rows.pass.Goals as goal

pub loop-x-init : goal.loop-x-init
loop-x-init c = search (rules, passed_none)

pub loop-x-preserved : goal.loop-x-preserved
loop-x-preserved c = (search rules, search (rules, rows_same), search (rules, pass_more))
