-- `same_cells`: cell by cell.
use Rattle.std.proofs.Common.{rules}
use Rattle.loose.specs.LooseAcross.{beside_end, beside_full, beside_on, beside_start}
use Rattle.loose.proofs.Test.same_cells.Goals as goal

pub loop-j-init : goal.loop-j-init
loop-j-init c = search (rules, beside_start)

pub returns-then-c-eq0 : goal.returns-then-c-eq0
returns-then-c-eq0 c = search (rules, beside_end)

pub loop-j-preserved : goal.loop-j-preserved
loop-j-preserved c = search (rules, beside_on)

pub returns-then-c-eq0-2 : goal.returns-then-c-eq0-2
returns-then-c-eq0-2 c = search (rules, beside_full)
