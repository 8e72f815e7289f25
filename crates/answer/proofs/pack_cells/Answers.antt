-- `pack_cells`: the cells passed are written; the rest of them is to come.
use Rattle.std.proofs.Common.{rules}
use Rattle.answer.specs.Cells.{cells_more, cells_done}
use Rattle.answer.proofs.pack_cells.Goals as goal

pub loop-j-preserved : goal.loop-j-preserved
loop-j-preserved c = (search (rules, cells_more), search rules)

pub returns : goal.returns
returns c = search (rules, cells_done)
