-- `flex_question_keeps`: no marks at first, then the table.
use Rattle.chains.specs.Planes.{planes_cleared}
use Rattle.chains.specs.Sheets.{table_only}
use Rattle.chains.proofs.flex_question_keeps.Goals as goal

pub returns : goal.returns
returns c = table_only _ _ _ (c.nodes_keep.ensures (planes_cleared _ _ _ _ c.clear.ensures))
