-- `impl_question_keeps`: no marks at first, then table and arguments.
use Rattle.chains.specs.Planes.{planes_cleared}
use Rattle.chains.specs.Sheets.{table_no, table_args}
use Rattle.chains.proofs.impl_question_keeps.Goals as goal

pub returns-then-nodes_keep : goal.returns-then-nodes_keep
returns-then-nodes_keep c =
    let table = c.nodes_keep.ensures (planes_cleared _ _ _ _ c.clear.ensures) in
    table_args _ _ _ table _ _ c.if-nodes_keep.true (c.cells_keep.ensures (table.planes c.if-nodes_keep.true))

pub returns-else-nodes_keep : goal.returns-else-nodes_keep
returns-else-nodes_keep c = table_no _ _ _ (c.nodes_keep.ensures (planes_cleared _ _ _ _ c.clear.ensures)) c.if-nodes_keep.false
