-- `read_children`: an unknown node has no cells.
use Rattle.std.proofs.Common.{rules}
use Rattle.transfer.specs.Cells.{none_read, few_cells, cells_read}
use Rattle.transfer.proofs.chained.RecordsSource.read_children.Goals as goal

pub returns-then-kind_of-eq0 : goal.returns-then-kind_of-eq0
returns-then-kind_of-eq0 c = search (rules, none_read)

pub cells-requires-clause-head_len_bound : goal.cells-requires-clause-head_len_bound
cells-requires-clause-head_len_bound c = search (rules, few_cells)

pub returns-else-kind_of-eq0 : goal.returns-else-kind_of-eq0
returns-else-kind_of-eq0 c = search (rules, cells_read)
