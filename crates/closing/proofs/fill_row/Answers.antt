-- The type words of nodes 0, 1, 2 and on: all are written.
use Rattle.std.proofs.Common.{rules}
use Rattle.closing.specs.Rows.{filling_done}
use Rattle.closing.proofs.fill_row.Goals as goal

pub returns : goal.returns
returns c = search (rules, filling_done)
