-- `prepare_cells`: lengths, then bounds.
use Rattle.std.proofs.Common.{rules}
use Rattle.values.specs.Tables.{space_fold, cells-made}
use Rattle.values.proofs.prepare.prepare_cells.Goals as goal

pub note_cells-requires : goal.note_cells-requires
note_cells-requires c = search (rules, space_fold)

pub returns : goal.returns
returns c = search (rules, cells-made)
