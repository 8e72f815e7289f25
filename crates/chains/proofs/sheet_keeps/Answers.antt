-- `sheet_keeps`: no marks at first, then both halves of the header.
use Rattle.chains.specs.Planes.{planes_cleared}
use Rattle.chains.specs.Sheets.{sheet_first, sheet_last}
use Rattle.chains.proofs.sheet_keeps.Goals as goal

pub returns-then-first_heads : goal.returns-then-first_heads
returns-then-first_heads c =
    let first = c.first_heads.ensures (planes_cleared _ _ _ _ c.clear.ensures) in
    sheet_last _ _ _ _ first _ _ c.if-first_heads.true (c.last_heads.ensures (first.planes c.if-first_heads.true))

pub returns-else-first_heads : goal.returns-else-first_heads
returns-else-first_heads c = sheet_first _ _ _ _ (c.first_heads.ensures (planes_cleared _ _ _ _ c.clear.ensures)) c.if-first_heads.false
