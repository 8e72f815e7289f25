-- `cells_keep`: a walk in its plane.
use Rattle.chains.specs.Planes.{cells_go}
use Rattle.chains.proofs.cells_keep.Goals as goal

pub returns : goal.returns
returns c = λ k. cells_go _ _ _ _ _ _ _ _ c.field_at-h.ensures k (c.plain_keep.ensures k.cells)
