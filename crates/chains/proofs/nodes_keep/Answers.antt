-- `nodes_keep`: a walk in its plane.
use Rattle.chains.specs.Planes.{nodes_go}
use Rattle.chains.proofs.nodes_keep.Goals as goal

pub returns : goal.returns
returns c = λ k. nodes_go _ _ _ _ _ _ _ _ c.field_at-h.ensures k (c.celled_keep.ensures k.cells k.nodes)
