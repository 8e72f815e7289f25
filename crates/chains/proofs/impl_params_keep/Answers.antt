-- `impl_params_keep`: a walk in its plane.
use Rattle.chains.specs.Planes.{params_go}
use Rattle.chains.proofs.impl_params_keep.Goals as goal

pub returns : goal.returns
returns c = λ k. params_go _ _ _ _ _ _ _ c.field_at-h.ensures k (c.celled_keep.ensures k.cells k.params)
