-- `open_in`: what the signature takes stands behind the sets.
use Rattle.finder.specs.Cycle.{searching_takes}
use Rattle.finder.proofs.Search.open_in.Goals as goal

pub open_candidate-requires-clause-signature_takes : goal.open_candidate-requires-clause-signature_takes
open_candidate-requires-clause-signature_takes c = λ d. searching_takes _ _ _ _ d.requires.searching d.requires.i_bound
