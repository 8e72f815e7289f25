-- `need`: the parameters are written.
use Rattle.std.proofs.Common.{rules}
use Rattle.opening.specs.Needing.{standing_few, need_follows}
use Rattle.opening.specs.Signing.{params_few}
use Rattle.opening.proofs.need.Goals as goal

pub stand-requires-clause-n_bound : goal.stand-requires-clause-n_bound
stand-requires-clause-n_bound c = search (rules, standing_few)

pub stand-requires-clause-n_in_bounds : goal.stand-requires-clause-n_in_bounds
stand-requires-clause-n_in_bounds c = search (rules, params_few)

pub returns : goal.returns
returns c = search (rules, need_follows)
