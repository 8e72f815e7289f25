-- `sign_from`: the parameters are written.
use Rattle.std.proofs.Common.{rules}
use Rattle.opening.specs.Signing.{stood_leaves, stood_meets}
use Rattle.opening.proofs.sign_from.Goals as goal

pub sign_with-requires-clause-leaves : goal.sign_with-requires-clause-leaves
sign_with-requires-clause-leaves c = search (rules, stood_leaves)

pub returns : goal.returns
returns c = search (rules, stood_meets)
