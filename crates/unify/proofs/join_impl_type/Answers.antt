-- `join_impl_type`: by the verdict.
use Rattle.std.proofs.Common.{rules}
use Rattle.unify.proofs.Success.{joins_told}
use Rattle.unify.proofs.join_impl_type.Goals as goal

pub returns : goal.returns
returns c = search (rules, joins_told)
