-- `impl_place`: by its id.
use Rattle.std.proofs.Common.{rules}
use Rattle.clash.specs.Signatures.{impl_at}
use Rattle.clash.proofs.impl_place.Goals as goal

pub returns : goal.returns
returns c = search (rules, impl_at)
