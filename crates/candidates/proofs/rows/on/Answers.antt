-- `on`: the bit of its word.
use Rattle.std.proofs.Common.{rules}
use Rattle.candidates.specs.Bits.{on_is}
use Rattle.candidates.proofs.rows.on.Goals as goal

pub returns : goal.returns
returns c = search (rules, on_is)
