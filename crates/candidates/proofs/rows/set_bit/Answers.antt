-- `set_bit`: the bit of its word.
use Rattle.std.proofs.Common.{rules}
use Rattle.candidates.specs.Bits.{with_bit_is}
use Rattle.candidates.proofs.rows.set_bit.Goals as goal

pub returns : goal.returns
returns c = search (rules, with_bit_is)
