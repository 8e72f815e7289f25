-- `bit`: the digit after a shift.
use Rattle.std.proofs.Common.{rules}
use Rattle.candidates.specs.Bits.{bit_is}
use Rattle.candidates.proofs.rows.bit.Goals as goal

pub returns : goal.returns
returns c = search (rules, bit_is)
