-- `invert_if`: the lowest bit is the inversion.
use Rattle.table.specs.Reads.{invert_bit}
use Rattle.std.proofs.Common.{rules}
use Rattle.table.proofs.invert_if.Goals as goal

pub returns : goal.returns
returns c = search (rules, invert_bit)
