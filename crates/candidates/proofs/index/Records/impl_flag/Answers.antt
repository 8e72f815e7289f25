-- `impl_flag`: the flag of its word.
use Rattle.std.proofs.Common.{◌/◌, ◌%◌, ap, eqb}
use Rattle.rules.specs.Sheet.{impl_flag}
use Rattle.candidates.proofs.index.Records.impl_flag.Goals as goal

pub returns : goal.returns
unfolding impl_flag
returns c = ap (λ w. eqb (w / c.args.flag % 2) 1) c.impl_word.ensures
