-- `impl_flag`: one bit of the word of flags.
use Rattle.chart.specs.Fields.{flag_found}
use Rattle.std.proofs.Common.{rules}
use Rattle.chart.proofs.impl_flag.Goals as goal

pub returns : goal.returns
returns c = search (rules, flag_found)
