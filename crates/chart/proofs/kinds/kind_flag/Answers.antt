-- `kind_flag`: the row's flag, and self-dual.
use Rattle.chart.specs.Kinds.{flag_on, flag_off}
use Rattle.std.proofs.Common.{rules}
use Rattle.chart.proofs.kinds.kind_flag.Goals as goal

pub returns-then-kind_row-eq1 : goal.returns-then-kind_row-eq1
returns-then-kind_row-eq1 c = search (rules, flag_on)

pub returns-else-kind_row-eq1 : goal.returns-else-kind_row-eq1
returns-else-kind_row-eq1 c = search (rules, flag_off)
