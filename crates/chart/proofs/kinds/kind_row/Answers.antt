-- `kind_row`: the const rows are those of the rule's table, which antt computes; past their end there is 0.
use Rattle.rules.specs.Sheet.{kinds}
use Rattle.chart.specs.Kinds.{cut, row_in, row_past, row_long}
use Rattle.std.proofs.Common.{rules}
use Rattle.chart.proofs.kinds.kind_row.Goals as goal

pub returns-then-over-k : goal.returns-then-over-k
unfolding kinds cut
returns-then-over-k c = row_in c.args.k c.args.j

pub returns-else-over-k : goal.returns-else-over-k
returns-else-over-k c = search (rules, row_long)

pub returns-else-k-lt-KIND_COUNT : goal.returns-else-k-lt-KIND_COUNT
returns-else-k-lt-KIND_COUNT c = search (rules, row_past)
