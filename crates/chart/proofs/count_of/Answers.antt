-- `count_of`: the head, and the length of its chain.
use Rattle.chart.specs.Fields.{many-found}
use Rattle.std.proofs.Common.{rules}
use Rattle.chart.proofs.count_of.Goals as goal

pub returns : goal.returns
returns c = search (rules, many-found)
