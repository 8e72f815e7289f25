-- `ancestors`: from the source upwards.
use Rattle.std.proofs.Common.{rules}
use Rattle.chart.specs.Scope.{upward_from}
use Rattle.chart.proofs.scope.ancestors.Goals as goal

pub returns : goal.returns
returns c = search (rules, upward_from)
