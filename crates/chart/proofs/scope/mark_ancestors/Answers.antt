-- `mark_ancestors`: the words of the definitions are marked.
use Rattle.std.proofs.Common.{rules, arith}
use Rattle.chart.specs.Ancestors.{ancestors-made}
use Rattle.chart.proofs.scope.mark_ancestors.Goals as goal

pub returns : goal.returns
returns c = ancestors-made _ _ _ _ _ _ (omega arith) c.requires (search rules) (search rules)
