-- `zero_or_from`: zero, or a comparison.
use Rattle.std.proofs.Common.{rules}
use Rattle.chains.specs.Walks.{head_zero, head_from}
use Rattle.chains.proofs.zero_or_from.Goals as goal

pub returns-then-h-eq0 : goal.returns-then-h-eq0
returns-then-h-eq0 c = search (rules, head_zero)

pub returns-else-h-eq0 : goal.returns-else-h-eq0
returns-else-h-eq0 c = search (rules, head_from)
