-- `next`: a definition, and then its parent.
use Rattle.std.proofs.Common.{rules}
use Rattle.chart.specs.Scope.{upward_spent, upward_top, upward_on}
use Rattle.chart.proofs.scope.AncestryIterator.next.Goals as goal

pub returns-then-self-eq0-clause-steps : goal.returns-then-self-eq0-clause-steps
returns-then-self-eq0-clause-steps c = search (rules, upward_spent)

pub returns-in_err-here-clause-steps : goal.returns-in_err-here-clause-steps
returns-in_err-here-clause-steps c = search (rules, upward_top)

pub returns-clause-steps : goal.returns-clause-steps
returns-clause-steps c = search (rules, upward_on)

pub returns-clause-goes : goal.returns-clause-goes
returns-clause-goes c = search (rules, upward_on)
