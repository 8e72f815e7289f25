-- `visible`: a vis is public, or names an ancestor.
use Rattle.std.proofs.Common.{rules}
use Rattle.chart.specs.Scope.{visible_all, visible_in}
use Rattle.chart.proofs.scope.visible.Goals as goal

pub returns-in-None : goal.returns-in-None
returns-in-None c = search (rules, visible_all)

pub returns-in-Some : goal.returns-in-Some
returns-in-Some c = search (rules, visible_in)
