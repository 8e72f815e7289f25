-- `visible_marked`: a vis is public, or what is noted of its definition.
use Rattle.std.proofs.Common.{rules}
use Rattle.chart.specs.Ancestors.{vis_public, vis_marked}
use Rattle.chart.proofs.scope.visible_marked.Goals as goal

pub returns-in-None : goal.returns-in-None
returns-in-None c = search (rules, vis_public)

pub returns-in-Some : goal.returns-in-Some
returns-in-Some c = search (rules, vis_marked)
