-- `is_ancestor`: it stands among the ancestors.
use Rattle.std.proofs.Common.{rules, tests, ◌∙◌, eqb}
use Rattle.std.proofs.lemmas.Iterator.Consumers.{YieldsList-from_first}
use Rattle.std.proofs.lemmas.Iterator.Search.{any_from_yields_List}
use Rattle.rules.specs.Candidates.{ancestors}
use Rattle.chart.specs.Tests.{in_listed}
use Rattle.chart.proofs.scope.is_ancestor.Goals as goal

pub returns : goal.returns
returns c =
    any_from_yields_List (λ d. eqb c.args.a d) _ _ _ c.any.ensures.ran (YieldsList-from_first (λ x. x) (λ ds. ds) (ancestors c.args.s.now c.args.src) c.ancestors.ensures) (λ x b q k. search (rules, tests))
    ∙ in_listed c.args.a (ancestors c.args.s.now c.args.src)
