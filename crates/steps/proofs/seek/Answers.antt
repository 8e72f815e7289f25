-- `seek`: nothing where there are no impl parameters, or what they come to.
use Rattle.std.specs.Prelude.{ℕ, ◌≤◌}
use Rattle.std.proofs.Common.{rules}
use Rattle.queries.specs.Queries.{query_in}
use Rattle.steps.specs.Candidate.{none_few, seeks_none}
use Rattle.steps.proofs.seek.Goals as goal

pub returns-then-impl_params_head-eq0 : goal.returns-then-impl_params_head-eq0
returns-then-impl_params_head-eq0 c =
    let few : (k : ℕ) → (query_in c.default.result k).n ≤ 4 = none_few c.default.result _ (λ x p. p.1.0) c.default.ensures.1 in
    search (rules, seeks_none, few)
