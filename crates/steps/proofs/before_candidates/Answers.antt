-- `before_candidates`: by the flag, and by what the built-ins answered.
use Rattle.std.proofs.Common.{refl, rules}
use Rattle.std.proofs.lemmas.Result.{err_from_is_err_and}
use Rattle.steps.specs.Beginning.{small_ids, begins_basic, begins_refused, autos_few, autos_low, autos_row, autos_asking, begins_params}
use Rattle.steps.proofs.before_candidates.Goals as goal

pub returns-then-basic-eq1 : goal.returns-then-basic-eq1
returns-then-basic-eq1 c = search (rules, begins_basic)

pub add_autos-requires-clause-small_ids : goal.add_autos-requires-clause-small_ids
add_autos-requires-clause-small_ids c = search (rules, small_ids)

pub returns-in_err-found : goal.returns-in_err-found
returns-in_err-found c = let p = err_from_is_err_and c.from_residual.result c.from_residual.ensures.1 in rw (p.1, p.2) (begins_refused _ c.args.f _ _ _ _ _ _ c.if-basic-eq1.false c.in_err-found.ensures _ refl)

pub add_params-requires-clause-asking : goal.add_params-requires-clause-asking
add_params-requires-clause-asking c = autos_asking _ _ _ _ _ _ c.in_ok-found.ensures c.requires.asking

pub add_params-requires-clause-row : goal.add_params-requires-clause-row
add_params-requires-clause-row c = autos_row _ _ _ _ _ _ c.in_ok-found.ensures _ refl

pub add_params-requires-clause-found_n_bound : goal.add_params-requires-clause-found_n_bound
add_params-requires-clause-found_n_bound c = autos_few _ _ _ _ _ _ c.in_ok-found.ensures _ refl

pub add_params-requires-clause-found_count_bound : goal.add_params-requires-clause-found_count_bound
add_params-requires-clause-found_count_bound c = autos_low _ _ _ _ _ _ c.in_ok-found.ensures _ refl

pub returns : goal.returns
returns c = begins_params _ c.args.f _ _ _ _ _ _ c.if-basic-eq1.false c.in_ok-found.ensures _ refl c.requires.asking.packed _ _ c.add_params.ensures
