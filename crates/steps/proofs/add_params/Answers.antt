-- `add_params`: k of them are done.
use Rattle.std.proofs.Common.{refl, arith, rules}
use Rattle.std.proofs.lemmas.Result.{err_from_is_err_and}
use Rattle.steps.specs.Asking.{scratch_kept}
use Rattle.steps.specs.Params.{params_few, param_in, param_takes, adding_start, adding_on, adding_refused, adding_end}
use Rattle.steps.proofs.add_params.Goals as goal

pub read_params-ps-requires : goal.read_params-ps-requires
read_params-ps-requires c = search (rules, params_few)

pub loop-k-init : goal.loop-k-init
loop-k-init c = (search (rules, adding_start), search rules, search rules)

pub add_param-requires-clause-scratch : goal.add_param-requires-clause-scratch
add_param-requires-clause-scratch c = search (rules, scratch_kept)

pub add_param-requires-clause-in_bounds : goal.add_param-requires-clause-in_bounds
add_param-requires-clause-in_bounds c = omega (arith, c.requires.in_bounds, c.loop-k.invariant.0.front.len)

pub add_param-requires-clause-param_in : goal.add_param-requires-clause-param_in
add_param-requires-clause-param_in c = search (rules, param_in)

pub add_param-requires-clause-param_takes : goal.add_param-requires-clause-param_takes
add_param-requires-clause-param_takes c = param_takes _ c.args.f _ _ _ c.requires.sound c.read_params-ps.ensures.result_value c.read_params-ps.ensures.within_four c.loop-k-test.true refl _ c.requires.taken

pub returns-in_err-found : goal.returns-in_err-found
returns-in_err-found c = let p = err_from_is_err_and c.from_residual.result c.from_residual.ensures.1 in rw (p.1, p.2) (adding_refused _ _ _ _ _ _ _ _ _ c.requires.asking.packed c.loop-k.invariant.0 _ c.loop-k-test.true refl _ _ c.in_err-found.ensures _ refl c.read_params-ps.ensures.result_value)

pub loop-k-preserved : goal.loop-k-preserved
loop-k-preserved c = (adding_on _ _ _ _ _ _ _ _ _ c.requires.asking.packed c.loop-k.invariant.0 _ c.loop-k-test.true refl _ _ c.in_ok-found.ensures _ refl, search rules, search rules)

pub returns : goal.returns
returns c = search (rules, adding_end)
