-- `sign`: there is no room for the unknowns, or the signature follows.
use Rattle.std.proofs.Common.{rules}
use Rattle.std.proofs.lemmas.Result.{err_from_is_err_and}
use Rattle.opening.specs.Signing.{params_few, fresh_few, fresh-question, fresh-leaves, sign_full, sign_meets}
use Rattle.opening.proofs.sign.Goals as goal

pub sign_from-requires-clause-all_in : goal.sign_from-requires-clause-all_in
sign_from-requires-clause-all_in c = search (rules, fresh-question, c.in_ok-fresh.ensures.freshens)

pub sign_from-requires-clause-n_bound_2 : goal.sign_from-requires-clause-n_bound_2
sign_from-requires-clause-n_bound_2 c = search (rules, params_few)

pub sign_from-requires-clause-n_bound_3 : goal.sign_from-requires-clause-n_bound_3
sign_from-requires-clause-n_bound_3 c = search (rules, fresh_few, c.in_ok-fresh.ensures.freshens)

pub sign_from-requires-clause-leaves : goal.sign_from-requires-clause-leaves
sign_from-requires-clause-leaves c = search (rules, fresh-leaves, c.requires.sound, c.requires.i_bound, c.impl_generics-g.ensures, c.type_params-n.ensures, c.count-base.ensures, c.in_ok-fresh.ensures.freshens, c.requires.all_in, c.requires.neat)

pub returns : goal.returns
returns c = search (rules, sign_meets, c.requires.sound, c.requires.i_bound, c.impl_generics-g.ensures, c.type_params-n.ensures, c.count-base.ensures, c.in_ok-fresh.ensures.freshens, c.requires.all_in, c.requires.neat, c.sign_from.ensures)

pub returns-in_err-fresh : goal.returns-in_err-fresh
returns-in_err-fresh c = let p = err_from_is_err_and c.from_residual.result c.from_residual.ensures.1 in rw (p.1, p.2) (search (rules, sign_full, c.in_err-fresh.ensures.freshens, c.in_err-fresh.ensures.full))
