-- `settle_wrapped`: by what was answered.
use Rattle.std.proofs.Common.{rules}
use Rattle.std.proofs.lemmas.Result.{err_from_is_err_and}
use Rattle.slots.specs.Settling.{sub_few, sub_row, sub_low, settles_refused, settles_found}
use Rattle.slots.proofs.settle_wrapped.Goals as goal

pub gather_wrapped-requires-clause-sub_n_bound : goal.gather_wrapped-requires-clause-sub_n_bound
gather_wrapped-requires-clause-sub_n_bound c = search (rules, sub_few)

pub gather_wrapped-requires-clause-row : goal.gather_wrapped-requires-clause-row
gather_wrapped-requires-clause-row c = search (rules, sub_row)

pub gather_wrapped-requires-clause-sub_count_bound : goal.gather_wrapped-requires-clause-sub_count_bound
gather_wrapped-requires-clause-sub_count_bound c = search (rules, sub_low)

pub returns-in_err-sub : goal.returns-in_err-sub
returns-in_err-sub c = let p = err_from_is_err_and c.from_residual.result c.from_residual.ensures.1 in rw (p.1, p.2) (search (rules, settles_refused))

pub returns : goal.returns
returns c = search (rules, settles_found)
