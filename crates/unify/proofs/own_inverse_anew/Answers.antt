-- `own_inverse_anew`: the memo behind the marks stays.
use Rattle.std.proofs.Common.{rules}
use Rattle.unify.specs.Trying.{marks_enough, marks_back}
use Rattle.unify.proofs.own_inverse_anew.Goals as goal

pub self_inverse-requires-clause-ws_in_bounds : goal.self_inverse-requires-clause-ws_in_bounds
self_inverse-requires-clause-ws_in_bounds c = search (rules, marks_enough)

pub returns-clause-aside : goal.returns-clause-aside
returns-clause-aside c = search (rules, marks_back)
