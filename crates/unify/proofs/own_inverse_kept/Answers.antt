-- `own_inverse_kept`: the marks that stand are right, and those that come back.
use Rattle.std.proofs.Common.{rules}
use Rattle.unify.specs.Trying.{own_room, own_lent, own_back}
use Rattle.unify.proofs.own_inverse_kept.Goals as goal

pub self_inverse_in-requires-clause-ws_in_bounds : goal.self_inverse_in-requires-clause-ws_in_bounds
self_inverse_in-requires-clause-ws_in_bounds c = search (rules, own_room)

pub self_inverse_in-requires-clause-own : goal.self_inverse_in-requires-clause-own
self_inverse_in-requires-clause-own c = search (rules, own_lent)

pub returns-clause-noted : goal.returns-clause-noted
returns-clause-noted c = search (rules, own_back)
