-- `self_inverse`: at the start no node is marked.
use Rattle.std.proofs.Common.{rules}
use Rattle.walks.specs.SelfInverse.{own_start}
use Rattle.walks.proofs.self_inverse.Goals as goal

pub self_inverse_in-requires-clause-own : goal.self_inverse_in-requires-clause-own
self_inverse_in-requires-clause-own c = search (rules, own_start)
