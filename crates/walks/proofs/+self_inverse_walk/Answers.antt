-- `self_inverse_in` and `self_inverse_all`: the rank falls from a type to the children of its root; the children passed are their own inverse.
use Rattle.std.proofs.Common.{rules}
use Rattle.walks.specs.SelfInverse.{passed_not, passed_more, passed_all, inverted_marked, inverted_not, inverted_within, inverted_whole}
use Rattle.walks.specs.Steps.{child-in_table, child_lower, among_lower, root_in, root_own}
use Rattle.walks.proofs.+self_inverse_walk.Goals as goal

pub self_inverse_all-self_inverse_in-requires : goal.self_inverse_all-self_inverse_in-requires
self_inverse_all-self_inverse_in-requires t c = search (rules, child_lower, child-in_table)

pub self_inverse_all-returns-then-not-self_inverse_in : goal.self_inverse_all-returns-then-not-self_inverse_in
self_inverse_all-returns-then-not-self_inverse_in t c = search (rules, passed_not)

pub self_inverse_all-loop-i-preserved : goal.self_inverse_all-loop-i-preserved
self_inverse_all-loop-i-preserved t c = search (rules, passed_more)

pub self_inverse_all-returns : goal.self_inverse_all-returns
self_inverse_all-returns t c = search (rules, passed_all)

pub self_inverse_in-returns-then-marked : goal.self_inverse_in-returns-then-marked
self_inverse_in-returns-then-marked t c = search (rules, inverted_marked)

pub self_inverse_in-returns-then-not-own_inverse_of : goal.self_inverse_in-returns-then-not-own_inverse_of
self_inverse_in-returns-then-not-own_inverse_of t c = search (rules, inverted_not)

pub self_inverse_in-self_inverse_all-requires : goal.self_inverse_in-self_inverse_all-requires
self_inverse_in-self_inverse_all-requires t c = search (rules, among_lower, root_in, root_own)

pub self_inverse_in-returns-then-not-self_inverse_all : goal.self_inverse_in-returns-then-not-self_inverse_all
self_inverse_in-returns-then-not-self_inverse_all t c = search (rules, inverted_within)

pub self_inverse_in-returns : goal.self_inverse_in-returns
self_inverse_in-returns t c = search (rules, inverted_whole)
