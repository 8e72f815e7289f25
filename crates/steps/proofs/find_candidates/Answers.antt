-- `find_candidates`: the question's words.
use Rattle.std.proofs.Common.{rules}
use Rattle.steps.specs.Next.{sets_length, sets_stand, args_few, args_find}
use Rattle.steps.proofs.find_candidates.Goals as goal

pub slice_bounds-find_impl_candidates-end : goal.slice_bounds-find_impl_candidates-end
slice_bounds-find_impl_candidates-end c = search (rules, sets_length)

pub find_impl_candidates-requires-clause-stands : goal.find_impl_candidates-requires-clause-stands
find_impl_candidates-requires-clause-stands c = search (rules, sets_stand, c.requires.stands)

pub find_impl_candidates-requires-clause-args_len_bound : goal.find_impl_candidates-requires-clause-args_len_bound
find_impl_candidates-requires-clause-args_len_bound c = search (rules, args_few)

pub returns : goal.returns
returns c = search (rules, args_find)
