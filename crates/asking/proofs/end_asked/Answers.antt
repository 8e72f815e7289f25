-- The question loaded anew, and closed with the first result, which stands in the front of the slice.
use Rattle.std.proofs.Common.{rules}
use Rattle.closing.specs.Ends.{found_front}
use Rattle.asking.specs.Impls.{front_taken, ended, loaded_asks, loaded_packed}
use Rattle.asking.proofs.end_asked.Goals as goal

pub end_impl-requires-clause-packed : goal.end_impl-requires-clause-packed
end_impl-requires-clause-packed c = search (rules, loaded_packed)

pub end_impl-requires-clause-asks : goal.end_impl-requires-clause-asks
end_impl-requires-clause-asks c = search (rules, loaded_asks)

pub end_impl-requires-clause-if_found : goal.end_impl-requires-clause-if_found
end_impl-requires-clause-if_found c = search (rules, found_front, front_taken)

pub returns-clause-ends : goal.returns-clause-ends
returns-clause-ends c = ended _ _ _ _ _ _ _ _ _ _ _ (search rules) (search rules) (search (rules, front_taken)) c.end_impl.ensures.ends
