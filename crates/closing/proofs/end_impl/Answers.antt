-- By what the search came to.
use Rattle.std.proofs.Common.{rules}
use Rattle.closing.specs.Ends.{ends_refused, ends_found, found_if}
use Rattle.closing.proofs.end_impl.Goals as goal

pub end_results-requires-clause-if_one : goal.end_results-requires-clause-if_one
end_results-requires-clause-if_one c = search (rules, found_if)

pub returns-in-Ok-end_results-clause-ends : goal.returns-in-Ok-end_results-clause-ends
returns-in-Ok-end_results-clause-ends c = ends_found _ _ _ _ _ _ _ _ _ _ c.in-Ok.is c.in-Ok-end_results.ensures

pub returns-in-Err-end_results-clause-ends : goal.returns-in-Err-end_results-clause-ends
returns-in-Err-end_results-clause-ends c = ends_found _ _ _ _ _ _ _ _ _ _ c.in-Ok.is c.in-Err-end_results.ensures

pub returns-in-Err-clause-ends : goal.returns-in-Err-clause-ends
returns-in-Err-clause-ends c = ends_refused _ _ _ _ _ _ _ _ c.in-Err.is
