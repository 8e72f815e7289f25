-- What 16 and 17 leave of any question, on any sheet: at most 4 results, and trees of at most 256 nodes.
use Rattle.std.specs.Prelude.{ℕ, zero, suc, Bool, false, List}
use Rattle.rules.specs.Types.{Types, ImplType}
use Rattle.rules.specs.Search.{Finder, find_impl_candidates, try_candidate, before_candidates, question}
use Rattle.rules.specs.Yields.{Yields, yields_bind, yields_any}
use Rattle.rules.specs.ResultLimits.{Few, collect_few, before_few}

-- Whatever a question comes to, on any sheet, of any table.
pub question_few : (d : ℕ) (a : Finder) (basic : Bool) (ts : Types) (q : ImplType) → Yields Few (question d a basic ts q)
unfolding question
question_few zero a basic ts q = tt
question_few (suc d) a basic ts q =
    yields_bind Few Few (before_candidates a basic ts q) _ (before_few a basic ts q) λ fs h.
    yields_bind (λ (is : List ℕ). Unit {0}) Few (find_impl_candidates a ts q basic) _ (yields_any (find_impl_candidates a ts q basic)) λ is u.
    collect_few (try_candidate (λ us r. question d a false us r) a.sheet ts q) is fs h
