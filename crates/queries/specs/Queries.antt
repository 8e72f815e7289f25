-- Sub-questions in the code's words.
use Rattle.std.specs.Prelude.{ℕ, suc, ◌+◌, ◌≤◌, ◌<◌, ◌≡◌, List, [], ◌∷◌, map, length, get_or, take, drop}
use Rattle.std.proofs.Common.{sym, ◌∙◌, ap, add-one, arith, drop_of_length-le, drop-cons}
use Rattle.rules.specs.Lists.{Words}
use Rattle.rules.specs.Types.{ImplType}
use Rattle.rules.specs.Transfer.{type_of_word}
use Rattle.table.specs.Packing.{up_to}
use Rattle.table.specs.Nodes.{up_to-length, up_to_at}
use Rattle.queries.specs.declared.Query.{Query}
use Rattle.queries.specs.declared.Queries.{Queries}

-- The four places of a question's type words.
abbrev pub four : Words → Words
four xs = get_or xs 0 0 ∷ get_or xs 1 0 ∷ get_or xs 2 0 ∷ get_or xs 3 0 ∷ []

-- What a question is of the rules.
unfoldable pub query_of : Query → ImplType
query_of q = (q.tr, map type_of_word (take q.n (four q.args)))

-- No question, past the last.
abbrev pub no_query : Query
no_query = record { tr = 0; n = 0; args = [] }

-- Sub-question k.
abbrev pub query_in : Queries → ℕ → Query
query_in qs k = get_or qs.items k no_query

-- All of them.
unfoldable pub queries_of : Queries → List ImplType
queries_of qs = up_to (λ k. query_of (query_in qs k)) qs.n

pub queries_length : (qs : Queries) → length (queries_of qs) ≡ qs.n
unfolding queries_of
queries_length qs = up_to-length (λ k. query_of (query_in qs k)) qs.n

-- Those that are left: one before others, and none.
pub queries_next : (qs : Queries) (k : ℕ) → k < qs.n → drop k (queries_of qs) ≡ query_of (query_in qs k) ∷ drop (k + 1) (queries_of qs)
unfolding queries_of
queries_next qs k h =
    drop-cons (queries_of qs) k (0, []) (omega (arith, queries_length qs))
    ∙ ap (λ (q : ImplType). q ∷ drop (suc k) (queries_of qs)) (up_to_at (λ j. query_of (query_in qs j)) qs.n k (0, []) h)
    ∙ ap (λ i. query_of (query_in qs k) ∷ drop i (queries_of qs)) (sym (add-one k))

pub queries_none : (qs : Queries) (k : ℕ) → qs.n ≤ k → drop k (queries_of qs) ≡ []
queries_none qs k h = let few : length (queries_of qs) ≤ k = omega (arith, queries_length qs) in drop_of_length-le (queries_of qs) few
