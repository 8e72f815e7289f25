-- Tables stay neat through the whole search: for a call that no check from 6 to 13 refuses, every table of every result of every question is neat, and no smaller than the table asked,
-- so that all its types are still nodes of it. One lemma for each definition of the search; `ask`, the question one level down, is a parameter with a hypothesis.
use Rattle.std.specs.Prelude.{ℕ, zero, suc, ◌<◌, ◌≡◌, Bool, length}
use Rattle.std.proofs.Math.Path.{refl}
use Rattle.std.proofs.Math.Bool.{false}
use mathlib.Core.List.{List, [], ◌∷◌}
use Rattle.std.proofs.Math.Nat.{le_refl, le_trans}
use Rattle.rules.specs.Lists.{Words}
use Rattle.rules.specs.Layout.{header_impls, tree_def}
use Rattle.rules.specs.Sheet.{many}
use Rattle.rules.specs.Types.{Types, UnifyResult, success, failure, indeterminate, ImplType}
use Rattle.rules.specs.Run.{Run}
use Rattle.rules.specs.Search.{Finder, end, tree, Result, find_impl_candidates, before, find_subimpls, try_candidate, before_candidates, question}
use Rattle.rules.specs.Robinson.{AllIn}
use Rattle.rules.specs.CheckedTables.{Ready}
use Rattle.rules.specs.Yields.{Every, every_map, every_weaken, Yields, yields_bind}
use Rattle.rules.specs.Neat.{Neat, QueriesIn, in_more, from_row}
use Rattle.rules.specs.SearchKeeps.{collect_keeps, nodes_keep, Kept, AllKept, candidates_in, Asks, signed, met, needs, n, needs-brought, needs_grown, before_keeps}

-- Sub-questions from left to right.
pub subimpls_keep : (ask : Types → ImplType → Run (List Result)) → Asks ask → (ts : Types) (qs : List ImplType) → Neat ts → QueriesIn (length ts) qs → Yields (AllKept ts) (find_subimpls ask ts qs)
unfolding find_subimpls
subimpls_keep ask keeps ts [] n h = (record { neat = n; grown = le_refl (length ts) }, tt)
subimpls_keep ask keeps ts (q ∷ qs) n h =
    yields_bind (AllKept ts) (AllKept ts) (ask ts q) _ (keeps ts q n h.0) λ rs k.
    collect_keeps (Kept ts) (Kept ts) _
    (λ r m.
    yields_bind (AllKept r.0) (AllKept ts) (find_subimpls ask r.0 qs) _
    (subimpls_keep ask keeps r.0 qs m.neat (every_weaken (λ (p : ImplType). AllIn (length ts) p.1) (λ (p : ImplType). AllIn (length r.0) p.1) (λ p. in_more (length ts) (length r.0) m.grown p.1) qs h.1))
    λ us l. every_map (Kept r.0) (Kept ts) (λ (u : Result). (u.0, before r.1 u.1)) (λ u w. record { neat = w.neat; grown = le_trans m.grown w.grown }) us l)
    rs [] k tt

-- For a call that passed 6 to 13: a question, of a neat table and with types of it.
module _ (a : Finder) (w₀ : Words) (ready : Ready a w₀) (ts : Types) (q : ImplType) (neat : Neat ts) (inside : AllIn (length ts) q.1) where
  -- One candidate.
  module _ (i : ℕ) (h : i < many a.sheet header_impls) where
    -- Its results.
    pub candidate_keeps : (ask : Types → ImplType → Run (List Result)) → Asks ask → Yields (AllKept ts) (try_candidate ask a.sheet ts q i)
    unfolding try_candidate
    candidate_keeps ask keeps = go (met a.sheet ts q i).0 refl
      where
        go : (v : UnifyResult) → (met a.sheet ts q i).0 ≡ v → Yields (AllKept ts) (try_candidate ask a.sheet ts q i)
        go failure e = rw (e, try_candidate) (nodes_keep (AllKept ts) (signed a.sheet ts i).1 _ tt)
        go indeterminate e = rw (e, try_candidate) (nodes_keep (AllKept ts) (signed a.sheet ts i).1 _ tt)
        go success e =
            rw (e, try_candidate)
            (nodes_keep (AllKept ts) (signed a.sheet ts i).1 _
            (nodes_keep (AllKept ts) (needs a.sheet ts q i).1 _
            (yields_bind (AllKept (needs a.sheet ts q i).1) (AllKept ts) (find_subimpls ask (needs a.sheet ts q i).1 (needs a.sheet ts q i).0) _
            (subimpls_keep ask keeps (needs a.sheet ts q i).1 (needs a.sheet ts q i).0 (needs-brought a w₀ ready ts q neat inside i h).neat (from_row (length (needs a.sheet ts q i).1) (needs a.sheet ts q i).0 (needs-brought a w₀ ready ts q neat inside i h).inside))
            (λ rs k. every_map (Kept (needs a.sheet ts q i).1) (Kept ts) (λ (r : Result). (r.0, tree tree_def i r.1 end)) (λ r m. record { neat = m.neat; grown = le_trans (needs_grown a w₀ ready ts q neat inside i h) m.grown }) rs k))))

-- Tables stay neat through the whole search: whatever a question of a neat table, with types of it, comes to, at whatever depth.
pub question_keeps : (a : Finder) (w₀ : Words) → Ready a w₀ → (d : ℕ) (basic : Bool) (ts : Types) (q : ImplType) → Neat ts → AllIn (length ts) q.1 → Yields (AllKept ts) (question d a basic ts q)
unfolding question
question_keeps a w₀ ready zero basic ts q neat inside = tt
question_keeps a w₀ ready (suc d) basic ts q neat inside =
    yields_bind (AllKept ts) (AllKept ts) (before_candidates a basic ts q) _ (before_keeps a w₀ ready ts q neat inside basic) λ fs k.
    yields_bind (Every (λ i. i < many a.sheet header_impls)) (AllKept ts) (find_impl_candidates a ts q basic) _ (candidates_in a ts q basic) λ is h.
    collect_keeps (Kept ts) (λ i. i < many a.sheet header_impls) (try_candidate (λ us r. question d a false us r) a.sheet ts q)
    (λ i l. candidate_keeps a w₀ ready ts q neat inside i l (λ us r. question d a false us r) (question_keeps a w₀ ready d false)) is fs h k
