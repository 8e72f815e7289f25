-- Sub-questions are asked of neat tables only, with types that are nodes of them: a question comes to the same by any two ways to ask that agree on those.
use Rattle.std.specs.Prelude.{ℕ, suc, ◌<◌, ◌≡◌, Bool, false, length}
use Rattle.std.proofs.Math.Path.{refl, ap}
use Rattle.std.proofs.Common.{◌∙◌}
use mathlib.Core.List.{List, [], ◌∷◌, map}
use Rattle.rules.specs.Lists.{Words}
use Rattle.rules.specs.Layout.{header_impls, tree_def}
use Rattle.rules.specs.Sheet.{many}
use Rattle.rules.specs.Types.{Types, UnifyResult, success, failure, indeterminate, ImplType}
use Rattle.rules.specs.Run.{Run, done, asks, ◌>>=◌}
use Rattle.rules.specs.Search.{Finder, end, tree, Result, collect, check_nodes, find_impl_candidates, before, find_subimpls, try_candidate, before_candidates, question}
use Rattle.rules.specs.Robinson.{AllIn}
use Rattle.rules.specs.CheckedTables.{Ready}
use Rattle.rules.specs.Yields.{Every, every_weaken, yields_any, bind_same}
use Rattle.rules.specs.Neat.{Neat, QueriesIn, in_more, from_row}
use Rattle.rules.specs.SearchKeeps.{Kept, AllKept, Asks, candidates_in, signed, met, needs, needs-brought}
use Rattle.rules.proofs.SearchKeeps.{question_keeps}
use Rattle.rules.specs.SubQuestions.{question_by, collect-same}

-- That is what a question is.
pub question_is : (d : ℕ) (a : Finder) (basic : Bool) (ts : Types) (q : ImplType) → question (suc d) a basic ts q ≡ asks (question_by (λ us r. question d a false us r) a basic ts q)
unfolding question question_by
question_is d a basic ts q = refl

module _ (ask ask' : Types → ImplType → Run (List Result)) (keeps : Asks ask) (agree : (us : Types) (r : ImplType) → Neat us → AllIn (length us) r.1 → ask us r ≡ ask' us r) where
  subimpls_same : (ts : Types) (qs : List ImplType) → Neat ts → QueriesIn (length ts) qs → find_subimpls ask ts qs ≡ find_subimpls ask' ts qs
  unfolding find_subimpls
  subimpls_same ts [] n h = refl
  subimpls_same ts (q ∷ qs) n h =
      bind_same (AllKept ts) (ask ts q) _ _ (keeps ts q n h.0)
      (λ rs k. collect-same (Kept ts) _ _
      (λ r m. ap (λ (x : Run (List Result)). x >>= λ us. done (map (λ (u : Result). (u.0, before r.1 u.1)) us))
      (subimpls_same r.0 qs m.neat (every_weaken (λ (p : ImplType). AllIn (length ts) p.1) (λ (p : ImplType). AllIn (length r.0) p.1) (λ p. in_more (length ts) (length r.0) m.grown p.1) qs h.1)))
      rs k [])
      ∙ ap (λ (x : Run (List Result)). x >>= λ rs. collect (λ r. find_subimpls ask' r.0 qs >>= λ us. done (map (λ (u : Result). (u.0, before r.1 u.1)) us)) rs []) (agree ts q n h.0)

  module _ (a : Finder) (w₀ : Words) (ready : Ready a w₀) (ts : Types) (q : ImplType) (neat : Neat ts) (inside : AllIn (length ts) q.1) where
    candidate_same : (i : ℕ) → i < many a.sheet header_impls → try_candidate ask a.sheet ts q i ≡ try_candidate ask' a.sheet ts q i
    unfolding try_candidate
    candidate_same i h = go (met a.sheet ts q i).0 refl
      where
        needed : List ImplType × Types
        needed = needs a.sheet ts q i

        go : (v : UnifyResult) → (met a.sheet ts q i).0 ≡ v → try_candidate ask a.sheet ts q i ≡ try_candidate ask' a.sheet ts q i
        go failure e = rw (e, try_candidate)
        go indeterminate e = rw (e, try_candidate)
        go success e =
            let b = needs-brought a w₀ ready ts q neat inside i h in
            rw (e, try_candidate)
            (ap (λ (x : Run (List Result)). check_nodes (signed a.sheet ts i).1 (check_nodes needed.1 (x >>= λ rs. done (map (λ (r : Result). (r.0, tree tree_def i r.1 end)) rs))))
            (subimpls_same needed.1 needed.0 b.neat (from_row (length needed.1) needed.0 b.inside)))

    asked-same : (basic : Bool) → question_by ask a basic ts q ≡ question_by ask' a basic ts q
    unfolding question_by
    asked-same basic =
        bind_same (λ (fs : List Result). Unit {0}) (before_candidates a basic ts q) _ _ (yields_any (before_candidates a basic ts q)) λ fs u.
        bind_same (Every (λ i. i < many a.sheet header_impls)) (find_impl_candidates a ts q basic) _ _ (candidates_in a ts q basic) λ is h.
        collect-same (λ i. i < many a.sheet header_impls) (try_candidate ask a.sheet ts q) (try_candidate ask' a.sheet ts q) candidate_same is h fs

-- A question, of a neat table and with types of it: whatever another way to ask says of other tables and types, by it the question comes to the same.
pub sub_questions_neat : (a : Finder) (w₀ : Words) → Ready a w₀ → (d : ℕ) (basic : Bool) (ts : Types) (q : ImplType) → Neat ts → AllIn (length ts) q.1 →
    (ask : Types → ImplType → Run (List Result)) → ((us : Types) (r : ImplType) → Neat us → AllIn (length us) r.1 → question d a false us r ≡ ask us r) → question (suc d) a basic ts q ≡ asks (question_by ask a basic ts q)
sub_questions_neat a w₀ ready d basic ts q neat inside ask agree =
    question_is d a basic ts q ∙ ap asks (asked-same (λ us r. question d a false us r) ask (question_keeps a w₀ ready d false) agree a w₀ ready ts q neat inside basic)
