-- A search stops with 14 to 19 and nothing else: each function of "One question" in turn.
use Rattle.std.specs.Prelude.{ℕ, zero, suc, Bool, false}
use mathlib.Core.List.{List, [], ◌∷◌, map}
use Rattle.std.proofs.Math.Option.{Option, some}
use Rattle.std.proofs.Common.{arith}
use Rattle.rules.specs.Lists.{Words}
use Rattle.rules.specs.Layout.{tree_def}
use Rattle.rules.specs.Sheet.{type_params, impl_generics}
use Rattle.rules.specs.Types.{Ty, Types, UnifyResult, success, failure, indeterminate, ImplType, unify_impl_type}
use Rattle.rules.specs.Transfer.{import_impl_type, import_impl_types}
use Rattle.rules.specs.Run.{Run, done, ◌>>=◌}
use Rattle.rules.specs.Search.{end, tree, Result, Finder, check_nodes, impl_signature, impl_params, find_impl_candidates, find_subimpls, fresh_params, with_fresh, try_candidate, before_candidates, question}
use Rattle.rules.specs.Stops.{Searches, then, nodes_stop, collect_stops, candidates_stop, before_stops}

module _ (ask : Types → ImplType → Run (List Result)) (h : (ts : Types) (q : ImplType) → Searches (ask ts q)) where
  subimpls_stop : (ts : Types) (qs : List ImplType) → Searches (find_subimpls ask ts qs)
  unfolding find_subimpls
  subimpls_stop ts [] = tt
  subimpls_stop ts (q ∷ qs) = then (ask ts q) _ (h ts q) (λ rs. collect_stops _ (λ r. then (find_subimpls ask r.0 qs) _ (subimpls_stop r.0 qs) (λ us. tt)) rs [])

  candidate_stops : (s : Words) (ts : Types) (q : ImplType) (i : ℕ) → Searches (try_candidate ask s ts q i)
  unfolding try_candidate
  candidate_stops s ts q i =
      let g = impl_generics s i in
      let n = type_params s g in
      let ps : Option (List Ty) = some (fresh_params ts n) in
      let w = import_impl_type (impl_signature s i).0 ps (impl_signature s i).1 (with_fresh ts n) in
      let m = unify_impl_type s w.1 w.0 q in
      let d = import_impl_types (impl_params s g).0 ps (impl_params s g).1 m.1 in
      nodes_stop w.1 _ (go m.0 d.1 d.0)
    where
      go : (v : UnifyResult) (us : Types) (qs : List ImplType) → Searches {A = List Result} (elim v as (λ x. Run (List Result)) [
        | success ↦ check_nodes us (find_subimpls ask us qs >>= λ rs. done (map (λ r. (r.0, tree tree_def i r.1 end)) rs))
        | failure ↦ done []
        | indeterminate ↦ done []
      ])
      go success us qs = nodes_stop us _ (then (find_subimpls ask us qs) _ (subimpls_stop us qs) (λ rs. tt))
      go failure us qs = tt
      go indeterminate us qs = tt

-- A question, with all that it asks, stops with 14 to 19 only (15 where no level is left).
pub question_stops : (d : ℕ) (a : Finder) (basic : Bool) (ts : Types) (q : ImplType) → Searches (question d a basic ts q)
unfolding question
question_stops zero a basic ts q = omega arith
question_stops (suc d) a basic ts q =
    then (before_candidates a basic ts q) _ (before_stops a basic ts q) (λ fs.
    then (find_impl_candidates a ts q basic) _ (candidates_stop a ts q basic) (λ is.
    collect_stops _ (candidate_stops (λ us r. question d a false us r) (question_stops d a false) a.sheet ts q) is fs))
