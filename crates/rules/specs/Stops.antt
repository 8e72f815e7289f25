-- A search stops with 14 to 19 and nothing else: each function of "One question" in turn.
use Rattle.std.specs.Prelude.{ℕ, zero, suc, ◌≡◌, refl, Bool, true, false, eqb, ltb, length}
use mathlib.Core.List.{List, [], ◌∷◌, ◌++◌, map}
use Rattle.std.proofs.Math.Option.{Option, none, some}
use Rattle.std.proofs.Common.{arith}
use Rattle.rules.specs.Lists.{Words, optional}
use Rattle.rules.specs.Limits.{limit_nodes, limit_results, limit_tree_nodes}
use Rattle.rules.specs.Layout.{tree_param, kind_error, kind_ref}
use Rattle.rules.specs.Types.{Ty, TypeState, unknown, known, Types, UnifyResult, success, failure, indeterminate, Unified, ImplType, kind, unify_impl_type, approx_eq}
use Rattle.rules.specs.Transfer.{import_impl_type}
use Rattle.rules.specs.Run.{Run, done, ◌>>=◌}
use Rattle.rules.specs.RunLaws.{Between, Stops, bind_stops}
use Rattle.rules.specs.Search.{leaf, tree_size, Result, Finder, add_results, collect, check_nodes, impl_params, find_auto_impls, from_impl_params, get_mod_in, get_mod, inherent_mods, find_impl_candidates, before_candidates}

-- The numbers of a search.
abbrev pub In_search : ℕ → Type 0
In_search = Between 14 19

-- Every stop of the run is one of those.
abbrev pub Searches : {A : Type 0} → Run A → Type 0
Searches r = Stops In_search r

pub then : {A B : Type 0} (r : Run A) (f : A → Run B) → Searches r → ((a : A) → Searches (f a)) → Searches (r >>= f)
then r f l h = bind_stops In_search r f l h

-- 14
pub nodes_stop : {A : Type 0} (ts : Types) (r : Run A) → Searches r → Searches (check_nodes ts r)
unfolding check_nodes
nodes_stop ts r h = go (ltb limit_nodes (length ts)) refl
  where
    go : (b : Bool) → ltb limit_nodes (length ts) ≡ b → Searches (check_nodes ts r)
    go true e = rw (e, check_nodes) (omega arith)
    go false e = rw (e, check_nodes) h

-- 16, 17
add_stops : (gs fs : List Result) → Searches (add_results fs gs)
unfolding add_results
add_stops [] fs = tt
add_stops (g ∷ gs) fs = go (ltb (length fs) limit_results) refl (ltb limit_tree_nodes (tree_size g.1)) refl (add_stops gs (fs ++ (g ∷ [])))
  where
    go : (b : Bool) → ltb (length fs) limit_results ≡ b → (c : Bool) → ltb limit_tree_nodes (tree_size g.1) ≡ c → Searches (add_results (fs ++ (g ∷ [])) gs) → Searches (add_results fs (g ∷ gs))
    go false e c f h = rw (e, add_results) (omega arith)
    go true e true f h = rw (e, f, add_results) (omega arith)
    go true e false f h = rw (e, f, add_results) h

pub collect_stops : {B : Type 0} (f : B → Run (List Result)) → ((b : B) → Searches (f b)) → (bs : List B) (fs : List Result) → Searches (collect f bs fs)
unfolding collect
collect_stops f h [] fs = tt
collect_stops f h (b ∷ bs) fs = then (f b) (λ gs. add_results fs gs >>= λ hs. collect f bs hs) (h b) (λ gs. then (add_results fs gs) (λ hs. collect f bs hs) (add_stops gs fs) (λ hs. collect_stops f h bs hs))

params_stop : (a : Finder) (ts : Types) (q : ImplType) (n : ℕ) (ps : List ImplType) (fs : List Result) → Searches (from_impl_params a ts q n ps fs)
unfolding from_impl_params
params_stop a ts q n [] fs = tt
params_stop a ts q n (p ∷ ps) fs = go (approx_eq q p) refl (params_stop a ts q (suc n) ps)
  where
    w : ImplType × Types
    w = import_impl_type (impl_params a.sheet a.generics).0 none p ts

    m : Unified
    m = unify_impl_type a.sheet w.1 w.0 q

    met : (v : UnifyResult) → ((gs : List Result) → Searches (from_impl_params a ts q (suc n) ps gs)) → Searches {A = List Result} (elim v as (λ x. Run (List Result)) [
      | success ↦ (add_results fs ((m.1, leaf tree_param n) ∷ []) >>= λ gs. from_impl_params a ts q (suc n) ps gs)
      | failure ↦ from_impl_params a ts q (suc n) ps fs
      | indeterminate ↦ from_impl_params a ts q (suc n) ps fs
    ])
    met success ih = then (add_results fs ((m.1, leaf tree_param n) ∷ [])) (λ gs. from_impl_params a ts q (suc n) ps gs) (add_stops ((m.1, leaf tree_param n) ∷ []) fs) ih
    met failure ih = ih fs
    met indeterminate ih = ih fs

    go : (b : Bool) → approx_eq q p ≡ b → ((gs : List Result) → Searches (from_impl_params a ts q (suc n) ps gs)) → Searches (from_impl_params a ts q n (p ∷ ps) fs)
    go false e ih = rw (e, from_impl_params) (ih fs)
    go true e ih = rw (e, from_impl_params) (nodes_stop w.1 _ (met m.0 ih))

-- 19
mod_stops : (k : ℕ) (s : Words) (ts : Types) (t : Ty) → Searches (get_mod_in k s ts t)
unfolding get_mod_in
mod_stops zero s ts t = tt
mod_stops (suc k) s ts t = go (kind ts t) refl (mod_stops k s ts)
  where
    of_kind : (inv : Bool) (kd id : ℕ) (cs : List Ty) → kind ts t ≡ known inv kd id cs → (b : Bool) → eqb kd kind_error ≡ b → (c : Bool) → eqb kd kind_ref ≡ c → ((u : Ty) → Searches (get_mod_in k s ts u)) → Searches (get_mod_in (suc k) s ts t)
    of_kind inv kd id cs e true p c r ih = rw (e, p, get_mod_in) (omega arith)
    of_kind inv kd id cs e false p true r ih = rw (e, p, r, get_mod_in) (ih _)
    of_kind inv kd id cs e false p false r ih = rw (e, p, r, get_mod_in) tt

    go : (st : TypeState) → kind ts t ≡ st → ((u : Ty) → Searches (get_mod_in k s ts u)) → Searches (get_mod_in (suc k) s ts t)
    go unknown e ih = rw (e, get_mod_in) tt
    go (known inv kd id cs) e ih = of_kind inv kd id cs e (eqb kd kind_error) refl (eqb kd kind_ref) refl ih

-- 18 of an unknown inherent argument
mods_stop : (s : Words) (ts : Types) (us : List Ty) → Searches (inherent_mods s ts us)
unfolding inherent_mods get_mod
mods_stop s ts [] = tt
mods_stop s ts (t ∷ us) = go (kind ts t) refl (mods_stop s ts us)
  where
    go : (st : TypeState) → kind ts t ≡ st → Searches (inherent_mods s ts us) → Searches (inherent_mods s ts (t ∷ us))
    go unknown e ih = rw (e, inherent_mods) (omega arith)
    go (known inv kd id cs) e ih = rw (e, inherent_mods) (then (get_mod s ts t) (λ ns. inherent_mods s ts us >>= λ ms. done (ns ++ ms)) (mod_stops (suc (length ts)) s ts t) (λ ns. then (inherent_mods s ts us) (λ ms. done (ns ++ ms)) ih (λ ms. tt)))

pub candidates_stop : (a : Finder) (ts : Types) (q : ImplType) (basic : Bool) → Searches (find_impl_candidates a ts q basic)
unfolding find_impl_candidates
candidates_stop a ts q basic = go (optional q.0) refl
  where
    go : (o : Option ℕ) → optional q.0 ≡ o → Searches (find_impl_candidates a ts q basic)
    go none e = rw (e, find_impl_candidates) tt
    go (some t) e = rw (e, find_impl_candidates) (then (inherent_mods a.sheet ts _) _ (mods_stop a.sheet ts _) (λ ns. tt))

pub before_stops : (a : Finder) (basic : Bool) (ts : Types) (q : ImplType) → Searches (before_candidates a basic ts q)
unfolding before_candidates
before_stops a true ts q = tt
before_stops a false ts q = then (add_results [] (map (λ t. (ts, t)) (find_auto_impls a.sheet ts q))) _ (add_stops _ []) (λ fs. params_stop a ts q 0 (impl_params a.sheet a.generics).1 fs)
