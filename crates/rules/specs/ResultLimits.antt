-- What 16 and 17 leave of any question, on any sheet: at most 4 results, and trees of at most 256 nodes.
use Rattle.std.specs.Prelude.{ℕ, suc, ◌≤◌, ◌≡◌, refl, Bool, true, false, not, List, [], ◌∷◌, ◌++◌, map, T, ltb, length}
use Rattle.std.proofs.Common.{sym, subst, arith, ltb→lt, nltb→le, length-append}
use Rattle.std.proofs.Math.Option.{none}
use Rattle.rules.specs.Limits.{limit_results, limit_tree_nodes}
use Rattle.rules.specs.Layout.{tree_param}
use Rattle.rules.specs.Types.{Types, UnifyResult, success, failure, indeterminate, Unified, ImplType, unify_impl_type, approx_eq}
use Rattle.rules.specs.Transfer.{import_impl_type}
use Rattle.rules.specs.Run.{Run}
use Rattle.rules.specs.Search.{Finder, Trees, tree_size, leaf, Result, add_results, collect, impl_params, find_auto_impls, from_impl_params, before_candidates}
use Rattle.rules.specs.Yields.{Every, every_append, Yields, yields_bind, yields_any}
use Rattle.rules.specs.SearchKeeps.{nodes_keep}

-- Its trees have at most 256 nodes.
abbrev pub Small : Result → Type 0
Small r = tree_size r.1 ≤ limit_tree_nodes

-- Results that 16 and 17 let through.
pub record Few (fs : List Result) : Type 0 where
  pub count : length fs ≤ limit_results
  pub small : Every Small fs

-- None at all are.
pub few_none : Few []
few_none = record { count = omega arith; small = tt }

add_few : (fs gs : List Result) → Few fs → Yields Few (add_results fs gs)
unfolding add_results
add_few fs [] h = h
add_few fs (g ∷ gs) h = go (ltb (length fs) limit_results) refl (ltb limit_tree_nodes (tree_size g.1)) refl (add_few (fs ++ (g ∷ [])) gs)
  where
    go : (b : Bool) → ltb (length fs) limit_results ≡ b → (c : Bool) → ltb limit_tree_nodes (tree_size g.1) ≡ c → (Few (fs ++ (g ∷ [])) → Yields Few (add_results (fs ++ (g ∷ [])) gs)) → Yields Few (add_results fs (g ∷ gs))
    go false e c q ih = rw (e, add_results) tt
    go true e true q ih = rw (e, q, add_results) tt
    go true e false q ih =
        rw (e, q, add_results)
        (ih (record {
          count = omega (arith, length-append fs (g ∷ []), ltb→lt (length fs) limit_results (subst T (sym e) tt));
          small = every_append Small fs (g ∷ []) h.small (nltb→le limit_tree_nodes (tree_size g.1) (subst (λ b. T (not b)) (sym q) tt), tt);
        }))

pub collect_few : {B : Type 0} (f : B → Run (List Result)) (bs : List B) (fs : List Result) → Few fs → Yields Few (collect f bs fs)
unfolding collect
collect_few f [] fs h = h
collect_few f (b ∷ bs) fs h =
    yields_bind (λ (gs : List Result). Unit {0}) Few (f b) _ (yields_any (f b)) λ gs u.
    yields_bind Few Few (add_results fs gs) (λ hs. collect f bs hs) (add_few fs gs h) λ hs k. collect_few f bs hs k

params_few : (a : Finder) (ts : Types) (q : ImplType) (n : ℕ) (ps : List ImplType) (fs : List Result) → Few fs → Yields Few (from_impl_params a ts q n ps fs)
unfolding from_impl_params
params_few a ts q n [] fs h = h
params_few a ts q n (p ∷ ps) fs h = go (approx_eq q p) refl m.0 refl (params_few a ts q (suc n) ps)
  where
    w : ImplType × Types
    w = import_impl_type (impl_params a.sheet a.generics).0 none p ts

    m : Unified
    m = unify_impl_type a.sheet w.1 w.0 q

    go : (c : Bool) → approx_eq q p ≡ c → (v : UnifyResult) → m.0 ≡ v → ((gs : List Result) → Few gs → Yields Few (from_impl_params a ts q (suc n) ps gs)) → Yields Few (from_impl_params a ts q n (p ∷ ps) fs)
    go false e v e' ih = rw (e, from_impl_params) (ih fs h)
    go true e failure e' ih = rw (e, e', from_impl_params) (nodes_keep Few w.1 _ (ih fs h))
    go true e indeterminate e' ih = rw (e, e', from_impl_params) (nodes_keep Few w.1 _ (ih fs h))
    go true e success e' ih =
        rw (e, e', from_impl_params)
        (nodes_keep Few w.1 _
        (yields_bind Few Few (add_results fs ((m.1, leaf tree_param n) ∷ [])) (λ gs. from_impl_params a ts q (suc n) ps gs) (add_few fs ((m.1, leaf tree_param n) ∷ []) h) ih))

pub before_few : (a : Finder) (basic : Bool) (ts : Types) (q : ImplType) → Yields Few (before_candidates a basic ts q)
unfolding before_candidates
before_few a true ts q = few_none
before_few a false ts q =
    let autos : List Result = map (λ (t : Trees). (ts, t)) (find_auto_impls a.sheet ts q) in
    yields_bind Few Few (add_results [] autos) _ (add_few [] autos few_none) λ fs h.
    params_few a ts q 0 (impl_params a.sheet a.generics).1 fs h
