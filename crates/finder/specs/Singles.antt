-- Each result of a question is one tree, whatever the sheet and the table are.
use Rattle.std.specs.Prelude.{ℕ, zero, suc, ◌/◌, ◌%◌, ◌≡◌, refl, Bool, true, false, not, ◌&&◌, ◌||◌, List, [], ◌∷◌, ◌++◌, map, eqb, ltb, length, get_or}
use Rattle.std.proofs.Math.Option.{none}
use Rattle.rules.specs.Lists.{Words, optional_list}
use Rattle.rules.specs.Limits.{limit_results, limit_tree_nodes}
use Rattle.rules.specs.Layout.{header_fork, header_drop, header_duplicate, header_erase, header_closures, closure_flex, flex_fork, flex_drop, tree_param, tree_def, tree_fork_closure, tree_drop_closure, kind_fn, kind_closure, kind_default}
use Rattle.rules.specs.Sheet.{at, field}
use Rattle.rules.specs.Types.{TypeState, unknown, known, Types, UnifyResult, success, failure, indeterminate, Unified, ImplType, kind, unify_impl_type, approx_eq}
use Rattle.rules.specs.Transfer.{import_impl_type}
use Rattle.rules.specs.Run.{Run}
use Rattle.rules.specs.Search.{Finder, Trees, end, tree, tree_size, leaf, Result, add_results, collect, impl_params, find_auto_impl, find_auto_impls, from_impl_params, find_impl_candidates, find_subimpls, try_candidate, before_candidates, question}
use Rattle.rules.specs.Yields.{Every, every_append, every_map, Yields, yields_bind, yields_any}
use Rattle.rules.specs.SearchKeeps.{nodes_keep, met, signed, needs}
use Rattle.trees.specs.Forests.{Single}
use Rattle.trees.specs.Changes.{single_leaf, single_tree}

-- Its trees are one tree.
abbrev pub One : Result → Type 0
One r = Single r.1

add_ones : (fs gs : List Result) → Every One fs → Every One gs → Yields (Every One) (add_results fs gs)
unfolding add_results
add_ones fs [] h k = h
add_ones fs (g ∷ gs) h k = go (ltb (length fs) limit_results) refl (ltb limit_tree_nodes (tree_size g.1)) refl (add_ones (fs ++ (g ∷ [])) gs (every_append One fs (g ∷ []) h (k.0, tt)) k.1)
  where
    go : (b : Bool) → ltb (length fs) limit_results ≡ b → (c : Bool) → ltb limit_tree_nodes (tree_size g.1) ≡ c → Yields (Every One) (add_results (fs ++ (g ∷ [])) gs) → Yields (Every One) (add_results fs (g ∷ gs))
    go false e c q ih = rw (e, add_results) tt
    go true e true q ih = rw (e, q, add_results) tt
    go true e false q ih = rw (e, q, add_results) ih

collect_ones : {B : Type 0} (f : B → Run (List Result)) → ((b : B) → Yields (Every One) (f b)) → (bs : List B) (fs : List Result) → Every One fs → Yields (Every One) (collect f bs fs)
unfolding collect
collect_ones f y [] fs h = h
collect_ones f y (b ∷ bs) fs h =
    yields_bind (Every One) (Every One) (f b) _ (y b) λ gs k.
    yields_bind (Every One) (Every One) (add_results fs gs) (λ hs. collect f bs hs) (add_ones fs gs h k) λ hs l. collect_ones f y bs hs l

params_ones : (a : Finder) (ts : Types) (q : ImplType) (n : ℕ) (ps : List ImplType) (fs : List Result) → Every One fs → Yields (Every One) (from_impl_params a ts q n ps fs)
unfolding from_impl_params
params_ones a ts q n [] fs h = h
params_ones a ts q n (p ∷ ps) fs h = go (approx_eq q p) refl m.0 refl (params_ones a ts q (suc n) ps)
  where
    w : ImplType × Types
    w = import_impl_type (impl_params a.sheet a.generics).0 none p ts

    m : Unified
    m = unify_impl_type a.sheet w.1 w.0 q

    go : (c : Bool) → approx_eq q p ≡ c → (v : UnifyResult) → m.0 ≡ v → ((gs : List Result) → Every One gs → Yields (Every One) (from_impl_params a ts q (suc n) ps gs)) → Yields (Every One) (from_impl_params a ts q n (p ∷ ps) fs)
    go false e v e' ih = rw (e, from_impl_params) (ih fs h)
    go true e failure e' ih = rw (e, e', from_impl_params) (nodes_keep (Every One) w.1 _ (ih fs h))
    go true e indeterminate e' ih = rw (e, e', from_impl_params) (nodes_keep (Every One) w.1 _ (ih fs h))
    go true e success e' ih =
        rw (e, e', from_impl_params)
        (nodes_keep (Every One) w.1 _
        (yields_bind (Every One) (Every One) (add_results fs ((m.1, leaf tree_param n) ∷ [])) (λ gs. from_impl_params a ts q (suc n) ps gs) (add_ones fs ((m.1, leaf tree_param n) ∷ []) h (single_leaf tree_param n, tt)) ih))

-- Built-ins are leaves.
def_leaves : (ids : Words) → Every Single (map (leaf tree_def) ids)
def_leaves [] = tt
def_leaves (i ∷ ids) = (single_leaf tree_def i, def_leaves ids)

auto_one : (s : Words) (h b k : ℕ) (st : TypeState) → Every Single (find_auto_impl s h b k st)
unfolding find_auto_impl
auto_one s h b k unknown = tt
auto_one s h b k (known inv kd id cs) = go (eqb kd kind_default || (eqb kd kind_fn && not inv)) refl (eqb kd kind_closure && not inv && eqb ((field s header_closures id closure_flex / b) % 2) 1) refl
  where
    go : (x : Bool) → (eqb kd kind_default || (eqb kd kind_fn && not inv)) ≡ x → (y : Bool) → (eqb kd kind_closure && not inv && eqb ((field s header_closures id closure_flex / b) % 2) 1) ≡ y → Every Single (find_auto_impl s h b k (known inv kd id cs))
    go true e y f = rw (e, find_auto_impl) (def_leaves (optional_list (at s h)))
    go false e true f = rw (e, f, find_auto_impl) (single_leaf k id, tt)
    go false e false f = rw (e, f, find_auto_impl) tt

auto_ones : (s : Words) (ts : Types) (q : ImplType) → Every Single (find_auto_impls s ts q)
unfolding find_auto_impls
auto_ones s ts q = go (eqb q.0 0) refl (eqb q.0 (at s header_fork)) refl (eqb q.0 (at s header_drop)) refl
  where
    st : TypeState
    st = kind ts (get_or q.1 0 (false, 0))

    go : (x : Bool) → eqb q.0 0 ≡ x → (y : Bool) → eqb q.0 (at s header_fork) ≡ y → (z : Bool) → eqb q.0 (at s header_drop) ≡ z → Every Single (find_auto_impls s ts q)
    go true e y f z g = rw (e, find_auto_impls) tt
    go false e true f z g = rw (e, f, find_auto_impls) (auto_one s header_duplicate flex_fork tree_fork_closure st)
    go false e false f true g = rw (e, f, g, find_auto_impls) (auto_one s header_erase flex_drop tree_drop_closure st)
    go false e false f false g = rw (e, f, g, find_auto_impls) tt

before_ones : (a : Finder) (basic : Bool) (ts : Types) (q : ImplType) → Yields (Every One) (before_candidates a basic ts q)
unfolding before_candidates
before_ones a true ts q = tt
before_ones a false ts q =
    let autos : List Result = map (λ (t : Trees). (ts, t)) (find_auto_impls a.sheet ts q) in
    yields_bind (Every One) (Every One) (add_results [] autos) _ (add_ones [] autos tt (every_map Single One (λ (t : Trees). (ts, t)) (λ t h. h) (find_auto_impls a.sheet ts q) (auto_ones a.sheet ts q))) λ fs h.
    params_ones a ts q 0 (impl_params a.sheet a.generics).1 fs h

all_under : (i : ℕ) (rs : List Result) → Every One (map (λ (r : Result). (r.0, tree tree_def i r.1 end)) rs)
all_under i [] = tt
all_under i (r ∷ rs) = (single_tree tree_def i r.1, all_under i rs)

candidate_ones : (ask : Types → ImplType → Run (List Result)) (s : Words) (ts : Types) (q : ImplType) (i : ℕ) → Yields (Every One) (try_candidate ask s ts q i)
unfolding try_candidate
candidate_ones ask s ts q i = go (met s ts q i).0 refl
  where
    go : (v : UnifyResult) → (met s ts q i).0 ≡ v → Yields (Every One) (try_candidate ask s ts q i)
    go failure e = rw (e, try_candidate) (nodes_keep (Every One) (signed s ts i).1 _ tt)
    go indeterminate e = rw (e, try_candidate) (nodes_keep (Every One) (signed s ts i).1 _ tt)
    go success e =
        rw (e, try_candidate)
        (nodes_keep (Every One) (signed s ts i).1 _
        (nodes_keep (Every One) (needs s ts q i).1 _
        (yields_bind (λ (rs : List Result). Unit {0}) (Every One) (find_subimpls ask (needs s ts q i).1 (needs s ts q i).0) _ (yields_any (find_subimpls ask (needs s ts q i).1 (needs s ts q i).0)) (λ rs u. all_under i rs))))

-- Whatever a question comes to.
pub question_ones : (d : ℕ) (a : Finder) (basic : Bool) (ts : Types) (q : ImplType) → Yields (Every One) (question d a basic ts q)
unfolding question
question_ones zero a basic ts q = tt
question_ones (suc d) a basic ts q =
    yields_bind (Every One) (Every One) (before_candidates a basic ts q) _ (before_ones a basic ts q) λ fs h.
    yields_bind (λ (is : List ℕ). Unit {0}) (Every One) (find_impl_candidates a ts q basic) _ (yields_any (find_impl_candidates a ts q basic)) λ is u.
    collect_ones (try_candidate (λ us r. question d a false us r) a.sheet ts q) (candidate_ones (λ us r. question d a false us r) a.sheet ts q) is fs h
