-- What is found has room in a word of trees: a kind below 8, and an id below 4,096 where the ids of duplicate, erase and of a closure are.
use Rattle.std.specs.Prelude.{ℕ, zero, suc, ◌/◌, ◌%◌, ◌≤◌, ◌<◌, ◌≡◌, refl, Bool, true, false, not, ◌&&◌, ◌||◌, List, [], ◌∷◌, map, T, eqb, get_or, Some}
use Rattle.std.proofs.Common.{sym, subst, true≢false, arith, eqb→eq}
use Rattle.rules.specs.Lists.{Words, optional_list}
use Rattle.rules.specs.Layout.{header_fork, header_drop, header_duplicate, header_erase, header_closures, closure_flex, flex_fork, flex_drop, tree_def, tree_fork_closure, tree_drop_closure, kind_fn, kind_closure, kind_default}
use Rattle.rules.specs.Sheet.{at, field}
use Rattle.rules.specs.Types.{TypeState, unknown, known, Types, ImplType, kind}
use Rattle.rules.specs.Search.{Trees, end, tree, leaf, find_auto_impl, find_auto_impls}
use Rattle.rules.specs.Slim.{SlimState, Slim, slim_kind}
use Rattle.auto.specs.declared.Leaf.{Leaf}
use Rattle.auto.specs.Built.{leaves}

-- Trees whose first nodes fit.
Fitting : List Trees → Type 0
Fitting [] = Unit {0}
Fitting (end ∷ ts) = Fitting ts
Fitting (tree k i c n ∷ ts) = (k < 8) × (i < 4096) × Fitting ts

set_fits : (w : ℕ) → w ≤ 4096 → Fitting (map (leaf tree_def) (optional_list w))
unfolding Fitting optional_list
set_fits zero h = tt
set_fits (suc w) h = (omega arith, omega arith, tt)

one_fits : (s : Words) (h b k : ℕ) (st : TypeState) → k < 8 → at s h ≤ 4096 → SlimState st → Fitting (find_auto_impl s h b k st)
unfolding Fitting find_auto_impl
one_fits s h b k unknown hk hw hi = tt
one_fits s h b k (known inv kd id cs) hk hw hi = go (eqb kd kind_default || (eqb kd kind_fn && not inv)) (eqb kd kind_closure && not inv && eqb ((field s header_closures id closure_flex / b) % 2) 1) refl
  where
    closure : (b c : Bool) → eqb kd kind_closure ≡ b → (b && not inv && c) ≡ true → kd ≡ kind_closure
    closure true c e f = eqb→eq kd kind_closure (subst T (sym e) tt)
    closure false c e f = absurd (true≢false (sym f))

    go : (x y : Bool) → (eqb kd kind_closure && not inv && eqb ((field s header_closures id closure_flex / b) % 2) 1) ≡ y → Fitting (elim x as (λ a. List Trees) [ true ↦ map (leaf tree_def) (optional_list (at s h)) | false ↦ elim y as (λ a. List Trees) [ true ↦ leaf k id ∷ [] | false ↦ [] ] ])
    go true y e = set_fits (at s h) hw
    go false true e = (hk, hi.closure (closure (eqb kd kind_closure) (eqb ((field s header_closures id closure_flex / b) % 2) 1) refl e), tt)
    go false false e = tt

all_fit : (s : Words) (ts : Types) (q : ImplType) → at s header_duplicate ≤ 4096 → at s header_erase ≤ 4096 → Slim ts → Fitting (find_auto_impls s ts q)
unfolding Fitting find_auto_impls
all_fit s ts q hd he hi =
    let st = kind ts (get_or q.1 0 (false, 0)) in
    go (eqb q.0 0) (eqb q.0 (at s header_fork)) (eqb q.0 (at s header_drop))
    (find_auto_impl s header_duplicate flex_fork tree_fork_closure st) (find_auto_impl s header_erase flex_drop tree_drop_closure st)
    (one_fits s header_duplicate flex_fork tree_fork_closure st (omega arith) hd (slim_kind ts _ hi)) (one_fits s header_erase flex_drop tree_drop_closure st (omega arith) he (slim_kind ts _ hi))
  where
    go : (x y z : Bool) (us vs : List Trees) → Fitting us → Fitting vs → Fitting (elim x as (λ a. List Trees) [ true ↦ [] | false ↦ elim y as (λ a. List Trees) [ true ↦ us | false ↦ elim z as (λ a. List Trees) [ true ↦ vs | false ↦ [] ] ] ])
    go true y z us vs f g = tt
    go false true z us vs f g = f
    go false false true us vs f g = g
    go false false false us vs f g = tt

pub leaf_fits : (s : Words) (ts : Types) (q : ImplType) (l : Leaf) → leaves (Some l) ≡ find_auto_impls s ts q → at s header_duplicate ≤ 4096 → at s header_erase ≤ 4096 → Slim ts → (l.kind < 8) × (l.id < 4096)
unfolding leaves Fitting
leaf_fits s ts q l e hd he hi = let f = subst Fitting (sym e) (all_fit s ts q hd he hi) in (f.0, f.1)
