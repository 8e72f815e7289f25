-- What is known stays: no `unify`, whatever it comes to, changes the state of a known node. So the children of two types can be read from the table while they are met.
use Rattle.std.specs.Prelude.{ℕ, zero, suc, ◌+◌, ◌≤◌, ◌<◌, ◌≡◌, Bool, not, ◌&&◌, ◌||◌, ◌≢◌, ◌⊎◌, length, set}
use Rattle.std.proofs.Math.Path.{refl}
use Rattle.std.proofs.Common.{sym, ◌∙◌, ap, inl, inr, arith}
use Rattle.std.proofs.Math.Bool.{true, false}
use mathlib.Core.List.{List, [], ◌∷◌, map}
use Rattle.std.proofs.Math.Decide.{ℕ_discrete}
use Rattle.std.proofs.Math.Dec.{eqb}
use Rattle.rules.specs.Lists.{Words}
use Rattle.rules.specs.Layout.{kind_closure, kind_error}
use Rattle.rules.specs.Sheet.{kind_flag, row_may_meet}
use Rattle.rules.specs.Types.{Ty, TypeState, unknown, known, TypeNode, Types, new_node, xor, invert_if, invert_state, find, state_at, size_at, relabel, or_else, hang, larger, join, UnifyResult, success, failure, indeterminate, Unified, unify_each, last_of, unify_children, unify_known, join_on_success, occurs_in, bind_unknown, unify_states, unify_roots, unify_in}
use Rattle.rules.specs.Joining.{map-length}
use Rattle.rules.specs.Pigeonholes.{lt_or}
use Rattle.table.specs.Nodes.{node_past}
use Rattle.table.specs.Classes.{set_there, set_beside}
use Rattle.table.specs.Joins.{state_map}

-- What is known in one table is the same in another.
pub record Kept (ts us : Types) : Type 0 where
  pub stays : (n : ℕ) → state_at ts n ≢ unknown → state_at us n ≡ state_at ts n

-- A way to meet two types that keeps what is known.
abbrev pub Keeping : (Types → Ty → Ty → Unified) → Type 0
Keeping f = (ts : Types) (a b : Ty) → Kept ts (f ts a b).1

pub same : (ts : Types) → Kept ts ts
same ts = record { stays = λ n k. refl }

pub after : (ts us vs : Types) → Kept ts us → Kept us vs → Kept ts vs
after ts us vs p q = record { stays = λ n k. q.stays n (λ z. k (sym (p.stays n k) ∙ z)) ∙ p.stays n k }

or_first : (st st' : TypeState) → st ≢ unknown → or_else st st' ≡ st
unfolding or_else
or_first unknown st' k = absurd (k refl)
or_first (known i k d cs) st' z = refl

past : (ts : Types) (n : ℕ) → length ts ≤ n → state_at ts n ≡ unknown
unfolding state_at new_node
past ts n l = ap (λ nd. nd.state) (node_past ts n l)

hang-kept : (ts : Types) (lo hi : Ty) → Kept ts (hang ts lo hi)
unfolding hang state_at
hang-kept ts lo hi = record { stays = λ n k. elim (ℕ_discrete n hi.1) [ yes q ↦ at_top n q k (lt_or n (length ts)) | no q ↦ ap (λ nd. nd.state) (set_beside ms top hi.1 n q) ∙ state_map ts lo.1 (xor hi.0 lo.0, hi.1) n ] }
  where
    ms : Types
    ms = map (relabel lo.1 (xor hi.0 lo.0, hi.1)) ts

    top : TypeNode
    top = record { up = (false, hi.1); state = or_else (state_at ts hi.1) (invert_state (xor hi.0 lo.0) (state_at ts lo.1)); size = size_at ts hi.1 + size_at ts lo.1 }

    at_top : (n : ℕ) → n ≡ hi.1 → state_at ts n ≢ unknown → (n < length ts) ⊎ (length ts ≤ n) → state_at (set ms hi.1 top) n ≡ state_at ts n
    at_top n q k (inl h) = ap (λ nd. nd.state) (set_there ms top hi.1 n (omega (arith, map-length (relabel lo.1 (xor hi.0 lo.0, hi.1)) ts)) q) ∙ or_first (state_at ts hi.1) _ (λ z. k (ap (state_at ts) q ∙ z)) ∙ ap (state_at ts) (sym q)
    at_top n q k (inr l) = absurd (k (past ts n l))

join_kept : (ts : Types) (x y : Ty) → Kept ts (join ts x y)
unfolding join
join_kept ts x y = go (larger ts x y) refl
  where
    go : (b : Bool) → larger ts x y ≡ b → Kept ts (join ts x y)
    go true e = rw (e, join) (hang-kept ts y x)
    go false e = rw (e, join) (hang-kept ts x y)

module _ (f : Types → Ty → Ty → Unified) (keeps : Keeping f) where
  each_kept : (ts : Types) (xs ys : List Ty) → Kept ts (unify_each f ts xs ys).1
  unfolding unify_each
  each_kept ts [] ys = same ts
  each_kept ts (x ∷ xs) [] = same ts
  each_kept ts (x ∷ xs) (y ∷ ys) = after ts (f ts x y).1 _ (keeps ts x y) (each_kept (f ts x y).1 xs ys)

  children-kept : (ts : Types) (k : ℕ) (xs ys : List Ty) → Kept ts (unify_children f ts k xs ys).1
  unfolding unify_children
  children-kept ts k xs ys = go (eqb (length xs) (length ys)) refl (eqb k kind_closure) refl
    where
      go : (b : Bool) → eqb (length xs) (length ys) ≡ b → (c : Bool) → eqb k kind_closure ≡ c → Kept ts (unify_children f ts k xs ys).1
      go true e c q = rw (e, unify_children) (each_kept ts xs ys)
      go false e true q = rw (e, q, unify_children) (each_kept ts (last_of xs) (last_of ys))
      go false e false q = rw (e, q, unify_children) (same ts)

  known_kept : (s : Words) (ts : Types) (inv : Bool) (k d : ℕ) (xs : List Ty) (k' d' : ℕ) (ys : List Ty) → Kept ts (unify_known f s ts inv k d xs k' d' ys).1
  unfolding unify_known
  known_kept s ts inv k d xs k' d' ys = go (eqb k kind_error || eqb k' kind_error) refl (eqb k k' && eqb d d' && (not inv || kind_flag s row_may_meet k d)) refl
    where
      go : (b : Bool) → (eqb k kind_error || eqb k' kind_error) ≡ b → (c : Bool) → (eqb k k' && eqb d d' && (not inv || kind_flag s row_may_meet k d)) ≡ c → Kept ts (unify_known f s ts inv k d xs k' d' ys).1
      go true e c q = rw (e, unify_known) (same ts)
      go false e true q = rw (e, q, unify_known) (children-kept ts k xs (map (invert_if inv) ys))
      go false e false q = rw (e, q, unify_known) (same ts)

  success_kept : (ts : Types) (m : Unified) (x y : Ty) → Kept ts m.1 → Kept ts (join_on_success m x y).1
  unfolding join_on_success
  success_kept ts m x y p = go m.0 refl
    where
      go : (v : UnifyResult) → m.0 ≡ v → Kept ts (join_on_success m x y).1
      go success e = rw (e, join_on_success) (after ts m.1 _ p (join_kept m.1 x y))
      go failure e = rw (e, join_on_success) p
      go indeterminate e = rw (e, join_on_success) p

  bind_kept : (ts : Types) (x y : Ty) → Kept ts (bind_unknown ts x y).1
  unfolding bind_unknown
  bind_kept ts x y = go (occurs_in (suc (length ts)) ts x.1 y || occurs_in (suc (length ts)) ts y.1 x) refl
    where
      go : (b : Bool) → (occurs_in (suc (length ts)) ts x.1 y || occurs_in (suc (length ts)) ts y.1 x) ≡ b → Kept ts (bind_unknown ts x y).1
      go true e = rw (e, bind_unknown) (same ts)
      go false e = rw (e, bind_unknown) (join_kept ts x y)

  states_kept : (s : Words) (ts : Types) (x y : Ty) (u v : TypeState) → Kept ts (unify_states f s ts x y u v).1
  unfolding unify_states
  states_kept s ts x y unknown v = bind_kept ts x y
  states_kept s ts x y (known i k d xs) unknown = bind_kept ts x y
  states_kept s ts x y (known i k d xs) (known j k' d' ys) = success_kept ts (unify_known f s ts (xor (xor i x.0) (xor j y.0)) k d xs k' d' ys) x y (known_kept s ts (xor (xor i x.0) (xor j y.0)) k d xs k' d' ys)

  roots_kept : (s : Words) (ts : Types) (x y : Ty) → Kept ts (unify_roots f s ts x y).1
  unfolding unify_roots
  roots_kept s ts x y = go (eqb x.1 y.1) refl
    where
      go : (b : Bool) → eqb x.1 y.1 ≡ b → Kept ts (unify_roots f s ts x y).1
      go true q = rw (q, unify_roots) (same ts)
      go false q = rw (q, unify_roots) (states_kept s ts x y (state_at ts x.1) (state_at ts y.1))

-- `unify`, to any depth.
pub unify-kept : (n : ℕ) (s : Words) → Keeping (unify_in n s)
unfolding unify_in
unify-kept zero s ts a b = same ts
unify-kept (suc n) s ts a b = roots_kept (λ us t u. unify_in n s us t u) (unify-kept n s) s ts (find ts a) (find ts b)
