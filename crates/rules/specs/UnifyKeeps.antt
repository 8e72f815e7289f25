-- Whatever `unify` comes to, the table that it leaves is well formed and acyclic, and its solutions solve the table before. (Joining goes on after a failure.)
use Rattle.std.specs.Prelude.{ℕ, zero, suc, ◌<◌, ◌≡◌, Bool, not, ◌&&◌, ◌||◌, ◌≢◌, ◌⊎◌, length}
use Rattle.std.proofs.Math.Path.{refl, subst}
use Rattle.std.proofs.Common.{sym, ◌∙◌, ap, inl, inr, ⊎_elim}
use Rattle.std.proofs.Math.Bool.{true, false}
use mathlib.Core.List.{List, [], ◌∷◌, map}
use Rattle.std.proofs.Math.Decide.{ℕ_discrete}
use Rattle.std.proofs.Math.Dec.{eqb}
use Rattle.rules.specs.Lists.{Words}
use Rattle.rules.specs.Layout.{kind_closure, kind_error}
use Rattle.rules.specs.Sheet.{kind_flag, row_may_meet}
use Rattle.rules.specs.Types.{Ty, TypeState, unknown, known, Types, xor, invert_if, find, state_at, occurs_in, UnifyResult, success, failure, indeterminate, Unified, unify_each, unify_types, last_of, unify_children, unify_known, join_on_success, bind_unknown, unify_states, unify_roots, unify_in, unify, ImplType, unify_impl_type}
use Rattle.rules.specs.Solutions.{Sol, rep, Solves, AllIn, ChildrenIn, WellFormed, Readable, eqb_true, eqb_false}
use Rattle.rules.specs.MostGeneral.{Won, Right, flip_in, states_right, unify_in_right}
use Rattle.rules.specs.RootRank.{rank}
use Rattle.rules.specs.Readings.{Acyclic, readable_ranked, ranked_readable}

-- A table that stays as long, well formed and readable.
pub record Keeps (ts us : Types) : Type 0 where
  pub len : length us ≡ length ts
  pub formed : WellFormed us
  pub kept : Readable us

-- The same, and what solves the table that is left solved the table before.
pub record Narrows (ts us : Types) : Type 0 where
  pub keeps : Keeps ts us
  pub out : (θ : Sol) → Solves us θ → Solves ts θ

-- A way to meet two types that narrows tables, whatever it comes to.
abbrev pub NarrowsTables : (Types → Ty → Ty → Unified) → Type 0
NarrowsTables f = (ts : Types) (a b : Ty) → WellFormed ts → a.1 < length ts → b.1 < length ts → Readable ts → Narrows ts (f ts a b).1

still : (ts : Types) → WellFormed ts → Readable ts → Narrows ts ts
still ts formed k = record { keeps = record { len = refl; formed = formed; kept = k }; out = λ θ sv. sv }

after : (ts us vs : Types) → Narrows ts us → Narrows us vs → Narrows ts vs
after ts us vs p q = record { keeps = record { len = q.keeps.len ∙ p.keeps.len; formed = q.keeps.formed; kept = q.keeps.kept }; out = λ θ sv. p.out θ (q.out θ sv) }

-- Success, or not.
won? : (v : UnifyResult) → Won v ⊎ (Won v → ⊥)
won? success = inl tt
won? failure = inr (λ h. h)
won? indeterminate = inr (λ h. h)

-- The last of some types is one of them.
pub last_in : (N : ℕ) (xs : List Ty) → AllIn N xs → AllIn N (last_of xs)
unfolding last_of
last_in N [] a = tt
last_in N (x ∷ []) a = a
last_in N (x ∷ (y ∷ ys)) a = last_in N (y ∷ ys) a.1

-- Where there is no success, nothing is joined.
bind_lost : (ts : Types) (x y : Ty) → (Won (bind_unknown ts x y).0 → ⊥) → (bind_unknown ts x y).1 ≡ ts
unfolding bind_unknown
bind_lost ts x y h = go (occurs_in (suc (length ts)) ts x.1 y || occurs_in (suc (length ts)) ts y.1 x) refl h
  where
    go : (b : Bool) → (occurs_in (suc (length ts)) ts x.1 y || occurs_in (suc (length ts)) ts y.1 x) ≡ b → (Won (bind_unknown ts x y).0 → ⊥) → (bind_unknown ts x y).1 ≡ ts
    go true e k = rw (e, bind_unknown)
    go false e k = absurd ((rw (e, bind_unknown) at k) tt)

join_lost : (m : Unified) (x y : Ty) → (Won (join_on_success m x y).0 → ⊥) → (join_on_success m x y).1 ≡ m.1
unfolding join_on_success
join_lost m x y h = go m.0 refl h
  where
    go : (v : UnifyResult) → m.0 ≡ v → (Won (join_on_success m x y).0 → ⊥) → (join_on_success m x y).1 ≡ m.1
    go success e k = absurd ((rw (e, join_on_success) at k) tt)
    go failure e k = rw (e, join_on_success)
    go indeterminate e k = rw (e, join_on_success)

module _ (f : Types → Ty → Ty → Unified) (safe : NarrowsTables f) where
  -- Layer by layer, whatever the verdict.
  pub all_safe : (ts : Types) (xs ys : List Ty) → WellFormed ts → AllIn (length ts) xs → AllIn (length ts) ys → Readable ts → Narrows ts (unify_each f ts xs ys).1
  unfolding unify_each
  all_safe ts [] ys formed ax ay k = still ts formed k
  all_safe ts (x ∷ xs) [] formed ax ay k = still ts formed k
  all_safe ts (x ∷ xs) (y ∷ ys) formed ax ay k =
      let us = (f ts x y).1 in
      let p = safe ts x y formed ax.0 ay.0 k in
      after ts us _ p (all_safe us xs ys p.keeps.formed (subst (λ N. AllIn N xs) (sym p.keeps.len) ax.1) (subst (λ N. AllIn N ys) (sym p.keeps.len) ay.1) p.keeps.kept)

  children_safe : (ts : Types) (k : ℕ) (xs ys : List Ty) → WellFormed ts → AllIn (length ts) xs → AllIn (length ts) ys → Readable ts → Narrows ts (unify_children f ts k xs ys).1
  unfolding unify_children
  children_safe ts k xs ys formed ax ay kp = go (eqb (length xs) (length ys)) refl (eqb k kind_closure) refl
    where
      go : (b : Bool) → eqb (length xs) (length ys) ≡ b → (c : Bool) → eqb k kind_closure ≡ c → Narrows ts (unify_children f ts k xs ys).1
      go true e c q = rw (e, unify_children) (all_safe ts xs ys formed ax ay kp)
      go false e true q = rw (e, q, unify_children) (all_safe ts (last_of xs) (last_of ys) formed (last_in (length ts) xs ax) (last_in (length ts) ys ay) kp)
      go false e false q = rw (e, q, unify_children) (still ts formed kp)

  pub known_safe : (s : Words) (ts : Types) (inv : Bool) (k d : ℕ) (xs : List Ty) (k' d' : ℕ) (ys : List Ty) → WellFormed ts → AllIn (length ts) xs → AllIn (length ts) ys → Readable ts → Narrows ts (unify_known f s ts inv k d xs k' d' ys).1
  unfolding unify_known
  known_safe s ts inv k d xs k' d' ys formed ax ay kp = go (eqb k kind_error || eqb k' kind_error) refl (eqb k k' && eqb d d' && (not inv || kind_flag s row_may_meet k d)) refl
    where
      go : (b : Bool) → (eqb k kind_error || eqb k' kind_error) ≡ b → (c : Bool) → (eqb k k' && eqb d d' && (not inv || kind_flag s row_may_meet k d)) ≡ c → Narrows ts (unify_known f s ts inv k d xs k' d' ys).1
      go true e c q = rw (e, unify_known) (still ts formed kp)
      go false e true q = rw (e, q, unify_known) (children_safe ts k xs (map (invert_if inv) ys) formed ax (flip_in inv (length ts) ys ay) kp)
      go false e false q = rw (e, q, unify_known) (still ts formed kp)

  module _ (right : Right f) (s : Words) (ts : Types) (x y : Ty) (formed : WellFormed ts) (hx : x.1 < length ts) (hy : y.1 < length ts) (rx : rep ts x.1 ≡ x.1) (ry : rep ts y.1 ≡ y.1) (kp : Readable ts) where
    kids_in : (r : ℕ) (st : TypeState) → r < length ts → rep ts r ≡ r → state_at ts r ≡ st → ChildrenIn (length ts) st
    kids_in r st h rr e = subst (ChildrenIn (length ts)) (ap (state_at ts) rr ∙ e) (formed r h).2

    states_lost : (u v : TypeState) → state_at ts x.1 ≡ u → state_at ts y.1 ≡ v → (Won (unify_states f s ts x y u v).0 → ⊥) → Narrows ts (unify_states f s ts x y u v).1
    unfolding unify_states
    states_lost unknown v eu ev h = subst (Narrows ts) (sym (bind_lost ts x y h)) (still ts formed kp)
    states_lost (known i k d xs) unknown eu ev h = subst (Narrows ts) (sym (bind_lost ts x y h)) (still ts formed kp)
    states_lost (known i k d xs) (known j k' d' ys) eu ev h =
        subst (Narrows ts) (sym (join_lost (unify_known f s ts (xor (xor i x.0) (xor j y.0)) k d xs k' d' ys) x y h))
        (known_safe s ts (xor (xor i x.0) (xor j y.0)) k d xs k' d' ys formed (kids_in x.1 (known i k d xs) hx rx eu) (kids_in y.1 (known j k' d' ys) hy ry ev) kp)

    states_safe : x.1 ≢ y.1 → (u v : TypeState) → state_at ts x.1 ≡ u → state_at ts y.1 ≡ v → Narrows ts (unify_states f s ts x y u v).1
    states_safe ne u v eu ev = ⊎_elim
        (λ w. let r = states_right f right s ts x y formed hx hy rx ry ne u v eu ev kp w in record { keeps = record { len = r.0.len; formed = r.0.formed; kept = r.1 }; out = r.0.out })
        (λ h. states_lost u v eu ev h) (won? (unify_states f s ts x y u v).0)

    roots_safe : Narrows ts (unify_roots f s ts x y).1
    unfolding unify_roots
    roots_safe = go (ℕ_discrete x.1 y.1)
      where
        go : Dec (x.1 ≡ y.1) → Narrows ts (unify_roots f s ts x y).1
        go (yes e) = rw (eqb_true x.1 y.1 e, unify_roots) (still ts formed kp)
        go (no d) = rw (eqb_false x.1 y.1 d, unify_roots) (states_safe d (state_at ts x.1) (state_at ts y.1) refl refl)

-- `unify`, to any depth.
pub unify_in_narrows : (n : ℕ) (s : Words) → NarrowsTables (unify_in n s)
unfolding unify_in find invert_if rep
unify_in_narrows zero s ts a b formed ha hb k = still ts formed k
unify_in_narrows (suc n) s ts a b formed ha hb k =
    let ga = formed a.1 ha in
    let gb = formed b.1 hb in
    roots_safe (λ us t u. unify_in n s us t u) (unify_in_narrows n s) (unify_in_right n s) s ts (find ts a) (find ts b) formed ga.0 gb.0 ga.1 gb.1 k

-- `unify`, whatever it comes to: every solution of the table that it leaves is one of the table before.
pub unify_narrows : (s : Words) → NarrowsTables (unify s)
unfolding unify
unify_narrows s ts = unify_in_narrows (suc (length ts)) s ts

-- `unify`, whatever it comes to, keeps a table as long, well formed and readable as it was.
pub unify_keeps : (s : Words) (ts : Types) (a b : Ty) → WellFormed ts → a.1 < length ts → b.1 < length ts → Readable ts → Keeps ts (unify s ts a b).1
unify_keeps s ts a b formed ha hb k = (unify_narrows s ts a b formed ha hb k).keeps

-- `unify_impl_type` likewise: a signature, an impl parameter or a result against the question.
pub impl_type_narrows : (s : Words) (ts : Types) (a b : ImplType) → WellFormed ts → AllIn (length ts) a.1 → AllIn (length ts) b.1 → Readable ts → Narrows ts (unify_impl_type s ts a b).1
unfolding unify_impl_type unify_types
impl_type_narrows s ts a b formed ax ay k = go (eqb a.0 0 || eqb b.0 0) refl (eqb a.0 b.0) refl (eqb (length a.1) (length b.1)) refl
  where
    go : (o : Bool) → (eqb a.0 0 || eqb b.0 0) ≡ o → (p : Bool) → eqb a.0 b.0 ≡ p → (q : Bool) → eqb (length a.1) (length b.1) ≡ q → Narrows ts (unify_impl_type s ts a b).1
    go true e p e' q e'' = rw (e, unify_impl_type) (still ts formed k)
    go false e false e' q e'' = rw (e, e', unify_impl_type) (still ts formed k)
    go false e true e' true e'' = rw (e, e', unify_impl_type) (rw (e'', unify_types) (all_safe (unify s) (unify_narrows s) ts a.1 b.1 formed ax ay k))
    go false e true e' false e'' = rw (e, e', unify_impl_type) (rw (e'', unify_types) (still ts formed k))

-- It keeps a table as long, well formed and readable.
pub impl_type_keeps : (s : Words) (ts : Types) (a b : ImplType) → WellFormed ts → AllIn (length ts) a.1 → AllIn (length ts) b.1 → Readable ts → Keeps ts (unify_impl_type s ts a b).1
impl_type_keeps s ts a b formed ax ay k = (impl_type_narrows s ts a b formed ax ay k).keeps

-- A table that stays as long, and is well formed and acyclic: the rank computed from it falls from each node to the children of its root.
pub record StaysAcyclic (ts us : Types) : Type 0 where
  pub len : length us ≡ length ts
  pub formed : WellFormed us
  pub acyclic : Acyclic us

stays : (ts us : Types) → Keeps ts us → StaysAcyclic ts us
stays ts us k = record { len = k.len; formed = k.formed; acyclic = readable_ranked us k.formed k.kept }

-- The acyclicity lemma, for all tables, inverted and with Error too: whatever `unify` comes to, to any depth, the table stays acyclic.
pub unify_in-acyclic : (n : ℕ) (s : Words) (ts : Types) (a b : Ty) → WellFormed ts → Acyclic ts → a.1 < length ts → b.1 < length ts → StaysAcyclic ts (unify_in n s ts a b).1
unify_in-acyclic n s ts a b formed e ha hb = stays ts _ (unify_in_narrows n s ts a b formed ha hb (ranked_readable ts formed (rank ts) e)).keeps

-- `unify` itself.
pub unify-acyclic : (s : Words) (ts : Types) (a b : Ty) → WellFormed ts → Acyclic ts → a.1 < length ts → b.1 < length ts → StaysAcyclic ts (unify s ts a b).1
unify-acyclic s ts a b formed e ha hb = stays ts _ (unify_keeps s ts a b formed ha hb (ranked_readable ts formed (rank ts) e))

-- `unify_impl_type` likewise.
pub impl_type_acyclic : (s : Words) (ts : Types) (a b : ImplType) → WellFormed ts → Acyclic ts → AllIn (length ts) a.1 → AllIn (length ts) b.1 → StaysAcyclic ts (unify_impl_type s ts a b).1
impl_type_acyclic s ts a b formed e ax ay = stays ts _ (impl_type_keeps s ts a b formed ax ay (ranked_readable ts formed (rank ts) e))
