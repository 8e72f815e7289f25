-- Upright, error-free tables: what Robinson's theorem is about. Whatever `unify` comes to on upright types, such a table stays one.
use Rattle.std.specs.Prelude.{ℕ, zero, suc, ◌<◌, ◌≡◌, Bool, not, ◌&&◌, ◌||◌, ◌≢◌}
use Rattle.std.proofs.Math.Path.{refl, subst}
use Rattle.std.proofs.Common.{sym, ◌∙◌, ap₂, ap, length-set, get_or-set_same, get_or-set_other}
use Rattle.std.proofs.Math.Bool.{true, false}
use mathlib.Core.List.{List, [], ◌∷◌, map}
use Rattle.std.proofs.Math.Decide.{ℕ_discrete}
use Rattle.std.proofs.Math.Dec.{eqb}
use Rattle.std.proofs.Math.ListN.{length}
use Rattle.rules.specs.Lists.{Words}
use Rattle.rules.specs.Layout.{kind_closure, kind_error}
use Rattle.rules.specs.Sheet.{kind_flag, row_may_meet}
use Rattle.rules.specs.Types.{Ty, TypeState, unknown, known, TypeNode, Types, node_at, xor, invert_if, invert_state, find, state_at, larger, UnifyResult, success, failure, indeterminate, occurs_in, relabel, or_else, hang, join, Unified, unify_each, last_of, unify_children, unify_known, join_on_success, bind_unknown, unify_states, unify_roots, unify_in, unify}
use Rattle.rules.specs.Solutions.{rep, AllIn, ChildrenIn, WellFormed, Readable}
use Rattle.rules.specs.Joining.{map_at, map-length}
use Rattle.rules.specs.MostGeneral.{flip_in}
use Rattle.rules.specs.UnifyKeeps.{NarrowsTables, last_in, known_safe, unify_in_narrows}

-- Upright types: none is inverted.
abbrev pub Upright : List Ty → Type 0
Upright [] = Unit {0}
Upright (c ∷ cs) = (c.0 ≡ false) × Upright cs

-- A state that is unknown, or neither inverted nor Error, with upright children.
abbrev pub PlainState : TypeState → Type 0
PlainState unknown = Unit {0}
PlainState (known i k d cs) = (i ≡ false) × (k ≢ kind_error) × Upright cs

-- An upright, error-free table: no node is the inverse of its root, and none is inverted, Error, or has an inverted child.
abbrev pub UprightErrorFree : Types → Type 0
UprightErrorFree ts = (n : ℕ) → n < length ts → ((node_at ts n).up.0 ≡ false) × PlainState (state_at ts n)

hang-plain : (ts : Types) (lo hi : Ty) → lo.1 < length ts → hi.1 < length ts → lo.0 ≡ false → hi.0 ≡ false → UprightErrorFree ts → UprightErrorFree (hang ts lo hi)
unfolding hang node_at state_at relabel invert_if or_else invert_state
hang-plain ts lo hi hlo hhi l₀ h₀ plain n h' = go (ℕ_discrete n hi.1)
  where
    b : Bool
    b = xor hi.0 lo.0

    b₀ : b ≡ false
    b₀ = ap₂ xor h₀ l₀

    mv : TypeNode → TypeNode
    mv = relabel lo.1 (b, hi.1)

    h : n < length ts
    h = subst (λ m. n < m) (length-set (map mv ts) hi.1 _ ∙ map-length mv ts) h'

    or_plain : (u v : TypeState) (c : Bool) → c ≡ false → PlainState u → PlainState v → PlainState (or_else u (invert_state c v))
    or_plain unknown unknown c e p q = tt
    or_plain unknown (known i k d cs) c e p q = (ap₂ xor e q.0, q.1, q.2)
    or_plain (known i k d cs) v c e p q = p

    mv_plain : (nd : TypeNode) → (nd.up.0 ≡ false) × PlainState nd.state → ((mv nd).up.0 ≡ false) × PlainState (mv nd).state
    mv_plain nd p = pick (eqb nd.up.1 lo.1) refl
      where
        pick : (c : Bool) → eqb nd.up.1 lo.1 ≡ c → ((mv nd).up.0 ≡ false) × PlainState (mv nd).state
        pick true e = rw (e, relabel) (ap₂ xor p.0 b₀, p.1)
        pick false e = rw (e, relabel) p

    go : Dec (n ≡ hi.1) → ((node_at (hang ts lo hi) n).up.0 ≡ false) × PlainState (state_at (hang ts lo hi) n)
    go (yes e) =
        subst (λ m. ((node_at (hang ts lo hi) m).up.0 ≡ false) × PlainState (state_at (hang ts lo hi) m)) (sym e)
        (subst (λ nd. (nd.up.0 ≡ false) × PlainState nd.state) (sym (get_or-set_same (map mv ts) hi.1 _ _ (rw (map-length mv ts) hhi)))
        (refl, or_plain (state_at ts hi.1) (state_at ts lo.1) b b₀ (plain hi.1 hhi).1 (plain lo.1 hlo).1))
    go (no d) = subst (λ nd. (nd.up.0 ≡ false) × PlainState nd.state) (sym (get_or-set_other (map mv ts) hi.1 n _ _ d ∙ map_at mv ts n _ h)) (mv_plain (node_at ts n) (plain n h))

join-plain : (ts : Types) (x y : Ty) → x.1 < length ts → y.1 < length ts → x.0 ≡ false → y.0 ≡ false → UprightErrorFree ts → UprightErrorFree (join ts x y)
unfolding join
join-plain ts x y hx hy x₀ y₀ plain = go (larger ts x y) refl
  where
    go : (b : Bool) → larger ts x y ≡ b → UprightErrorFree (join ts x y)
    go true e = rw (e, join) (hang-plain ts y x hy hx y₀ x₀ plain)
    go false e = rw (e, join) (hang-plain ts x y hx hy x₀ y₀ plain)

-- Children met upright stay upright.
pub flip_upright : (inv : Bool) → inv ≡ false → (ys : List Ty) → Upright ys → Upright (map (invert_if inv) ys)
unfolding invert_if
flip_upright inv e [] u = tt
flip_upright inv e (y ∷ ys) u = (ap₂ xor e u.0, flip_upright inv e ys u.1)

last-upright : (xs : List Ty) → Upright xs → Upright (last_of xs)
unfolding last_of
last-upright [] u = tt
last-upright (x ∷ []) u = u
last-upright (x ∷ (y ∷ ys)) u = last-upright (y ∷ ys) u.1

-- A way to meet two types that keeps tables upright and error-free, whatever it comes to.
abbrev pub KeepsUpright : (Types → Ty → Ty → Unified) → Type 0
KeepsUpright f = (ts : Types) (a b : Ty) → WellFormed ts → Readable ts → UprightErrorFree ts → a.1 < length ts → b.1 < length ts → a.0 ≡ false → b.0 ≡ false → UprightErrorFree (f ts a b).1

module _ (f : Types → Ty → Ty → Unified) (safe : NarrowsTables f) (kept : KeepsUpright f) where
  each_upright : (ts : Types) (xs ys : List Ty) → WellFormed ts → Readable ts → UprightErrorFree ts → AllIn (length ts) xs → AllIn (length ts) ys → Upright xs → Upright ys → UprightErrorFree (unify_each f ts xs ys).1
  unfolding unify_each
  each_upright ts [] ys formed r plain ax ay ux uy = plain
  each_upright ts (x ∷ xs) [] formed r plain ax ay ux uy = plain
  each_upright ts (x ∷ xs) (y ∷ ys) formed r plain ax ay ux uy =
      let n = (safe ts x y formed ax.0 ay.0 r).keeps in
      let us = (f ts x y).1 in
      let up : (zs : List Ty) → AllIn (length ts) zs → AllIn (length us) zs = λ zs a. subst (λ N. AllIn N zs) (sym n.len) a in
      each_upright us xs ys n.formed n.kept (kept ts x y formed r plain ax.0 ay.0 ux.0 uy.0) (up xs ax.1) (up ys ay.1) ux.1 uy.1

  children-upright : (ts : Types) (k : ℕ) (xs ys : List Ty) → WellFormed ts → Readable ts → UprightErrorFree ts → AllIn (length ts) xs → AllIn (length ts) ys → Upright xs → Upright ys → UprightErrorFree (unify_children f ts k xs ys).1
  unfolding unify_children
  children-upright ts k xs ys formed r plain ax ay ux uy = go (eqb (length xs) (length ys)) refl (eqb k kind_closure) refl
    where
      go : (b : Bool) → eqb (length xs) (length ys) ≡ b → (c : Bool) → eqb k kind_closure ≡ c → UprightErrorFree (unify_children f ts k xs ys).1
      go true e c q = rw (e, unify_children) (each_upright ts xs ys formed r plain ax ay ux uy)
      go false e true q = rw (e, q, unify_children) (each_upright ts (last_of xs) (last_of ys) formed r plain (last_in (length ts) xs ax) (last_in (length ts) ys ay) (last-upright xs ux) (last-upright ys uy))
      go false e false q = rw (e, q, unify_children) plain

  known_upright : (s : Words) (ts : Types) (inv : Bool) (k d : ℕ) (xs : List Ty) (k' d' : ℕ) (ys : List Ty) → inv ≡ false → WellFormed ts → Readable ts → UprightErrorFree ts → AllIn (length ts) xs → AllIn (length ts) ys → Upright xs → Upright ys → UprightErrorFree (unify_known f s ts inv k d xs k' d' ys).1
  unfolding unify_known
  known_upright s ts inv k d xs k' d' ys iv formed r plain ax ay ux uy = go (eqb k kind_error || eqb k' kind_error) refl (eqb k k' && eqb d d' && (not inv || kind_flag s row_may_meet k d)) refl
    where
      go : (b : Bool) → (eqb k kind_error || eqb k' kind_error) ≡ b → (c : Bool) → (eqb k k' && eqb d d' && (not inv || kind_flag s row_may_meet k d)) ≡ c → UprightErrorFree (unify_known f s ts inv k d xs k' d' ys).1
      go true e c q = rw (e, unify_known) plain
      go false e true q = rw (e, q, unify_known) (children-upright ts k xs (map (invert_if inv) ys) formed r plain ax (flip_in inv (length ts) ys ay) ux (flip_upright inv iv ys uy))
      go false e false q = rw (e, q, unify_known) plain

  module _ (s : Words) (ts : Types) (x y : Ty) (formed : WellFormed ts) (readable : Readable ts) (plain : UprightErrorFree ts) (hx : x.1 < length ts) (hy : y.1 < length ts) (rx : rep ts x.1 ≡ x.1) (ry : rep ts y.1 ≡ y.1) (x₀ : x.0 ≡ false) (y₀ : y.0 ≡ false) where
    bind_upright : UprightErrorFree (bind_unknown ts x y).1
    unfolding bind_unknown
    bind_upright = go (occurs_in (suc (length ts)) ts x.1 y || occurs_in (suc (length ts)) ts y.1 x) refl
      where
        go : (b : Bool) → (occurs_in (suc (length ts)) ts x.1 y || occurs_in (suc (length ts)) ts y.1 x) ≡ b → UprightErrorFree (bind_unknown ts x y).1
        go true e = rw (e, bind_unknown) plain
        go false e = rw (e, bind_unknown) (join-plain ts x y hx hy x₀ y₀ plain)

    join-upright : (m : Unified) → length m.1 ≡ length ts → UprightErrorFree m.1 → UprightErrorFree (join_on_success m x y).1
    unfolding join_on_success
    join-upright m len p = go m.0 refl
      where
        go : (v : UnifyResult) → m.0 ≡ v → UprightErrorFree (join_on_success m x y).1
        go success e = rw (e, join_on_success) (join-plain m.1 x y (subst (λ N. x.1 < N) (sym len) hx) (subst (λ N. y.1 < N) (sym len) hy) x₀ y₀ p)
        go failure e = rw (e, join_on_success) p
        go indeterminate e = rw (e, join_on_success) p

    states_upright : (u v : TypeState) → state_at ts x.1 ≡ u → state_at ts y.1 ≡ v → UprightErrorFree (unify_states f s ts x y u v).1
    unfolding unify_states
    states_upright unknown v eu ev = bind_upright
    states_upright (known i k d xs) unknown eu ev = bind_upright
    states_upright (known i k d xs) (known j k' d' ys) eu ev =
        let inv = xor (xor i x.0) (xor j y.0) in
        let px = subst PlainState eu (plain x.1 hx).1 in
        let py = subst PlainState ev (plain y.1 hy).1 in
        let ax = kids x.1 hx rx eu in
        let ay = kids y.1 hy ry ev in
        join-upright _ (known_safe f safe s ts inv k d xs k' d' ys formed ax ay readable).keeps.len
        (known_upright s ts inv k d xs k' d' ys (ap₂ xor (ap₂ xor px.0 x₀) (ap₂ xor py.0 y₀)) formed readable plain ax ay px.2 py.2)
      where
        kids : (r : ℕ) → r < length ts → rep ts r ≡ r → {i' : Bool} {c e : ℕ} {cs : List Ty} → state_at ts r ≡ known i' c e cs → AllIn (length ts) cs
        kids r h rr q = subst (ChildrenIn (length ts)) (ap (state_at ts) rr ∙ q) (formed r h).2

    roots_upright : UprightErrorFree (unify_roots f s ts x y).1
    unfolding unify_roots
    roots_upright = go (eqb x.1 y.1) refl
      where
        go : (b : Bool) → eqb x.1 y.1 ≡ b → UprightErrorFree (unify_roots f s ts x y).1
        go true e = rw (e, unify_roots) plain
        go false e = rw (e, unify_roots) (states_upright (state_at ts x.1) (state_at ts y.1) refl refl)

pub unify_in-upright : (n : ℕ) (s : Words) → KeepsUpright (unify_in n s)
unfolding unify_in find invert_if rep
unify_in-upright zero s ts a b formed r plain ha hb a₀ b₀ = plain
unify_in-upright (suc n) s ts a b formed r plain ha hb a₀ b₀ =
    let ga = formed a.1 ha in
    let gb = formed b.1 hb in
    roots_upright (λ us t u. unify_in n s us t u) (unify_in_narrows n s) (unify_in-upright n s) s ts (find ts a) (find ts b) formed r plain ga.0 gb.0 ga.1 gb.1 (ap₂ xor a₀ (plain a.1 ha).0) (ap₂ xor b₀ (plain b.1 hb).0)

-- `unify` of upright types keeps a table upright and error-free, whatever it comes to.
pub unify-upright : (s : Words) → KeepsUpright (unify s)
unfolding unify
unify-upright s ts = unify_in-upright (suc (length ts)) s ts
