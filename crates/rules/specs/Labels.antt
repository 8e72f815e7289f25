-- Labels of nodes, alike where types are joined: a success of unification binds no unknown whose label no known root has.
use Prim.Native.Nat.{ℕ, zero, suc, ◌<◌}
use Rattle.std.specs.Prelude.{◌≡◌, Bool, not, ◌&&◌, ◌||◌, ◌≢◌, ◌⊎◌}
use Rattle.std.proofs.Math.Path.{refl, sym, ap, subst}
use Rattle.std.proofs.Common.{◌∙◌, inl, inr}
use Rattle.std.proofs.Math.Bool.{true, false}
use mathlib.Core.List.{List, [], ◌∷◌, map}
use Rattle.std.proofs.Math.Decide.{ℕ_discrete}
use Rattle.std.proofs.Math.Dec.{eqb}
use Rattle.std.proofs.Math.ListN.{length}
use Rattle.rules.specs.Lists.{Words}
use Rattle.rules.specs.Layout.{kind_closure, kind_error}
use Rattle.rules.specs.Sheet.{kind_flag, row_may_meet}
use Rattle.rules.specs.Types.{Ty, TypeState, unknown, known, Types, xor, invert_if, invert_state, find, state_at, success, larger, or_else, hang, join, Unified, occurs_in, unify_each, unify_types, unify_children, unify_known, bind_unknown, unify_states, unify_roots, unify_in, unify, ImplType, unify_impl_type}
use Rattle.rules.specs.Solutions.{rep, AllIn, ChildrenIn, WellFormed, eqb_true, eqb_false, known≢, Readable}
use Rattle.rules.specs.Joining.{hang_state, hang_top, hang_cases}
use Rattle.rules.specs.MostGeneral.{Won, Right, both_won, flip_in, known_right, join_won, unify_in_right}
use Rattle.rules.specs.UprightRoots.{hung_length}
use Rattle.rules.specs.ErrorsApart.{known_still}

-- The labels of some types: those of their nodes, whatever their sides.
unfoldable pub labels : (ℕ → ℕ) → List Ty → List ℕ
labels f [] = []
labels f (c ∷ cs) = f c.1 ∷ labels f cs

-- f labels a table: a node as its root, and the children of two known roots of one label alike.
pub record Labels (f : ℕ → ℕ) (ts : Types) : Type 0 where
  pub up : (n : ℕ) → n < length ts → f n ≡ f (rep ts n)
  pub closed : (a b : ℕ) → a < length ts → b < length ts → rep ts a ≡ a → rep ts b ≡ b → f a ≡ f b → (i j : Bool) (k d k' d' : ℕ) (cs ds : List Ty) → state_at ts a ≡ known i k d cs → state_at ts b ≡ known j k' d' ds → labels f cs ≡ labels f ds

-- No known root has label l.
pub record Unheld (f : ℕ → ℕ) (ts : Types) (l : ℕ) : Type 0 where
  pub at : (n : ℕ) → n < length ts → rep ts n ≡ n → f n ≡ l → state_at ts n ≡ unknown

-- The first of some labels, and the others.
unfoldable first_label : List ℕ → ℕ
first_label [] = 0
first_label (l ∷ ls) = l

unfoldable other_labels : List ℕ → List ℕ
other_labels [] = []
other_labels (l ∷ ls) = ls

-- Inverting types changes no label.
flip_labels : (f : ℕ → ℕ) (inv : Bool) (ys : List Ty) → labels f (map (invert_if inv) ys) ≡ labels f ys
unfolding labels invert_if
flip_labels f inv [] = refl
flip_labels f inv (y ∷ ys) = ap (λ ls. f y.1 ∷ ls) (flip_labels f inv ys)

-- The children of a known type.
unfoldable children_of : TypeState → List Ty
children_of unknown = []
children_of (known i k d cs) = cs

-- A known root of table ts of label l, with children cs.
record Held (f : ℕ → ℕ) (ts : Types) (l : ℕ) (cs : List Ty) : Type 0 where
  root : ℕ
  inside : root < length ts
  own : rep ts root ≡ root
  label : f root ≡ l
  side : Bool
  kind : ℕ
  id : ℕ
  state : state_at ts root ≡ known side kind id cs

-- From a table to a later one: nodes are labelled as their roots, and what is known at a root was at one of its label.
record Kept (f : ℕ → ℕ) (ts us : Types) : Type 0 where
  ups : (n : ℕ) → n < length us → f n ≡ f (rep us n)
  from : (r : ℕ) → r < length us → rep us r ≡ r → (i : Bool) (k d : ℕ) (cs : List Ty) → state_at us r ≡ known i k d cs → Held f ts (f r) cs

kept_refl : (f : ℕ → ℕ) (ts : Types) → Labels f ts → Kept f ts ts
kept_refl f ts l = record { ups = l.up; from = λ r h e i k d cs q. record { root = r; inside = h; own = e; label = refl; side = i; kind = k; id = d; state = q } }

kept_trans : (f : ℕ → ℕ) (ts us vs : Types) → Kept f ts us → Kept f us vs → Kept f ts vs
kept_trans f ts us vs p q = record { ups = q.ups; from = λ r h e i k d cs z. back r cs (q.from r h e i k d cs z) }
  where
    back : (r : ℕ) (cs : List Ty) → Held f us (f r) cs → Held f ts (f r) cs
    back r cs w = subst (λ l. Held f ts l cs) w.label (p.from w.root w.inside w.own w.side w.kind w.id cs w.state)

-- So the later table is labelled too,
kept-labels : (f : ℕ → ℕ) (ts us : Types) → Labels f ts → Kept f ts us → Labels f us
kept-labels f ts us l p = record { up = p.ups; closed = λ a b ha hb ra rb e i j k d k' d' cs ds ea eb. alike a b cs ds e (p.from a ha ra i k d cs ea) (p.from b hb rb j k' d' ds eb) }
  where
    alike : (a b : ℕ) (cs ds : List Ty) → f a ≡ f b → Held f ts (f a) cs → Held f ts (f b) ds → labels f cs ≡ labels f ds
    alike a b cs ds e v w = l.closed v.root w.root v.inside w.inside v.own w.own (v.label ∙ e ∙ sym w.label) v.side w.side v.kind v.id w.kind w.id cs ds v.state w.state

-- and a label that no known root had none has.
kept_unheld : (f : ℕ → ℕ) (ts us : Types) → Kept f ts us → (l : ℕ) → Unheld f ts l → Unheld f us l
kept_unheld f ts us p l u = record { at = λ n h e q. go n q (state_at us n) refl (p.from n h e) }
  where
    go : (n : ℕ) → f n ≡ l → (st : TypeState) → state_at us n ≡ st → ((i : Bool) (k d : ℕ) (cs : List Ty) → state_at us n ≡ known i k d cs → Held f ts (f n) cs) → state_at us n ≡ unknown
    go n q unknown e w = e
    go n q (known i k d cs) e w =
        let v = w i k d cs e in
        absurd (known≢ (sym v.state ∙ u.at v.root v.inside v.own (v.label ∙ q)))

-- Root lo was hung under root hi of its label.
module _ (f : ℕ → ℕ) (ts : Types) (lo hi : Ty) (hlo : lo.1 < length ts) (hhi : hi.1 < length ts) (rlo : rep ts lo.1 ≡ lo.1) (rhi : rep ts hi.1 ≡ hi.1) (ne : lo.1 ≢ hi.1) (same : f lo.1 ≡ f hi.1) (labelled : Labels f ts) where
  hang_ups : (n : ℕ) → n < length ts → f n ≡ f (rep (hang ts lo hi) n)
  hang_ups n h = go (hang_cases ts lo hi hlo hhi rlo rhi ne n h)
    where
      go : ((rep ts n ≡ lo.1) × (rep (hang ts lo hi) n ≡ hi.1)) ⊎ ((rep ts n ≢ lo.1) × (rep (hang ts lo hi) n ≡ rep ts n)) → f n ≡ f (rep (hang ts lo hi) n)
      go (inl c) = labelled.up n h ∙ ap f c.0 ∙ same ∙ ap f (sym c.1)
      go (inr c) = labelled.up n h ∙ ap f (sym c.1)

  -- What is known at the upper root was known at one of the two.
  top_from : (u v : TypeState) → state_at ts hi.1 ≡ u → state_at ts lo.1 ≡ v → (i : Bool) (k d : ℕ) (cs : List Ty) → or_else u (invert_state (xor hi.0 lo.0) v) ≡ known i k d cs → Held f ts (f hi.1) cs
  unfolding or_else invert_state children_of
  top_from unknown unknown eu ev i k d cs q = absurd (known≢ (sym q))
  top_from unknown (known j k' d' ys) eu ev i k d cs q = record { root = lo.1; inside = hlo; own = rlo; label = same; side = j; kind = k'; id = d'; state = ev ∙ ap (known j k' d') (ap children_of q) }
  top_from (known j k' d' xs) v eu ev i k d cs q = record { root = hi.1; inside = hhi; own = rhi; label = refl; side = i; kind = k; id = d; state = eu ∙ q }

  hang_from : (r : ℕ) → r < length ts → rep (hang ts lo hi) r ≡ r → (i : Bool) (k d : ℕ) (cs : List Ty) → state_at (hang ts lo hi) r ≡ known i k d cs → Held f ts (f r) cs
  hang_from r h e i k d cs q = go (ℕ_discrete r hi.1)
    where
      was_root : ((rep ts r ≡ lo.1) × (rep (hang ts lo hi) r ≡ hi.1)) ⊎ ((rep ts r ≢ lo.1) × (rep (hang ts lo hi) r ≡ rep ts r)) → r ≢ hi.1 → rep ts r ≡ r
      was_root (inl c) z = absurd (z (sym e ∙ c.1))
      was_root (inr c) z = sym c.1 ∙ e

      go : Dec (r ≡ hi.1) → Held f ts (f r) cs
      go (yes z) = subst (λ n. Held f ts (f n) cs) (sym z) (top_from (state_at ts hi.1) (state_at ts lo.1) refl refl i k d cs (sym (hang_top ts lo hi hlo hhi rlo rhi ne) ∙ ap (state_at (hang ts lo hi)) (sym z) ∙ q))
      go (no z) = record { root = r; inside = h; own = was_root (hang_cases ts lo hi hlo hhi rlo rhi ne r h) z; label = refl; side = i; kind = k; id = d; state = sym (hang_state ts lo hi hlo hhi rlo rhi ne r h z) ∙ q }

  hang_keeps : Kept f ts (hang ts lo hi)
  hang_keeps = record { ups = λ n h. hang_ups n (back n h); from = λ r h. hang_from r (back r h) }
    where
      back : (n : ℕ) → n < length (hang ts lo hi) → n < length ts
      back n h = subst (λ N. n < N) (hung_length ts lo hi) h

-- Two roots of one label were joined.
module _ (f : ℕ → ℕ) (ts : Types) (x y : Ty) (hx : x.1 < length ts) (hy : y.1 < length ts) (rx : rep ts x.1 ≡ x.1) (ry : rep ts y.1 ≡ y.1) (ne : x.1 ≢ y.1) (same : f x.1 ≡ f y.1) (labelled : Labels f ts) where
  join_keeps : Kept f ts (join ts x y)
  unfolding join
  join_keeps = go (larger ts x y) refl
    where
      go : (c : Bool) → larger ts x y ≡ c → Kept f ts (join ts x y)
      go true e = rw (e, join) (hang_keeps f ts y x hy hx ry rx (λ q. ne (sym q)) (sym same) labelled)
      go false e = rw (e, join) (hang_keeps f ts x y hx hy rx ry ne same labelled)

  bind_keeps : Kept f ts (bind_unknown ts x y).1
  unfolding bind_unknown
  bind_keeps = go (occurs_in (suc (length ts)) ts x.1 y || occurs_in (suc (length ts)) ts y.1 x) refl
    where
      go : (b : Bool) → (occurs_in (suc (length ts)) ts x.1 y || occurs_in (suc (length ts)) ts y.1 x) ≡ b → Kept f ts (bind_unknown ts x y).1
      go true q = rw (q, bind_unknown) (kept_refl f ts labelled)
      go false q = rw (q, bind_unknown) join_keeps

-- A success of unification, layer by layer.
module _ (s : Words) (f : ℕ → ℕ) where
  abbrev Keeps : (Types → Ty → Ty → Unified) → Type 0
  Keeps g = (ts : Types) (a b : Ty) → WellFormed ts → a.1 < length ts → b.1 < length ts → Readable ts → Won (g ts a b).0 → Labels f ts → f a.1 ≡ f b.1 → Kept f ts (g ts a b).1

  module _ (g : Types → Ty → Ty → Unified) (right : Right g) (keeps : Keeps g) where
    each_keeps : (ts : Types) (xs ys : List Ty) → WellFormed ts → AllIn (length ts) xs → AllIn (length ts) ys → Readable ts → Won (unify_each g ts xs ys).0 → Labels f ts → labels f xs ≡ labels f ys → Kept f ts (unify_each g ts xs ys).1
    unfolding unify_each labels first_label other_labels
    each_keeps ts [] ys formed ax ay fr w l e = kept_refl f ts l
    each_keeps ts (x ∷ xs) [] formed ax ay fr w l e = kept_refl f ts l
    each_keeps ts (x ∷ xs) (y ∷ ys) formed ax ay fr w l e =
        let m = g ts x y in
        let won = both_won m.0 (unify_each g m.1 xs ys).0 w in
        let p = right ts x y formed ax.0 ay.0 fr won.0 in
        let len : length ts ≡ length m.1 = sym p.0.len in
        let one = keeps ts x y formed ax.0 ay.0 fr won.0 l (ap first_label e) in
        kept_trans f ts m.1 _ one (each_keeps m.1 xs ys p.0.formed (subst (λ N. AllIn N xs) len ax.1) (subst (λ N. AllIn N ys) len ay.1) p.1 won.1 (kept-labels f ts m.1 l one) (ap other_labels e))

    children_keep : (ts : Types) (k : ℕ) (xs ys : List Ty) → WellFormed ts → AllIn (length ts) xs → AllIn (length ts) ys → Readable ts → Won (unify_children g ts k xs ys).0 → Labels f ts → labels f xs ≡ labels f ys → Kept f ts (unify_children g ts k xs ys).1
    unfolding unify_children
    children_keep ts k xs ys formed ax ay fr w l same = go (eqb (length xs) (length ys)) refl (eqb k kind_closure) refl w
      where
        go : (b : Bool) → eqb (length xs) (length ys) ≡ b → (c : Bool) → eqb k kind_closure ≡ c → Won (unify_children g ts k xs ys).0 → Kept f ts (unify_children g ts k xs ys).1
        go true e c q v = rw (e, unify_children) (each_keeps ts xs ys formed ax ay fr (rw (e, unify_children) at v) l same)
        go false e true q v = absurd (rw (e, q, unify_children) at v)
        go false e false q v = absurd (rw (e, q, unify_children) at v)

    known_keeps : (ts : Types) (inv : Bool) (k d : ℕ) (xs : List Ty) (k' d' : ℕ) (ys : List Ty) → WellFormed ts → AllIn (length ts) xs → AllIn (length ts) ys → Readable ts → Won (unify_known g s ts inv k d xs k' d' ys).0 → Labels f ts → labels f xs ≡ labels f ys → Kept f ts (unify_known g s ts inv k d xs k' d' ys).1
    unfolding unify_known
    known_keeps ts inv k d xs k' d' ys formed ax ay fr w l same = go (eqb k kind_error || eqb k' kind_error) refl (eqb k k' && eqb d d' && (not inv || kind_flag s row_may_meet k d)) refl w
      where
        go : (b : Bool) → (eqb k kind_error || eqb k' kind_error) ≡ b → (c : Bool) → (eqb k k' && eqb d d' && (not inv || kind_flag s row_may_meet k d)) ≡ c → Won (unify_known g s ts inv k d xs k' d' ys).0 → Kept f ts (unify_known g s ts inv k d xs k' d' ys).1
        go true e c e' v = absurd (rw (e, unify_known) at v)
        go false e false e' v = absurd (rw (e, e', unify_known) at v)
        go false e true e' v = rw (e, e', unify_known) (children_keep ts k xs (map (invert_if inv) ys) formed ax (flip_in inv (length ts) ys ay) fr (rw (e, e', unify_known) at v) l (same ∙ sym (flip_labels f inv ys)))

    module _ (ts : Types) (x y : Ty) (formed : WellFormed ts) (hx : x.1 < length ts) (hy : y.1 < length ts) (rx : rep ts x.1 ≡ x.1) (ry : rep ts y.1 ≡ y.1) (fr : Readable ts) (labelled : Labels f ts) (same : f x.1 ≡ f y.1) where
      -- Two known roots: their children are labelled alike, and they are roots still when these have met.
      both_keep : x.1 ≢ y.1 → (inv i : Bool) (k d : ℕ) (xs : List Ty) (j : Bool) (k' d' : ℕ) (ys : List Ty) → state_at ts x.1 ≡ known i k d xs → state_at ts y.1 ≡ known j k' d' ys → let m = unify_known g s ts inv k d xs k' d' ys in Won m.0 → Kept f ts (join m.1 x y)
      both_keep ne inv i k d xs j k' d' ys eu ev w =
          let us = (unify_known g s ts inv k d xs k' d' ys).1 in
          let ax = children x.1 (known i k d xs) hx rx eu in
          let ay = children y.1 (known j k' d' ys) hy ry ev in
          let p = (known_right g right s ts inv k d xs k' d' ys formed ax ay fr w).2 in
          let r = known_still g right s ts x.1 y.1 formed hx hy rx ry fr inv i k d xs j k' d' ys eu ev w in
          let inner = known_keeps ts inv k d xs k' d' ys formed ax ay fr w labelled (labelled.closed x.1 y.1 hx hy rx ry same i j k d k' d' xs ys eu ev) in
          kept_trans f ts us _ inner (join_keeps f us x y (subst (λ N. x.1 < N) (sym p.len) hx) (subst (λ N. y.1 < N) (sym p.len) hy) r.left r.right ne same (kept-labels f ts us labelled inner))
        where
          children : (r : ℕ) (st : TypeState) → r < length ts → rep ts r ≡ r → state_at ts r ≡ st → ChildrenIn (length ts) st
          children r st h rr e = subst (ChildrenIn (length ts)) (ap (state_at ts) rr ∙ e) (formed r h).2

      states_keep : x.1 ≢ y.1 → (u v : TypeState) → state_at ts x.1 ≡ u → state_at ts y.1 ≡ v → Won (unify_states g s ts x y u v).0 → Kept f ts (unify_states g s ts x y u v).1
      unfolding unify_states
      states_keep ne unknown v eu ev w = bind_keeps f ts x y hx hy rx ry ne same labelled
      states_keep ne (known i k d xs) unknown eu ev w = bind_keeps f ts x y hx hy rx ry ne same labelled
      states_keep ne (known i k d xs) (known j k' d' ys) eu ev w =
          let inv = xor (xor i x.0) (xor j y.0) in
          let jw = join_won (unify_known g s ts inv k d xs k' d' ys) x y w in
          subst (Kept f ts) (sym jw.1) (both_keep ne inv i k d xs j k' d' ys eu ev jw.0)

      roots_keep : Won (unify_roots g s ts x y).0 → Kept f ts (unify_roots g s ts x y).1
      unfolding unify_roots
      roots_keep w = go (ℕ_discrete x.1 y.1) w
        where
          go : Dec (x.1 ≡ y.1) → Won (unify_roots g s ts x y).0 → Kept f ts (unify_roots g s ts x y).1
          go (yes e) v = rw (eqb_true x.1 y.1 e, unify_roots) (kept_refl f ts labelled)
          go (no e) v = rw (eqb_false x.1 y.1 e, unify_roots) (states_keep e (state_at ts x.1) (state_at ts y.1) refl refl (rw (eqb_false x.1 y.1 e, unify_roots) at v))

  -- `unify`, to any depth.
  unify_in_keeps : (n : ℕ) → Keeps (unify_in n s)
  unfolding unify_in find invert_if rep
  unify_in_keeps zero ts a b formed ha hb fr w l same = absurd w
  unify_in_keeps (suc n) ts a b formed ha hb fr w l same =
      let ga = formed a.1 ha in
      let gb = formed b.1 hb in
      roots_keep (λ us t u. unify_in n s us t u) (unify_in_right n s) (unify_in_keeps n) ts (find ts a) (find ts b) formed ga.0 gb.0 ga.1 gb.1 fr l (sym (l.up a.1 ha) ∙ same ∙ l.up b.1 hb) w

  impl_type_keeps : (ts : Types) (a b : ImplType) → WellFormed ts → AllIn (length ts) a.1 → AllIn (length ts) b.1 → Readable ts → (unify_impl_type s ts a b).0 ≡ success → Labels f ts → labels f a.1 ≡ labels f b.1 → Kept f ts (unify_impl_type s ts a b).1
  unfolding unify_impl_type unify_types unify
  impl_type_keeps ts a b formed ax ay fr won l same = go (eqb a.0 0 || eqb b.0 0) refl (eqb a.0 b.0) refl (eqb (length a.1) (length b.1)) refl (subst Won (sym won) tt)
    where
      go : (o : Bool) → (eqb a.0 0 || eqb b.0 0) ≡ o → (p : Bool) → eqb a.0 b.0 ≡ p → (q : Bool) → eqb (length a.1) (length b.1) ≡ q → Won (unify_impl_type s ts a b).0 → Kept f ts (unify_impl_type s ts a b).1
      go true e p e' q e'' w = absurd (rw (e, unify_impl_type) at w)
      go false e false e' q e'' w = absurd (rw (e, e', unify_impl_type) at w)
      go false e true e' false e'' w = absurd (rw (e, e', unify_impl_type, e'', unify_types) at w)
      go false e true e' true e'' w = rw (e, e', unify_impl_type) (rw (e'', unify_types) (each_keeps (unify s) (λ us. unify_in_right (suc (length us)) s us) (λ us. unify_in_keeps (suc (length us)) us) ts a.1 b.1 formed ax ay fr (rw (e, e', unify_impl_type, e'', unify_types) at w) l same))

  -- Where `unify_impl_type` succeeds on arguments of the same labels, the table that it leaves is labelled too, and a label that no known root had none has.
  pub impl_type_labels : (ts : Types) (a b : ImplType) → WellFormed ts → AllIn (length ts) a.1 → AllIn (length ts) b.1 → Readable ts → (unify_impl_type s ts a b).0 ≡ success → Labels f ts → labels f a.1 ≡ labels f b.1 → Labels f (unify_impl_type s ts a b).1 × ((l : ℕ) → Unheld f ts l → Unheld f (unify_impl_type s ts a b).1 l)
  impl_type_labels ts a b formed ax ay fr won l same =
      let p = impl_type_keeps ts a b formed ax ay fr won l same in
      (kept-labels f ts _ l p, kept_unheld f ts _ p)
