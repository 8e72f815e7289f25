-- `unify` never uses up its fuel: it comes to the same with any more of it, whatever the verdict, inverted and Error too.
-- In every solution of the table that a call is made in, its types are smaller than those of the call that makes it; solutions of later tables solve the earlier ones.
use Rattle.std.specs.Prelude.{ℕ, zero, suc, ◌+◌, ◌-◌, ◌≤◌, ◌<◌, ◌≡◌, Bool, not, ◌&&◌, ◌||◌, get_or}
use Rattle.std.proofs.Math.Path.{refl, ap, subst}
use Rattle.std.proofs.Common.{sym, ◌∙◌, ⊎_elim, le_of_suc-le-suc, not-suc-le-zero, arith}
use Rattle.std.proofs.Math.Bool.{true, false}
use mathlib.Core.List.{List, [], ◌∷◌, map}
use Rattle.std.proofs.Math.Dec.{eqb}
use Rattle.std.proofs.Math.ListN.{length}
use Rattle.rules.specs.Lists.{Words}
use Rattle.rules.specs.Layout.{kind_closure, kind_error}
use Rattle.rules.specs.Sheet.{kind_flag, row_may_meet}
use Rattle.rules.specs.Types.{Ty, TypeState, unknown, known, Types, xor, invert_if, find, state_at, failure, and, Unified, unify_each, last_of, unify_children, unify_known, join_on_success, unify_states, unify_roots, unify_in, unify}
use Rattle.rules.specs.Solutions.{term_size, Sol, terms, rep, Fits, Solves, AllIn, ChildrenIn, WellFormed, Readable, Fuel, fuel_none, fuel_step, fuel_less, fuel_over, fuel_full}
use Rattle.rules.specs.MostGeneral.{flip_in}
use Rattle.rules.specs.Pigeonholes.{steady, lt_or}
use Rattle.rules.specs.RootRank.{rank}
use Rattle.rules.specs.Readings.{Acyclic, ranked_readable}
use Rattle.rules.specs.UnifyKeeps.{Narrows, NarrowsTables, last_in, unify_in_narrows}

-- Fuel k is enough for types in a table: in each of its solutions.
abbrev pub Enough : ℕ → Types → List Ty → Type 0
Enough k ts xs = (θ : Sol) → Solves ts θ → Fuel k (length ts) θ (term_size (terms θ xs))

-- Two ways to meet types that agree wherever fuel k is enough.
abbrev Alike : ℕ → (Types → Ty → Ty → Unified) → (Types → Ty → Ty → Unified) → Type 0
Alike k f g = (ts : Types) (a b : Ty) → WellFormed ts → Readable ts → a.1 < length ts → b.1 < length ts → Enough k ts (a ∷ []) → f ts a b ≡ g ts a b

-- Of the first, of the others, and of the last of some types for which it is enough.
first_enough : (k : ℕ) (ts : Types) (x : Ty) (xs : List Ty) → Enough k ts (x ∷ xs) → Enough k ts (x ∷ [])
unfolding terms term_size
first_enough k ts x xs e θ sv = fuel_less k (length ts) θ _ _ (omega arith) (e θ sv)

rest_enough : (k : ℕ) (ts : Types) (x : Ty) (xs : List Ty) → Enough k ts (x ∷ xs) → Enough k ts xs
unfolding terms term_size
rest_enough k ts x xs e θ sv = fuel_less k (length ts) θ _ _ (omega arith) (e θ sv)

last-size : (θ : Sol) (xs : List Ty) → term_size (terms θ (last_of xs)) ≤ term_size (terms θ xs)
unfolding terms term_size last_of
last-size θ [] = omega arith
last-size θ (x ∷ []) = omega arith
last-size θ (x ∷ (y ∷ ys)) = omega (arith, last-size θ (y ∷ ys))

-- Of each of them.
pub child_enough : (k : ℕ) (ts : Types) (xs : List Ty) (j : ℕ) → j < length xs → Enough k ts xs → Enough k ts (get_or xs j (false, 0) ∷ [])
child_enough k ts [] j h e = absurd (not-suc-le-zero h)
child_enough k ts (x ∷ xs) zero h e = first_enough k ts x xs e
child_enough k ts (x ∷ xs) (suc j) h e = child_enough k ts xs j (le_of_suc-le-suc h) (rest_enough k ts x xs e)

-- Of the root of a type; of the children of a known root, with one less; with more; and at the start.
pub root_enough : (k : ℕ) (ts : Types) (a : Ty) → a.1 < length ts → Enough k ts (a ∷ []) → Enough k ts (find ts a ∷ [])
unfolding find invert_if rep terms term_size
root_enough k ts a ha e θ sv = fuel_less k (length ts) θ _ _ (omega (arith, ap term_size (sv a.1 ha).0)) (e θ sv)

pub below_enough : (k : ℕ) (ts : Types) (x : Ty) {i : Bool} {kd d : ℕ} {xs : List Ty} → x.1 < length ts → rep ts x.1 ≡ x.1 → state_at ts x.1 ≡ known i kd d xs → Enough (suc k) ts (x ∷ []) → Enough k ts xs
unfolding terms term_size
below_enough k ts x {xs = xs} h r q e θ sv =
    let whole = ap term_size (subst (Fits θ x.1) q (subst (λ n. Fits θ n (state_at ts n)) r (sv x.1 h).1)) in
    fuel_step k (length ts) θ _ (term_size (terms θ xs)) x.1 h refl (omega (arith, whole)) (fuel_less (suc k) (length ts) θ _ (term_size (θ x.1)) (omega arith) (e θ sv))

more_enough : (k : ℕ) (ts : Types) (xs : List Ty) (m : ℕ) → Enough k ts xs → Enough (m + k) ts xs
more_enough k ts xs m e θ sv = let f = e θ sv in record { ms = f.ms; len = f.len; above = f.above; left = omega (arith, f.left) }

pub full_enough : (ts : Types) (xs : List Ty) → Enough (suc (length ts)) ts xs
full_enough ts xs θ sv = fuel_full (length ts) θ _

-- In a later table too.
pub later_enough : (k : ℕ) (ts us : Types) (xs : List Ty) → Narrows ts us → Enough k ts xs → Enough k us xs
later_enough k ts us xs n e θ sv = subst (λ N. Fuel k N θ (term_size (terms θ xs))) (sym n.keeps.len) (e θ (n.out θ sv))

module _ (k : ℕ) (f g : Types → Ty → Ty → Unified) (safe : NarrowsTables f) (same : Alike k f g) where
  each_alike : (ts : Types) (xs ys : List Ty) → WellFormed ts → Readable ts → AllIn (length ts) xs → AllIn (length ts) ys → Enough k ts xs → unify_each f ts xs ys ≡ unify_each g ts xs ys
  unfolding unify_each
  each_alike ts [] ys formed r ax ay e = refl
  each_alike ts (x ∷ xs) [] formed r ax ay e = refl
  each_alike ts (x ∷ xs) (y ∷ ys) formed r ax ay e =
      let n = safe ts x y formed ax.0 ay.0 r in
      let us = (f ts x y).1 in
      let up : (zs : List Ty) → AllIn (length ts) zs → AllIn (length us) zs = λ zs a. subst (λ N. AllIn N zs) (sym n.keeps.len) a in
      ap {B = Unified} (λ (z : Unified). (and (f ts x y).0 z.0, z.1)) (each_alike us xs ys n.keeps.formed n.keeps.kept (up xs ax.1) (up ys ay.1) (later_enough k ts us xs n (rest_enough k ts x xs e)))
      ∙ ap {B = Unified} (λ (m : Unified). (and m.0 (unify_each g m.1 xs ys).0, (unify_each g m.1 xs ys).1)) (same ts x y formed r ax.0 ay.0 (first_enough k ts x xs e))

  children_alike : (ts : Types) (kd : ℕ) (xs ys : List Ty) → WellFormed ts → Readable ts → AllIn (length ts) xs → AllIn (length ts) ys → Enough k ts xs → unify_children f ts kd xs ys ≡ unify_children g ts kd xs ys
  unfolding unify_children
  children_alike ts kd xs ys formed r ax ay e = go (eqb (length xs) (length ys)) refl (eqb kd kind_closure) refl
    where
      go : (b : Bool) → eqb (length xs) (length ys) ≡ b → (c : Bool) → eqb kd kind_closure ≡ c → unify_children f ts kd xs ys ≡ unify_children g ts kd xs ys
      go true p c q = rw (p, unify_children) (each_alike ts xs ys formed r ax ay e)
      go false p true q = rw (p, q, unify_children) (ap {B = Unified} (λ (m : Unified). (failure, m.1)) (each_alike ts (last_of xs) (last_of ys) formed r (last_in (length ts) xs ax) (last_in (length ts) ys ay) (λ θ sv. fuel_less k (length ts) θ _ _ (last-size θ xs) (e θ sv))))
      go false p false q = rw (p, q, unify_children)

  known_alike : (s : Words) (ts : Types) (inv : Bool) (kd d : ℕ) (xs : List Ty) (kd' d' : ℕ) (ys : List Ty) → WellFormed ts → Readable ts → AllIn (length ts) xs → AllIn (length ts) ys → Enough k ts xs → unify_known f s ts inv kd d xs kd' d' ys ≡ unify_known g s ts inv kd d xs kd' d' ys
  unfolding unify_known
  known_alike s ts inv kd d xs kd' d' ys formed r ax ay e = go (eqb kd kind_error || eqb kd' kind_error) refl (eqb kd kd' && eqb d d' && (not inv || kind_flag s row_may_meet kd d)) refl
    where
      go : (b : Bool) → (eqb kd kind_error || eqb kd' kind_error) ≡ b → (c : Bool) → (eqb kd kd' && eqb d d' && (not inv || kind_flag s row_may_meet kd d)) ≡ c → unify_known f s ts inv kd d xs kd' d' ys ≡ unify_known g s ts inv kd d xs kd' d' ys
      go true p c q = rw (p, unify_known)
      go false p true q = rw (p, q, unify_known) (children_alike ts kd xs (map (invert_if inv) ys) formed r ax (flip_in inv (length ts) ys ay) e)
      go false p false q = rw (p, q, unify_known)

  -- Two roots: their children are smaller.
  module _ (s : Words) (ts : Types) (x y : Ty) (formed : WellFormed ts) (readable : Readable ts) (hx : x.1 < length ts) (hy : y.1 < length ts) (rx : rep ts x.1 ≡ x.1) (ry : rep ts y.1 ≡ y.1) (e : Enough (suc k) ts (x ∷ [])) where
    states_alike : (u v : TypeState) → state_at ts x.1 ≡ u → state_at ts y.1 ≡ v → unify_states f s ts x y u v ≡ unify_states g s ts x y u v
    unfolding unify_states terms term_size
    states_alike unknown v eu ev = refl
    states_alike (known i kd d xs) unknown eu ev = refl
    states_alike (known i kd d xs) (known j kd' d' ys) eu ev = ap (λ (m : Unified). join_on_success m x y) (known_alike s ts (xor (xor i x.0) (xor j y.0)) kd d xs kd' d' ys formed readable (kids x.1 hx rx eu) (kids y.1 hy ry ev) (below_enough k ts x hx rx eu e))
      where
        kids : (r : ℕ) → r < length ts → rep ts r ≡ r → {i' : Bool} {k' c : ℕ} {cs : List Ty} → state_at ts r ≡ known i' k' c cs → AllIn (length ts) cs
        kids r h rr q = subst (ChildrenIn (length ts)) (ap (state_at ts) rr ∙ q) (formed r h).2

    roots_alike : unify_roots f s ts x y ≡ unify_roots g s ts x y
    unfolding unify_roots
    roots_alike = go (eqb x.1 y.1) refl
      where
        go : (b : Bool) → eqb x.1 y.1 ≡ b → unify_roots f s ts x y ≡ unify_roots g s ts x y
        go true q = rw (q, unify_roots)
        go false q = rw (q, unify_roots) (states_alike (state_at ts x.1) (state_at ts y.1) refl refl)

unify_in_alike : (k : ℕ) (s : Words) → Alike k (unify_in k s) (unify_in (suc k) s)
unfolding unify_in find invert_if rep terms term_size
unify_in_alike zero s ts a b formed r ha hb e = absurd (fuel_none (length ts) r.0 _ (e r.0 r.1.solves))
unify_in_alike (suc k) s ts a b formed r ha hb e =
    let ga = formed a.1 ha in
    let gb = formed b.1 hb in
    roots_alike k (λ us t u. unify_in k s us t u) (λ us t u. unify_in (suc k) s us t u) (unify_in_narrows k s) (unify_in_alike k s) s ts (find ts a) (find ts b) formed r ga.0 gb.0 ga.1 gb.1
    (root_enough (suc k) ts a ha e)

-- `unify` of types of a well-formed, acyclic table: more fuel than the table is long changes nothing.
pub unify_enough : (s : Words) (ts : Types) → WellFormed ts → Acyclic ts → (a b : Ty) → a.1 < length ts → b.1 < length ts → (m : ℕ) → unify_in (m + suc (length ts)) s ts a b ≡ unify s ts a b
unfolding unify
unify_enough s ts formed e a b ha hb = steady (λ k. unify_in k s ts a b) (suc (length ts)) (λ m. unify_in_alike (m + suc (length ts)) s ts a b formed (ranked_readable ts formed (rank ts) e) ha hb (λ θ sv. fuel_over _ (length ts) θ _ (omega arith)))

-- Two roots come to the same with any fuel that is enough.
module _ (s : Words) (ts : Types) (x y : Ty) (formed : WellFormed ts) (e : Acyclic ts) (hx : x.1 < length ts) (hy : y.1 < length ts) (rx : rep ts x.1 ≡ x.1) (ry : rep ts y.1 ≡ y.1) where
  roots_more : (k m : ℕ) → Enough (suc k) ts (x ∷ []) → unify_roots (unify_in (m + k) s) s ts x y ≡ unify_roots (unify_in k s) s ts x y
  roots_more k m f = steady (λ j. unify_roots (unify_in j s) s ts x y) k (λ i. roots_alike (i + k) (λ us t u. unify_in (i + k) s us t u) (λ us t u. unify_in (suc (i + k)) s us t u) (unify_in_narrows (i + k) s) (unify_in_alike (i + k) s) s ts x y formed (ranked_readable ts formed (rank ts) e) hx hy rx ry (more i)) m
    where
      more : (i : ℕ) → Enough (suc (i + k)) ts (x ∷ [])
      more i = subst (λ n. Enough n ts (x ∷ [])) (let q : i + suc k ≡ suc (i + k) = omega arith in q) (more_enough (suc k) ts (x ∷ []) i f)

  roots_up : (k k' : ℕ) → k ≤ k' → Enough (suc k) ts (x ∷ []) → unify_roots (unify_in k s) s ts x y ≡ unify_roots (unify_in k' s) s ts x y
  roots_up k k' l f = sym (roots_more k (k' - k) f) ∙ ap (λ n. unify_roots (unify_in n s) s ts x y) (let q : k' - k + k ≡ k' = omega arith in q)

  pub roots_any : (k k' : ℕ) → Enough (suc k) ts (x ∷ []) → Enough (suc k') ts (x ∷ []) → unify_roots (unify_in k s) s ts x y ≡ unify_roots (unify_in k' s) s ts x y
  roots_any k k' f f' = ⊎_elim (λ h. roots_up k k' (omega arith) f) (λ h. sym (roots_up k' k h f')) (lt_or k k')
