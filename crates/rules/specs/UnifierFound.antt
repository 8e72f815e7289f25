-- On upright, error-free tables `unify` finds every unifier: wherever a solution makes two types agree, they unify.
use Rattle.std.specs.Prelude.{ℕ, zero, suc, ◌+◌, ◌<◌, ◌≡◌, refl, true, not, ◌&&◌, ◌≢◌, ◌⊎◌, T, length}
use Rattle.std.proofs.Math.Path.{sym, ap₂}
use Rattle.std.proofs.Common.{◌∙◌, ap, subst, inl, inr, lt_irrefl, arith}
use Rattle.std.proofs.Math.Bool.{Bool, false, ◌||◌}
use mathlib.Core.List.{List, [], ◌∷◌, map}
use Rattle.std.proofs.Math.Decide.{ℕ_discrete}
use Rattle.std.proofs.Math.Dec.{eqb}
use Rattle.rules.specs.Lists.{Words}
use Rattle.rules.specs.Layout.{kind_error}
use Rattle.rules.specs.Sheet.{kind_flag, row_may_meet}
use Rattle.rules.specs.Types.{Ty, TypeState, unknown, known, Types, xor, invert_if, find, state_at, UnifyResult, success, failure, indeterminate, and, from_bool, Unified, unify_each, unify_children, unify_known, join_on_success, occurs_in, self_inverse, bind_unknown, unify_states, unify_roots, unify_in, unify}
use Rattle.rules.specs.Solutions.{Term, var, con, nil, cons, term_size, Sol, terms, rep, Fits, Solves, AllIn, ChildrenIn, WellFormed, eqb_true, eqb_false, Readable, Fuel, fuel_none, fuel_step, fuel_less, fuel_full}
use Rattle.rules.specs.UprightTables.{Upright, PlainState, UprightErrorFree, flip_upright, KeepsUpright, unify_in-upright}
use Rattle.rules.specs.MostGeneral.{Won, occurs-size, Right, headT, tailT, flip_in, flip_terms, unify_in_right}

not_T→false : (b : Bool) → ¬ T b → b ≡ false
not_T→false true h = absurd (h tt)
not_T→false false h = refl

bind_found : (ts : Types) (θ : Sol) (x y : Ty) → WellFormed ts → Solves ts θ → x.1 < length ts → y.1 < length ts → rep ts x.1 ≡ x.1 → rep ts y.1 ≡ y.1 → x.1 ≢ y.1 → θ x.1 ≡ θ y.1 → Won (bind_unknown ts x y).0
unfolding bind_unknown
bind_found ts θ x y formed sv hx hy rx ry ne e = rw (no_occurs, bind_unknown) tt
  where
    side : (v t : Ty) → t.1 < length ts → rep ts t.1 ≡ t.1 → t.1 ≢ v.1 → θ v.1 ≡ θ t.1 → occurs_in (suc (length ts)) ts v.1 t ≡ false
    side v t ht rt d q = not_T→false _ (λ o. no' (occurs-size (suc (length ts)) ts θ formed sv v.1 t ht o))
      where
        no' : (rep ts t.1 ≡ v.1) ⊎ (term_size (θ v.1) < term_size (θ t.1)) → ⊥
        no' (inl z) = d (sym rt ∙ z)
        no' (inr l) = lt_irrefl (term_size (θ t.1)) (subst (λ u. term_size u < term_size (θ t.1)) q l)

    no_occurs : (occurs_in (suc (length ts)) ts x.1 y || occurs_in (suc (length ts)) ts y.1 x) ≡ false
    no_occurs = ap₂ ◌||◌ (side x y hy ry (λ z. ne (sym z)) e) (side y x hx rx ne (sym e))

pub won_is : (v : UnifyResult) → Won v → v ≡ success
won_is success w = refl
won_is failure w = absurd w
won_is indeterminate w = absurd w

won_both : (v w : UnifyResult) → Won v → Won w → Won (and v w)
won_both success w a b = b
won_both failure w a b = a
won_both indeterminate w a b = absurd a

-- Two types unify wherever a solution makes them agree, and fuel n is enough for it.
abbrev Finds : (Types → Ty → Ty → Unified) → ℕ → ℕ → Sol → Type 0
Finds f n N θ = (ts : Types) (a b : Ty) → length ts ≡ N → WellFormed ts → UprightErrorFree ts → a.1 < N → b.1 < N → a.0 ≡ false → b.0 ≡ false → Solves ts θ → θ a.1 ≡ θ b.1 → Fuel n N θ (term_size (θ a.1)) → Readable ts → Won (f ts a b).0

-- What a term of each form has: how many there are in a list, the kind and the id of a type.
lenT : Term → ℕ
lenT (var n) = 0
lenT (con k d t) = 0
lenT nil = 0
lenT (cons t u) = suc (lenT u)

lenT_terms : (θ : Sol) (xs : List Ty) → lenT (terms θ xs) ≡ length xs
unfolding lenT terms
lenT_terms θ [] = refl
lenT_terms θ (x ∷ xs) = ap suc (lenT_terms θ xs)

kindT : Term → ℕ
kindT (var n) = 0
kindT (con k d t) = k
kindT nil = 0
kindT (cons t u) = 0

idT : Term → ℕ
idT (var n) = 0
idT (con k d t) = d
idT nil = 0
idT (cons t u) = 0

module _ (f : Types → Ty → Ty → Unified) (right : Right f) (n N : ℕ) (θ : Sol) (kept : KeepsUpright f) (found : Finds f n N θ) where
  each_found : (ts : Types) (xs ys : List Ty) → length ts ≡ N → WellFormed ts → UprightErrorFree ts → AllIn N xs → AllIn N ys → Upright xs → Upright ys → Solves ts θ → terms θ xs ≡ terms θ ys → Fuel n N θ (term_size (terms θ xs)) → Readable ts → Won (unify_each f ts xs ys).0
  unfolding unify_each terms headT tailT term_size
  each_found ts [] ys len formed plain ax ay ux uy sv e fu fr = tt
  each_found ts (x ∷ xs) [] len formed plain ax ay ux uy sv e fu fr = tt
  each_found ts (x ∷ xs) (y ∷ ys) len formed plain ax ay ux uy sv e fu fr =
      let p = found ts x y len formed plain ax.0 ay.0 ux.0 uy.0 sv (ap headT e) (fuel_less n N θ (term_size (θ x.1) + term_size (terms θ xs)) (term_size (θ x.1)) (omega arith) fu) fr in
      let ak = right ts x y formed (rw len ax.0) (rw len ay.0) fr p in
      let a = ak.0 in
      let q = each_found (f ts x y).1 xs ys (a.len ∙ len) a.formed (kept ts x y formed fr plain (rw len ax.0) (rw len ay.0) ux.0 uy.0) ax.1 ay.1 ux.1 uy.1 (a.into θ sv (ap headT e)) (ap tailT e) (fuel_less n N θ (term_size (θ x.1) + term_size (terms θ xs)) (term_size (terms θ xs)) (omega arith) fu) ak.1 in
      won_both (f ts x y).0 (unify_each f (f ts x y).1 xs ys).0 p q

  map_len : (inv : Bool) (ys : List Ty) → length (map (invert_if inv) ys) ≡ length ys
  map_len inv [] = refl
  map_len inv (y ∷ ys) = ap suc (map_len inv ys)

  known_found : (s : Words) (ts : Types) (inv : Bool) (k d : ℕ) (xs : List Ty) (k' d' : ℕ) (ys : List Ty) → length ts ≡ N → WellFormed ts → UprightErrorFree ts → AllIn N xs → AllIn N ys → Upright xs → Upright ys → Solves ts θ → inv ≡ false → k ≢ kind_error → k' ≢ kind_error → con k d (terms θ xs) ≡ con k' d' (terms θ ys) → Fuel n N θ (term_size (terms θ xs)) → Readable ts → Won (unify_known f s ts inv k d xs k' d' ys).0
  unfolding unify_known unify_children tailT kindT idT
  known_found s ts inv k d xs k' d' ys len formed plain ax ay ux uy sv iv nk nk' e fu fr = rw (no_error, fit, lens, unify_known, unify_children) (each_found ts xs (map (invert_if inv) ys) len formed plain ax (flip_in inv N ys ay) ux (flip_upright inv iv ys uy) sv (ap tailT e ∙ sym (flip_terms inv θ ys)) fu fr)
    where
      no_error : (eqb k kind_error || eqb k' kind_error) ≡ false
      no_error = ap₂ ◌||◌ (eqb_false k kind_error nk) (eqb_false k' kind_error nk')

      fit : (eqb k k' && eqb d d' && (not inv || kind_flag s row_may_meet k d)) ≡ true
      fit = λ t. (eqb_true k k' (ap kindT e) t) && (eqb_true d d' (ap idT e) t) && (not (iv t) || kind_flag s row_may_meet k d)

      lens : eqb (length xs) (length (map (invert_if inv) ys)) ≡ true
      lens = eqb_true _ _ (sym (lenT_terms θ xs) ∙ ap lenT (ap tailT e) ∙ lenT_terms θ ys ∙ sym (map_len inv ys))

  states_found : (s : Words) (ts : Types) (x y : Ty) → length ts ≡ N → WellFormed ts → UprightErrorFree ts → x.1 < length ts → y.1 < length ts → rep ts x.1 ≡ x.1 → rep ts y.1 ≡ y.1 → x.1 ≢ y.1 → x.0 ≡ false → y.0 ≡ false → Solves ts θ → θ x.1 ≡ θ y.1 → Fuel (suc n) N θ (term_size (θ x.1)) → Readable ts → (u v : TypeState) → state_at ts x.1 ≡ u → state_at ts y.1 ≡ v → Won (unify_states f s ts x y u v).0
  unfolding unify_states tailT term_size join_on_success
  states_found s ts x y len formed plain hx hy rx ry ne x₀ y₀ sv e fu fr unknown v eu ev = bind_found ts θ x y formed sv hx hy rx ry ne e
  states_found s ts x y len formed plain hx hy rx ry ne x₀ y₀ sv e fu fr (known i k d xs) unknown eu ev = bind_found ts θ x y formed sv hx hy rx ry ne e
  states_found s ts x y len formed plain hx hy rx ry ne x₀ y₀ sv e fu fr (known i k d xs) (known j k' d' ys) eu ev = joined m fm
    where
      inv : Bool
      inv = xor (xor i x.0) (xor j y.0)

      m : Unified
      m = unify_known f s ts inv k d xs k' d' ys

      fit : (r : ℕ) → r < length ts → rep ts r ≡ r → (st : TypeState) → state_at ts r ≡ st → Fits θ r st
      fit r h rr st q = subst (Fits θ r) q (subst (λ z. Fits θ z (state_at ts z)) rr (sv r h).1)

      children : (r : ℕ) (st : TypeState) → r < length ts → rep ts r ≡ r → state_at ts r ≡ st → ChildrenIn (length ts) st
      children r st h rr q = subst (ChildrenIn (length ts)) (ap (state_at ts) rr ∙ q) (formed r h).2

      fx : θ x.1 ≡ con k d (terms θ xs)
      fx = fit x.1 hx rx (known i k d xs) eu

      fy : θ y.1 ≡ con k' d' (terms θ ys)
      fy = fit y.1 hy ry (known j k' d' ys) ev

      ax : AllIn (length ts) xs
      ax = children x.1 (known i k d xs) hx rx eu

      ay : AllIn (length ts) ys
      ay = children y.1 (known j k' d' ys) hy ry ev

      px : PlainState (known i k d xs)
      px = subst PlainState eu (plain x.1 hx).1

      py : PlainState (known j k' d' ys)
      py = subst PlainState ev (plain y.1 hy).1

      cons_eq : con k d (terms θ xs) ≡ con k' d' (terms θ ys)
      cons_eq = sym fx ∙ e ∙ fy

      less : term_size (terms θ xs) < term_size (θ x.1)
      less = omega (arith, ap term_size fx)

      fm : Won m.0
      fm =
          known_found s ts inv k d xs k' d' ys len formed plain (subst (λ M. AllIn M xs) len ax) (subst (λ M. AllIn M ys) len ay) px.2 py.2 sv (ap₂ xor (ap₂ xor px.0 x₀) (ap₂ xor py.0 y₀)) px.1 py.1 cons_eq
          (fuel_step n N θ (term_size (θ x.1)) (term_size (terms θ xs)) x.1 (subst (λ M. x.1 < M) len hx) refl less fu) fr

      joined : (w : Unified) → Won w.0 → Won (join_on_success w x y).0
      joined w h = rw (won_is w.0 h, join_on_success) tt

  roots_found : (s : Words) (ts : Types) (x y : Ty) → length ts ≡ N → WellFormed ts → UprightErrorFree ts → x.1 < length ts → y.1 < length ts → rep ts x.1 ≡ x.1 → rep ts y.1 ≡ y.1 → x.0 ≡ false → y.0 ≡ false → Solves ts θ → θ x.1 ≡ θ y.1 → Fuel (suc n) N θ (term_size (θ x.1)) → Readable ts → Won (unify_roots f s ts x y).0
  unfolding unify_roots
  roots_found s ts x y len formed plain hx hy rx ry x₀ y₀ sv e fu fr = go (ℕ_discrete x.1 y.1)
    where
      upright : Won (from_bool (not (xor x.0 y.0) || self_inverse s ts x))
      upright = rw (x₀, y₀) (unfold from_bool in tt)

      go : Dec (x.1 ≡ y.1) → Won (unify_roots f s ts x y).0
      go (yes q) = rw (eqb_true x.1 y.1 q, unify_roots) upright
      go (no d) = rw (eqb_false x.1 y.1 d, unify_roots) (states_found s ts x y len formed plain hx hy rx ry d x₀ y₀ sv e fu fr (state_at ts x.1) (state_at ts y.1) refl refl)

unify_in-found : (n : ℕ) (s : Words) (N : ℕ) (θ : Sol) → Finds (unify_in n s) n N θ
unfolding unify_in find invert_if rep
unify_in-found zero s N θ ts a b len formed plain ha hb a₀ b₀ sv e fu fr = absurd (fuel_none N θ (term_size (θ a.1)) fu)
unify_in-found (suc n) s N θ ts a b len formed plain ha hb a₀ b₀ sv e fu fr =
    let ha' : a.1 < length ts = rw len ha in
    let hb' : b.1 < length ts = rw len hb in
    let ga = formed a.1 ha' in
    let gb = formed b.1 hb' in
    roots_found (λ us t u. unify_in n s us t u) (unify_in_right n s) n N θ (unify_in-upright n s) (unify_in-found n s N θ) s ts (find ts a) (find ts b) len formed plain ga.0 gb.0 ga.1 gb.1
    (ap₂ xor a₀ (plain a.1 ha').0) (ap₂ xor b₀ (plain b.1 hb').0) sv (sym (sv a.1 ha').0 ∙ e ∙ (sv b.1 hb').0)
    (subst (λ u. Fuel (suc n) N θ (term_size u)) (sv a.1 ha').0 fu) fr

-- On upright, error-free types: wherever a solution makes the two agree, they unify.
pub unify-found : (s : Words) (ts : Types) (a b : Ty) → WellFormed ts → UprightErrorFree ts → a.1 < length ts → b.1 < length ts → a.0 ≡ false → b.0 ≡ false → Readable ts → (θ : Sol) → Solves ts θ → θ a.1 ≡ θ b.1 → (unify s ts a b).0 ≡ success
unfolding unify
unify-found s ts a b formed plain ha hb a₀ b₀ fr θ sv e = won_is _ (unify_in-found (suc (length ts)) s (length ts) θ ts a b refl formed plain ha hb a₀ b₀ sv e (fuel_full (length ts) θ (term_size (θ a.1))) fr)
