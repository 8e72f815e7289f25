-- A success of `unify`, layer by layer: the table that it leaves has the old solutions at which the two types agree, and can still be read with its unknowns free. It holds for all types, inverted and Error too.
use Prim.Native.Nat.{ℕ, zero, suc, ◌≤◌, ◌<◌}
use Rattle.std.specs.Prelude.{◌≡◌, Bool, not, ◌&&◌, ◌||◌, ◌≢◌, ◌⊎◌, T, eqb, length}
use Rattle.std.proofs.Math.Path.{refl, ap}
use Rattle.std.proofs.Common.{sym, ◌∙◌, subst, true≢false, inl, inr, arith, eqb→eq}
use Rattle.std.proofs.Math.Bool.{true, false}
use mathlib.Core.List.{List, [], ◌∷◌, map}
use Rattle.std.proofs.Math.Decide.{ℕ_discrete}
use Rattle.rules.specs.Lists.{Words, any}
use Rattle.rules.specs.Layout.{kind_closure, kind_error}
use Rattle.rules.specs.Sheet.{kind_flag, row_may_meet}
use Rattle.rules.specs.Types.{Ty, TypeState, unknown, known, Types, xor, invert_if, find, state_at, UnifyResult, success, failure, indeterminate, and, join, Unified, unify_each, unify_children, unify_known, join_on_success, occurs_in, bind_unknown, unify_states, unify_roots, unify_in}
use Rattle.rules.specs.Solutions.{Term, var, con, nil, cons, term_size, Sol, terms, rep, Fits, Solves, AllIn, ChildrenIn, WellFormed, eqb_true, eqb_false, known≢, Free, Readable, Fuel, fuel_none, fuel_step, fuel_full}
use Rattle.rules.specs.Joining.{After, SameAll, same-terms, Mates, free-left, free_right, alike, join_mates, NotIn, join_keep}

-- The verdict is success.
abbrev pub Won : UnifyResult → Type 0
Won success = Unit {0}
Won failure = ⊥
Won indeterminate = ⊥

pub both_won : (v w : UnifyResult) → Won (and v w) → Won v × Won w
both_won success w h = (tt, h)
both_won failure w h = absurd h
both_won indeterminate success h = absurd h
both_won indeterminate failure h = absurd h
both_won indeterminate indeterminate h = absurd h

-- What `occurs` finds is the type itself, or smaller than it in every solution.
any_found : (θ : Sol) (N : ℕ) (f : Ty → Bool) (cs : List Ty) → AllIn N cs → T (any f cs) → (c : Ty) × (c.1 < N) × T (f c) × (term_size (θ c.1) ≤ term_size (terms θ cs))
unfolding any terms term_size
any_found θ N f [] a t = absurd t
any_found θ N f (c ∷ cs) a t = go (f c) refl t (any_found θ N f cs a.1)
  where
    go : (b : Bool) → f c ≡ b → T (any f (c ∷ cs)) → (T (any f cs) → (e : Ty) × (e.1 < N) × T (f e) × (term_size (θ e.1) ≤ term_size (terms θ cs))) → (e : Ty) × (e.1 < N) × T (f e) × (term_size (θ e.1) ≤ term_size (terms θ (c ∷ cs)))
    go true e u ih = (c, a.0, subst T (sym e) tt, omega arith)
    go false e u ih = let r = ih (rw (e, any) at u) in (r.0, r.1, r.2, omega (arith, r.3))

pub occurs-size : (k : ℕ) (ts : Types) (θ : Sol) → WellFormed ts → Solves ts θ → (v : ℕ) (t : Ty) → t.1 < length ts → T (occurs_in k ts v t) → (rep ts t.1 ≡ v) ⊎ (term_size (θ v) < term_size (θ t.1))
unfolding occurs_in find invert_if rep term_size
occurs-size zero ts θ formed sv v t h o = absurd o
occurs-size (suc k) ts θ formed sv v t h o = go (eqb (rep ts t.1) v) refl (state_at ts (rep ts t.1)) refl o (occurs-size k ts θ formed sv v)
  where
    go : (b : Bool) → eqb (rep ts t.1) v ≡ b → (st : TypeState) → state_at ts (rep ts t.1) ≡ st → T (occurs_in (suc k) ts v t) → ((c : Ty) → c.1 < length ts → T (occurs_in k ts v c) → (rep ts c.1 ≡ v) ⊎ (term_size (θ v) < term_size (θ c.1))) → (rep ts t.1 ≡ v) ⊎ (term_size (θ v) < term_size (θ t.1))
    go true e st f u ih = inl (eqb→eq (rep ts t.1) v (subst T (sym e) tt))
    go false e unknown f u ih = absurd (rw (e, f, occurs_in) at u)
    go false e (known i kd d cs) f u ih = inr (small (ih r.0 r.1 r.2))
      where
        r : (c : Ty) × (c.1 < length ts) × T (occurs_in k ts v c) × (term_size (θ c.1) ≤ term_size (terms θ cs))
        r = any_found θ (length ts) (occurs_in k ts v) cs (subst (ChildrenIn (length ts)) f (formed t.1 h).2) (rw (e, f, occurs_in) at u)

        whole : term_size (θ t.1) ≡ suc (term_size (terms θ cs))
        whole = ap term_size ((sv t.1 h).0 ∙ subst (Fits θ (rep ts t.1)) f (sv t.1 h).1)

        small : (rep ts r.0.1 ≡ v) ⊎ (term_size (θ v) < term_size (θ r.0.1)) → term_size (θ v) < term_size (θ t.1)
        small (inl q) = omega (arith, whole, r.3, ap term_size ((sv r.0.1 r.1).0 ∙ ap θ q))
        small (inr l) = omega (arith, whole, r.3)

module _ (ts : Types) (formed : WellFormed ts) (σ : Sol) (free : Free ts σ) where
  -- What does not occur is not in the term.
  none-terms : (v : ℕ) (f : Ty → Bool) (cs : List Ty) → AllIn (length ts) cs → ((c : Ty) → c.1 < length ts → term_size (σ c.1) ≤ term_size (terms σ cs) → f c ≡ false → NotIn v (σ c.1)) → any f cs ≡ false → NotIn v (terms σ cs)
  unfolding any terms term_size
  none-terms v f [] a h e = tt
  none-terms v f (c ∷ cs) a h e = go (f c) refl e (none-terms v f cs a.1 (λ c' hc l. h c' hc (omega arith)))
    where
      go : (b : Bool) → f c ≡ b → any f (c ∷ cs) ≡ false → (any f cs ≡ false → NotIn v (terms σ cs)) → NotIn v (terms σ (c ∷ cs))
      go true q z ih = absurd (true≢false (rw (q, any) at z))
      go false q z ih = (h c a.0 (omega arith) q, ih (rw (q, any) at z))

  not_in : (k : ℕ) (v : ℕ) (t : Ty) → t.1 < length ts → Fuel k (length ts) σ (term_size (σ t.1)) → occurs_in k ts v t ≡ false → NotIn v (σ t.1)
  unfolding occurs_in find invert_if rep term_size
  not_in zero v t h fu e = absurd (fuel_none (length ts) σ (term_size (σ t.1)) fu)
  not_in (suc k) v t h fu e = go (eqb (rep ts t.1) v) refl (state_at ts (rep ts t.1)) refl e (not_in k v)
    where
      at_root : σ t.1 ≡ σ (rep ts t.1)
      at_root = (free.solves t.1 h).0

      go : (b : Bool) → eqb (rep ts t.1) v ≡ b → (st : TypeState) → state_at ts (rep ts t.1) ≡ st → occurs_in (suc k) ts v t ≡ false → ((c : Ty) → c.1 < length ts → Fuel k (length ts) σ (term_size (σ c.1)) → occurs_in k ts v c ≡ false → NotIn v (σ c.1)) → NotIn v (σ t.1)
      go true q st f z ih = absurd (true≢false (rw (q, occurs_in) at z))
      go false q unknown f z ih = subst (NotIn v) (sym (at_root ∙ free.vars (rep ts t.1) (formed t.1 h).0 (formed t.1 h).1 f)) (λ r. true≢false (sym (eqb_true (rep ts t.1) v r) ∙ q))
      go false q (known i kd d cs) f z ih = subst (NotIn v) (sym whole) (none-terms v (occurs_in k ts v) cs (subst (ChildrenIn (length ts)) f (formed t.1 h).2) kid (rw (q, f, occurs_in) at z))
        where
          whole : σ t.1 ≡ con kd d (terms σ cs)
          whole = at_root ∙ subst (Fits σ (rep ts t.1)) f (free.solves t.1 h).1

          kid : (c : Ty) → c.1 < length ts → term_size (σ c.1) ≤ term_size (terms σ cs) → occurs_in k ts v c ≡ false → NotIn v (σ c.1)
          kid c hc l o = ih c hc (fuel_step k (length ts) σ (term_size (σ t.1)) (term_size (σ c.1)) (rep ts t.1) (formed t.1 h).0 (ap term_size (sym at_root)) (omega (arith, ap term_size whole)) fu) o

  bind_keep : (x y : Ty) → x.1 < length ts → y.1 < length ts → rep ts x.1 ≡ x.1 → rep ts y.1 ≡ y.1 → x.1 ≢ y.1 → Mates ts x.1 y.1 → Won (bind_unknown ts x y).0 → (σ' : Sol) × Free (bind_unknown ts x y).1 σ'
  unfolding bind_unknown
  bind_keep x y hx hy rx ry ne m w = go (occurs_in (suc (length ts)) ts x.1 y) refl (occurs_in (suc (length ts)) ts y.1 x) refl w
    where
      full : (t : Ty) → Fuel (suc (length ts)) (length ts) σ (term_size (σ t.1))
      full t = fuel_full (length ts) σ (term_size (σ t.1))

      go : (b : Bool) → occurs_in (suc (length ts)) ts x.1 y ≡ b → (c : Bool) → occurs_in (suc (length ts)) ts y.1 x ≡ c → Won (bind_unknown ts x y).0 → (σ' : Sol) × Free (bind_unknown ts x y).1 σ'
      go true p c q v = absurd (rw (p, bind_unknown) at v)
      go false p true q v = absurd (rw (p, q, bind_unknown) at v)
      go false p false q v = rw (p, q, bind_unknown) (join_keep ts formed σ free x y hx hy rx ry ne m (λ u. not_in (suc (length ts)) x.1 y hy (full y) p) (λ u. not_in (suc (length ts)) y.1 x hx (full x) q))

-- A way to meet two types that is right wherever it succeeds.
abbrev pub Right : (Types → Ty → Ty → Unified) → Type 0
Right f = (ts : Types) (a b : Ty) → WellFormed ts → a.1 < length ts → b.1 < length ts → Readable ts → Won (f ts a b).0 → After ts a.1 b.1 (f ts a b).1 × Readable (f ts a b).1

-- The same of lists of types.
pub record AfterAll (ts : Types) (xs ys : List Ty) (us : Types) : Type 0 where
  pub len : length us ≡ length ts
  pub formed : WellFormed us
  pub same : (u v : ℕ) → u < length ts → v < length ts → rep ts u ≡ rep ts v → rep us u ≡ rep us v
  pub meet : SameAll us xs ys
  pub fewer : (r : ℕ) → r < length ts → rep us r ≡ r → rep ts r ≡ r
  pub kept : (r : ℕ) → r < length ts → rep ts r ≡ r → rep us r ≡ r → (state_at ts r ≡ unknown → ⊥) → state_at us r ≡ state_at ts r
  pub quiet : (θ : Sol) → Solves us θ → (r : ℕ) → r < length ts → rep ts r ≡ r → term_size (terms θ xs) < term_size (θ r) → rep us r ≡ r
  pub out : (θ : Sol) → Solves us θ → Solves ts θ
  pub into : (θ : Sol) → Solves ts θ → terms θ xs ≡ terms θ ys → Solves us θ

-- The first of a list; the rest of it, or the children of a type.
unfoldable pub headT : Term → Term
headT (var n) = nil
headT (con k d t) = nil
headT nil = nil
headT (cons t u) = t

unfoldable pub tailT : Term → Term
tailT (var n) = nil
tailT (con k d t) = t
tailT nil = nil
tailT (cons t u) = u

suc_inj : {m n : ℕ} → suc m ≡ suc n → m ≡ n
suc_inj e = omega arith

pub each_right : (f : Types → Ty → Ty → Unified) → Right f → (ts : Types) (xs ys : List Ty) → WellFormed ts → AllIn (length ts) xs → AllIn (length ts) ys → length xs ≡ length ys → Readable ts → Won (unify_each f ts xs ys).0 → AfterAll ts xs ys (unify_each f ts xs ys).1 × Readable (unify_each f ts xs ys).1
unfolding unify_each terms headT tailT term_size
each_right f right ts [] [] formed ax ay l fr w = (record { len = refl; formed = formed; same = λ u v hu hv e. e; meet = tt; fewer = λ r h e. e; kept = λ r h a b k. refl; quiet = λ θ s r h rr l. rr; out = λ θ s. s; into = λ θ s e. s }, fr)
each_right f right ts [] (y ∷ ys) formed ax ay l fr w = absurd (omega arith)
each_right f right ts (x ∷ xs) [] formed ax ay l fr w = absurd (omega arith)
each_right f right ts (x ∷ xs) (y ∷ ys) formed ax ay l fr w =
    let m = f ts x y in
    let won = both_won m.0 (unify_each f m.1 xs ys).0 w in
    let pk = right ts x y formed ax.0 ay.0 fr won.0 in
    let p = pk.0 in
    let len : length ts ≡ length m.1 = sym p.len in
    let qk = each_right f right m.1 xs ys p.formed (subst (λ N. AllIn N xs) len ax.1) (subst (λ N. AllIn N ys) len ay.1) (suc_inj l) pk.1 won.1 in
    let q = qk.0 in
    let up : (n : ℕ) → n < length ts → n < length m.1 = λ n h. subst (λ N. n < N) len h in (
      record {
        len = q.len ∙ p.len;
        formed = q.formed;
        same = λ u v hu hv e. q.same u v (up u hu) (up v hv) (p.same u v hu hv e);
        meet = (q.same x.1 y.1 (up x.1 ax.0) (up y.1 ay.0) p.meet, q.meet);
        fewer = λ r h e. p.fewer r h (q.fewer r (up r h) e);
        kept = λ r h a b k.
            let e = p.kept r h a (q.fewer r (up r h) b) k in
            q.kept r (up r h) (q.fewer r (up r h) b) b (λ z. k (sym e ∙ z)) ∙ e;
        quiet = λ θ s r h rr l. q.quiet θ s r (up r h) (p.quiet θ (q.out θ s) r h rr (omega arith)) (omega arith);
        out = λ θ s. p.out θ (q.out θ s);
        into = λ θ s e. q.into θ (p.into θ s (ap headT e)) (ap tailT e);
      },
      qk.1,
    )

children_right : (f : Types → Ty → Ty → Unified) → Right f → (ts : Types) (k : ℕ) (xs ys : List Ty) → WellFormed ts → AllIn (length ts) xs → AllIn (length ts) ys → Readable ts → Won (unify_children f ts k xs ys).0 → AfterAll ts xs ys (unify_children f ts k xs ys).1 × Readable (unify_children f ts k xs ys).1
unfolding unify_children
children_right f right ts k xs ys formed ax ay fr w = go (eqb (length xs) (length ys)) refl (eqb k kind_closure) refl w
  where
    go : (b : Bool) → eqb (length xs) (length ys) ≡ b → (c : Bool) → eqb k kind_closure ≡ c → Won (unify_children f ts k xs ys).0 → AfterAll ts xs ys (unify_children f ts k xs ys).1 × Readable (unify_children f ts k xs ys).1
    go true e c e' v = rw (e, unify_children) (each_right f right ts xs ys formed ax ay (eqb→eq (length xs) (length ys) (subst T (sym e) tt)) fr (rw (e, unify_children) at v))
    go false e true e' v = absurd (rw (e, e', unify_children) at v)
    go false e false e' v = absurd (rw (e, e', unify_children) at v)

module _ (inv : Bool) where
  -- Inverting types changes no node.
  pub flip_in : (N : ℕ) (ys : List Ty) → AllIn N ys → AllIn N (map (invert_if inv) ys)
  unfolding invert_if
  flip_in N [] a = tt
  flip_in N (y ∷ ys) a = (a.0, flip_in N ys a.1)

  pub flip_terms : (θ : Sol) (ys : List Ty) → terms θ (map (invert_if inv) ys) ≡ terms θ ys
  unfolding invert_if terms
  flip_terms θ [] = refl
  flip_terms θ (y ∷ ys) = ap (cons (θ y.1)) (flip_terms θ ys)

  flip_same : (ts : Types) (xs ys : List Ty) → SameAll ts xs (map (invert_if inv) ys) → SameAll ts xs ys
  unfolding invert_if
  flip_same ts [] [] e = tt
  flip_same ts [] (y ∷ ys) e = absurd e
  flip_same ts (x ∷ xs) [] e = absurd e
  flip_same ts (x ∷ xs) (y ∷ ys) e = (e.0, flip_same ts xs ys e.1)

pub and_true : (a b : Bool) → T (a && b) → T a × T b
and_true true b h = (tt, h)
and_true false b h = absurd h

-- Two known types: of one kind and id.
pub known_right : (f : Types → Ty → Ty → Unified) → Right f → (s : Words) (ts : Types) (inv : Bool) (k d : ℕ) (xs : List Ty) (k' d' : ℕ) (ys : List Ty) → WellFormed ts → AllIn (length ts) xs → AllIn (length ts) ys → Readable ts → Won (unify_known f s ts inv k d xs k' d' ys).0 → (k ≡ k') × (d ≡ d') × AfterAll ts xs ys (unify_known f s ts inv k d xs k' d' ys).1 × Readable (unify_known f s ts inv k d xs k' d' ys).1
unfolding unify_known
known_right f right s ts inv k d xs k' d' ys formed ax ay fr w = go (eqb k kind_error || eqb k' kind_error) refl (eqb k k' && eqb d d' && (not inv || kind_flag s row_may_meet k d)) refl w
  where
    go : (b : Bool) → (eqb k kind_error || eqb k' kind_error) ≡ b → (c : Bool) → (eqb k k' && eqb d d' && (not inv || kind_flag s row_may_meet k d)) ≡ c → Won (unify_known f s ts inv k d xs k' d' ys).0 → (k ≡ k') × (d ≡ d') × AfterAll ts xs ys (unify_known f s ts inv k d xs k' d' ys).1 × Readable (unify_known f s ts inv k d xs k' d' ys).1
    go true e c e' v = absurd (rw (e, unify_known) at v)
    go false e false e' v = absurd (rw (e, e', unify_known) at v)
    go false e true e' v =
        let pk = children_right f right ts k xs (map (invert_if inv) ys) formed ax (flip_in inv (length ts) ys ay) fr (rw (e, e', unify_known) at v) in
        let p = pk.0 in
        let kd = and_true (eqb k k' && eqb d d') (not inv || kind_flag s row_may_meet k d) (subst T (sym e') tt) in
        let kd' = and_true (eqb k k') (eqb d d') kd.0 in (
          eqb→eq k k' kd'.0,
          eqb→eq d d' kd'.1,
          rw (e, e', unify_known) (record { len = p.len; formed = p.formed; same = p.same; meet = flip_same inv _ xs ys p.meet; fewer = p.fewer; kept = p.kept; quiet = p.quiet; out = p.out; into = λ θ sv q. p.into θ sv (q ∙ sym (flip_terms inv θ ys)) }),
          rw (e, e', unify_known) pk.1,
        )

pub join_won : (m : Unified) (x y : Ty) → Won (join_on_success m x y).0 → Won m.0 × ((join_on_success m x y).1 ≡ join m.1 x y)
unfolding join_on_success
join_won m x y w = go m.0 refl w
  where
    go : (v : UnifyResult) → m.0 ≡ v → Won (join_on_success m x y).0 → Won m.0 × ((join_on_success m x y).1 ≡ join m.1 x y)
    go success e h = (subst Won (sym e) tt, rw (e, join_on_success))
    go failure e h = absurd (subst Won e (rw (e, join_on_success) at h))
    go indeterminate e h = absurd (subst Won e (rw (e, join_on_success) at h))

-- An unknown and another root.
pub bind_right : (ts : Types) (x y : Ty) → WellFormed ts → x.1 < length ts → y.1 < length ts → rep ts x.1 ≡ x.1 → rep ts y.1 ≡ y.1 → x.1 ≢ y.1 → Mates ts x.1 y.1 → Won (bind_unknown ts x y).0 → After ts x.1 y.1 (bind_unknown ts x y).1
unfolding bind_unknown
bind_right ts x y formed hx hy rx ry ne m w = go (occurs_in (suc (length ts)) ts x.1 y || occurs_in (suc (length ts)) ts y.1 x) refl w
  where
    go : (b : Bool) → (occurs_in (suc (length ts)) ts x.1 y || occurs_in (suc (length ts)) ts y.1 x) ≡ b → Won (bind_unknown ts x y).0 → After ts x.1 y.1 (bind_unknown ts x y).1
    go true e h = absurd (rw (e, bind_unknown) at h)
    go false e h = rw (e, bind_unknown) (join_mates ts formed x y hx hy rx ry ne m)

-- Two different roots, by what they are.
pub states_right : (f : Types → Ty → Ty → Unified) → Right f → (s : Words) (ts : Types) (x y : Ty) → WellFormed ts → x.1 < length ts → y.1 < length ts → rep ts x.1 ≡ x.1 → rep ts y.1 ≡ y.1 → x.1 ≢ y.1 → (u v : TypeState) → state_at ts x.1 ≡ u → state_at ts y.1 ≡ v → Readable ts → Won (unify_states f s ts x y u v).0 → After ts x.1 y.1 (unify_states f s ts x y u v).1 × Readable (unify_states f s ts x y u v).1
unfolding unify_states tailT term_size
states_right f right s ts x y formed hx hy rx ry ne unknown v eu ev fr w = (bind_right ts x y formed hx hy rx ry ne (free-left eu) w, bind_keep ts formed fr.0 fr.1 x y hx hy rx ry ne (free-left eu) w)
states_right f right s ts x y formed hx hy rx ry ne (known i k d xs) unknown eu ev fr w = (bind_right ts x y formed hx hy rx ry ne (free_right ev) w, bind_keep ts formed fr.0 fr.1 x y hx hy rx ry ne (free_right ev) w)
states_right f right s ts x y formed hx hy rx ry ne (known i k d xs) (known j k' d' ys) eu ev fr w =
    subst (λ t. After ts x.1 y.1 t × Readable t) (sym jw.1) (whole, join_keep us q.formed σ₁ p.3.1 x y (up x.1 hx) (up y.1 hy) rx' ry' ne mates (λ z. absurd (known≢ (sym sx ∙ z))) (λ z. absurd (known≢ (sym sy ∙ z))))
  where
    children : (r : ℕ) (st : TypeState) → r < length ts → rep ts r ≡ r → state_at ts r ≡ st → ChildrenIn (length ts) st
    children r st h rr e = subst (ChildrenIn (length ts)) (ap (state_at ts) rr ∙ e) (formed r h).2

    m : Unified
    m = unify_known f s ts (xor (xor i x.0) (xor j y.0)) k d xs k' d' ys

    us : Types
    us = m.1

    jw : Won m.0 × ((join_on_success m x y).1 ≡ join m.1 x y)
    jw = join_won m x y w

    ax : AllIn (length ts) xs
    ax = children x.1 (known i k d xs) hx rx eu

    ay : AllIn (length ts) ys
    ay = children y.1 (known j k' d' ys) hy ry ev

    p : (k ≡ k') × (d ≡ d') × AfterAll ts xs ys us × Readable us
    p = known_right f right s ts (xor (xor i x.0) (xor j y.0)) k d xs k' d' ys formed ax ay fr jw.0

    q : AfterAll ts xs ys us
    q = p.2

    σ₁ : Sol
    σ₁ = p.3.0

    s₁ : Solves us σ₁
    s₁ = p.3.1.solves

    up : (n : ℕ) → n < length ts → n < length us
    up n h = subst (λ N. n < N) (sym q.len) h

    axu : AllIn (length us) xs
    axu = subst (λ N. AllIn N xs) (sym q.len) ax

    ayu : AllIn (length us) ys
    ayu = subst (λ N. AllIn N ys) (sym q.len) ay

    fit : (θ : Sol) → Solves ts θ → (r : ℕ) → r < length ts → rep ts r ≡ r → (st : TypeState) → state_at ts r ≡ st → Fits θ r st
    fit θ sv r h rr st e = subst (Fits θ r) e (subst (λ n. Fits θ n (state_at ts n)) rr (sv r h).1)

    -- Both are roots still: what the children touched is smaller, in a solution of what they left.
    rx' : rep us x.1 ≡ x.1
    rx' = q.quiet σ₁ s₁ x.1 hx rx (omega (arith, ap term_size (fit σ₁ (q.out σ₁ s₁) x.1 hx rx (known i k d xs) eu)))

    ry' : rep us y.1 ≡ y.1
    ry' = q.quiet σ₁ s₁ y.1 hy ry (omega (arith, ap term_size (fit σ₁ (q.out σ₁ s₁) y.1 hy ry (known j k' d' ys) ev), ap term_size (same-terms us σ₁ s₁ xs ys axu ayu q.meet)))

    sx : state_at us x.1 ≡ known i k d xs
    sx = q.kept x.1 hx rx rx' (λ z. known≢ (sym eu ∙ z)) ∙ eu

    sy : state_at us y.1 ≡ known j k d ys
    sy = q.kept y.1 hy ry ry' (λ z. known≢ (sym ev ∙ z)) ∙ ev ∙ λ t. known j (sym p.0 t) (sym p.1 t) ys

    mates : Mates us x.1 y.1
    mates = alike i j k d xs ys sx sy axu ayu q.meet

    whole : After ts x.1 y.1 (join us x y)
    whole =
        let r = join_mates us q.formed x y (up x.1 hx) (up y.1 hy) rx' ry' ne mates in
        record {
          len = r.len ∙ q.len;
          formed = r.formed;
          same = λ a b ha hb e. r.same a b (up a ha) (up b hb) (q.same a b ha hb e);
          meet = r.meet;
          fewer = λ n h e. q.fewer n h (r.fewer n (up n h) e);
          kept = λ n h a b kn.
              let e = q.kept n h a (r.fewer n (up n h) b) kn in
              r.kept n (up n h) (r.fewer n (up n h) b) b (λ z. kn (sym e ∙ z)) ∙ e;
          quiet = λ θ sv n h rr l.
              let fx = fit θ (q.out θ (r.out θ sv)) x.1 hx rx (known i k d xs) eu in
              r.quiet θ sv n (up n h) (q.quiet θ (r.out θ sv) n h rr (omega (arith, subst (λ u. term_size u < term_size (θ n)) fx l))) l;
          out = λ θ sv. q.out θ (r.out θ sv);
          into = λ θ sv e. r.into θ (q.into θ sv (ap tailT (sym (fit θ sv x.1 hx rx (known i k d xs) eu) ∙ e ∙ fit θ sv y.1 hy ry (known j k' d' ys) ev))) e;
        }

roots_right : (f : Types → Ty → Ty → Unified) → Right f → (s : Words) (ts : Types) (x y : Ty) → WellFormed ts → x.1 < length ts → y.1 < length ts → rep ts x.1 ≡ x.1 → rep ts y.1 ≡ y.1 → Readable ts → Won (unify_roots f s ts x y).0 → After ts x.1 y.1 (unify_roots f s ts x y).1 × Readable (unify_roots f s ts x y).1
unfolding unify_roots
roots_right f right s ts x y formed hx hy rx ry fr w = go (ℕ_discrete x.1 y.1) w
  where
    go : Dec (x.1 ≡ y.1) → Won (unify_roots f s ts x y).0 → After ts x.1 y.1 (unify_roots f s ts x y).1 × Readable (unify_roots f s ts x y).1
    go (yes e) v = rw (eqb_true x.1 y.1 e, unify_roots) (record { len = refl; formed = formed; same = λ a b ha hb q. q; meet = ap (rep ts) e; fewer = λ r h q. q; kept = λ r h a b k. refl; quiet = λ θ sv r h rr l. rr; out = λ θ sv. sv; into = λ θ sv q. sv }, fr)
    go (no d) v = rw (eqb_false x.1 y.1 d, unify_roots) (states_right f right s ts x y formed hx hy rx ry d (state_at ts x.1) (state_at ts y.1) refl refl fr (rw (eqb_false x.1 y.1 d, unify_roots) at v))

-- `unify` to any depth.
pub unify_in_right : (n : ℕ) (s : Words) → Right (unify_in n s)
unfolding unify_in find invert_if rep
unify_in_right zero s ts a b formed ha hb fr w = absurd w
unify_in_right (suc n) s ts a b formed ha hb fr w =
    let ga = formed a.1 ha in
    let gb = formed b.1 hb in
    let rk = roots_right (λ us t u. unify_in n s us t u) (unify_in_right n s) s ts (find ts a) (find ts b) formed ga.0 gb.0 ga.1 gb.1 fr w in
    let r = rk.0 in (
      record {
        len = r.len;
        formed = r.formed;
        same = r.same;
        meet = r.same a.1 (rep ts a.1) ha ga.0 (sym ga.1) ∙ r.meet ∙ sym (r.same b.1 (rep ts b.1) hb gb.0 (sym gb.1));
        fewer = r.fewer;
        kept = r.kept;
        quiet = λ θ sv m h rr l. r.quiet θ sv m h rr (subst (λ u. term_size u < term_size (θ m)) (r.out θ sv a.1 ha).0 l);
        out = r.out;
        into = λ θ sv e. r.into θ sv (sym (sv a.1 ha).0 ∙ e ∙ (sv b.1 hb).0);
      },
      rk.1,
    )
