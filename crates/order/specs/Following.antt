-- A test that follows `unify` on the table that notes are of, wherever it succeeds. What it comes to: 0, a clash; 1, all went well, and the notes are of the table that is left; anything else says nothing.
use Prim.Native.Nat.{ℕ, zero, suc, ◌+◌, ◌/◌, ◌%◌, ◌<◌}
use Rattle.std.specs.Prelude.{◌≡◌, refl, Bool, true, false, List, [], ◌∷◌, ◌≢◌, length}
use Rattle.std.proofs.Math.Path.{sym, ap, ap₂, subst}
use Rattle.std.proofs.Common.{◌∙◌, arith, eq-eqb}
use Rattle.rules.specs.Lists.{Words}
use Rattle.rules.specs.Sheet.{at}
use Rattle.rules.specs.Types.{Ty, Types, xor, invert_if, find, state_at, self_inverse_in, self_inverse, from_bool, Unified, unify_each, unify_states, unify_roots, unify_in}
use Rattle.rules.specs.Solutions.{eqb_true, eqb_false}
use Rattle.rules.specs.MostGeneral.{Won, both_won}
use Rattle.table.specs.ChildTypes.{odd-sum}
use Rattle.refs.specs.Meaning.{odd}
use Rattle.order.specs.Stage.{stands, Kin, Run, Stage, run_on}
use Rattle.order.specs.Mirror.{Sound, Mirror, Marks, TwoRoots, follow_find, stands_at, tops_apart}

-- Two types of refs are met.
pub record Follows (s ps ws m : Words) (a b : ℕ) (m' : Words) (r : ℕ) : Type 0 where
  pub at : (st : Stage s ps ws) (n : ℕ) (ts : Types) → Run ts → Mirror s ps ws st m ts → st.live (a / 2) ≡ true → st.live (b / 2) ≡ true → Won (unify_in n s ts (stands st.to a) (stands st.to b)).0 → (r ≢ 0) × (r ≡ 1 → Mirror s ps ws st m' (unify_in n s ts (stands st.to a) (stands st.to b)).1)

-- As many types of refs are met in turn.
pub record FollowsAll (s ps ws m us vs m' : Words) (r : ℕ) : Type 0 where
  pub at : (st : Stage s ps ws) (n : ℕ) (ts : Types) → Run ts → Mirror s ps ws st m ts → (cs ds : List Ty) → length cs ≡ length ds → Kin st.to st.live st.table cs us → Kin st.to st.live st.table ds vs → Won (unify_each (unify_in n s) ts cs ds).0 → (r ≢ 0) × (r ≡ 1 → Mirror s ps ws st m' (unify_each (unify_in n s) ts cs ds).1)

-- Two different roots are.
pub record Meets (s ps ws m : Words) (x y : ℕ) (m' : Words) (r : ℕ) : Type 0 where
  pub at : (st : Stage s ps ws) (n : ℕ) (ts : Types) → Run ts → Mirror s ps ws st m ts → TwoRoots s ps ws st m x y →
      Won (unify_states (unify_in n s) s ts (stands st.to x) (stands st.to y) (state_at ts (stands st.to x).1) (state_at ts (stands st.to y).1)).0 →
      (r ≢ 0) × (r ≡ 1 → Mirror s ps ws st m' (unify_states (unify_in n s) s ts (stands st.to x) (stands st.to y) (state_at ts (stands st.to x).1) (state_at ts (stands st.to y).1)).1)

-- false: type t is not its own inverse.
pub record Owns (s ps ws m : Words) (t : ℕ) (m' : Words) (r : Bool) : Type 0 where
  pub marks : Marks m m'
  pub at : r ≡ false → (st : Stage s ps ws) (ts : Types) → Run ts → Mirror s ps ws st m ts → st.live (t / 2) ≡ true → (k : ℕ) → self_inverse_in k s ts (stands st.to t) ≡ false

-- `unify` by what the types are found to be.
unify-found : (n : ℕ) (s : Words) (ts : Types) (a b c d : Ty) → find ts a ≡ find ts c → find ts b ≡ find ts d → unify_in n s ts a b ≡ unify_in n s ts c d
unfolding unify_in
unify-found zero s ts a b c d p q = refl
unify-found (suc n) s ts a b c d p q = ap₂ (unify_roots (λ us t u. unify_in n s us t u) s ts) p q

-- What is live stands at a node.
pub lives : {s ps ws : Words} (st : Stage s ps ws) (t : ℕ) → st.live (t / 2) ≡ true → (stands st.to t).1 < length st.table
unfolding stands invert_if
lives st t l = st.inside (t / 2) l

-- Two roots: of one class, where nothing is joined,
one_class : (n : ℕ) (s : Words) (ts : Types) (x y : Ty) → x.1 ≡ y.1 → (unify_roots (λ us t u. unify_in n s us t u) s ts x y).1 ≡ ts
unfolding unify_roots
one_class n s ts x y e = rw (eqb_true x.1 y.1 e, unify_roots)

-- and of which one, inverted, is not its own inverse;
not_own : (n : ℕ) (s : Words) (ts : Types) (x y : Ty) → x.1 ≡ y.1 → xor x.0 y.0 ≡ true → self_inverse s ts x ≡ false → Won (unify_roots (λ us t u. unify_in n s us t u) s ts x y).0 → ⊥
unfolding unify_roots from_bool
not_own n s ts x y e i o w = rw (eqb_true x.1 y.1 e, i, o, unify_roots) at w

-- of two classes.
two_classes : (n : ℕ) (s : Words) (ts : Types) (x y : Ty) → x.1 ≢ y.1 → unify_roots (λ us t u. unify_in n s us t u) s ts x y ≡ unify_states (unify_in n s) s ts x y (state_at ts x.1) (state_at ts y.1)
unfolding unify_roots
two_classes n s ts x y e = rw (eqb_false x.1 y.1 e, unify_roots)

-- Two types of one ref that differ are of two sides.
odd-apart : (x y : ℕ) → x / 2 ≡ y / 2 → x ≢ y → xor (odd x) (odd y) ≡ true
unfolding odd
odd-apart x y e n = odd-sum x y ∙ eq-eqb ((x + y) % 2) 1 (omega (arith, e, n))

-- None is met,
pub follows_none : (s ps ws m : Words) → FollowsAll s ps ws m [] [] m 1
unfolding unify_each
follows_none s ps ws m = record { at = λ st n ts run k cs ds e p q w. (λ z. absurd (omega (arith, z)), λ z. go st n ts k cs ds p) }
  where
    go : (st : Stage s ps ws) (n : ℕ) (ts : Types) → Mirror s ps ws st m ts → (cs ds : List Ty) → Kin st.to st.live st.table cs [] → Mirror s ps ws st m (unify_each (unify_in n s) ts cs ds).1
    go st n ts k [] ds p = k
    go st n ts k (c ∷ cs) ds p = absurd p

-- a pair and then the others,
pub follows_more : (s ps ws m : Words) (u v : ℕ) (m₁ : Words) (r₁ : ℕ) (us vs m' : Words) (r : ℕ) → Follows s ps ws m u v m₁ r₁ → r₁ ≡ 1 → FollowsAll s ps ws m₁ us vs m' r → FollowsAll s ps ws m (u ∷ us) (v ∷ vs) m' r
unfolding unify_each
follows_more s ps ws m u v m₁ r₁ us vs m' r f e g = record { at = λ st n ts run k cs ds l p q w. go st n ts run k cs ds l p q w }
  where
    go : (st : Stage s ps ws) (n : ℕ) (ts : Types) → Run ts → Mirror s ps ws st m ts → (cs ds : List Ty) → length cs ≡ length ds → Kin st.to st.live st.table cs (u ∷ us) → Kin st.to st.live st.table ds (v ∷ vs) → Won (unify_each (unify_in n s) ts cs ds).0 → (r ≢ 0) × (r ≡ 1 → Mirror s ps ws st m' (unify_each (unify_in n s) ts cs ds).1)
    go st n ts run k [] ds l p q w = absurd p
    go st n ts run k (c ∷ cs) [] l p q w = absurd q
    go st n ts run k (c ∷ cs) (d ∷ ds) l p q w =
        let won = both_won (unify_in n s ts c d).0 (unify_each (unify_in n s) (unify_in n s ts c d).1 cs ds).0 w in
        let same = unify-found n s ts c d (stands st.to u) (stands st.to v) (follow_find s ps ws st m ts k c (stands st.to u) p.0 (lives st u p.1) p.2) (follow_find s ps ws st m ts k d (stands st.to v) q.0 (lives st v q.1) q.2) in
        let first = f.at st n ts run k p.1 q.1 (subst (λ (x : Unified). Won x.0) same won.0) in
        let next = run_on n s ts c d run (subst (λ N. c.1 < N) (sym k.len) p.0) (subst (λ N. d.1 < N) (sym k.len) q.0) won.0 in
        g.at st n (unify_in n s ts c d).1 next (subst (λ (x : Unified). Mirror s ps ws st m₁ x.1) (sym same) (first.1 e)) cs ds (omega (arith, l)) p.3 q.3 won.1

-- or a pair is the last.
pub follows_last : (s ps ws m : Words) (u v : ℕ) (m₁ : Words) (r : ℕ) (us vs : Words) → Follows s ps ws m u v m₁ r → r ≢ 1 → FollowsAll s ps ws m (u ∷ us) (v ∷ vs) m₁ r
unfolding unify_each
follows_last s ps ws m u v m₁ r us vs f e = record { at = λ st n ts run k cs ds l p q w. (go st n ts run k cs ds p q w, λ z. absurd (e z)) }
  where
    go : (st : Stage s ps ws) (n : ℕ) (ts : Types) → Run ts → Mirror s ps ws st m ts → (cs ds : List Ty) → Kin st.to st.live st.table cs (u ∷ us) → Kin st.to st.live st.table ds (v ∷ vs) → Won (unify_each (unify_in n s) ts cs ds).0 → r ≢ 0
    go st n ts run k [] ds p q w = absurd p
    go st n ts run k (c ∷ cs) [] p q w = absurd q
    go st n ts run k (c ∷ cs) (d ∷ ds) p q w =
        let won = both_won (unify_in n s ts c d).0 (unify_each (unify_in n s) (unify_in n s ts c d).1 cs ds).0 w in
        let same = unify-found n s ts c d (stands st.to u) (stands st.to v) (follow_find s ps ws st m ts k c (stands st.to u) p.0 (lives st u p.1) p.2) (follow_find s ps ws st m ts k d (stands st.to v) q.0 (lives st v q.1) q.2) in
        (f.at st n ts run k p.1 q.1 (subst (λ (x : Unified). Won x.0) same won.0)).0

-- Where there are more of one than of the other it is a clash; a test may break off, or say nothing.
pub kin_length : (φ : ℕ → Ty) (live : ℕ → Bool) (ts : Types) (cs : List Ty) (us : Words) → Kin φ live ts cs us → length cs ≡ length us
kin_length φ live ts [] [] p = refl
kin_length φ live ts [] (u ∷ us) p = absurd p
kin_length φ live ts (c ∷ cs) [] p = absurd p
kin_length φ live ts (c ∷ cs) (u ∷ us) p = ap suc (kin_length φ live ts cs us p.3)

pub follows_uneven : (s ps ws m us vs m' : Words) → length us ≢ length vs → FollowsAll s ps ws m us vs m' 0
follows_uneven s ps ws m us vs m' z = record { at = λ st n ts run k cs ds l p q w. absurd (z (sym (kin_length st.to st.live st.table cs us p) ∙ l ∙ kin_length st.to st.live st.table ds vs q)) }

pub all_nothing : (s ps ws m us vs m' : Words) (r : ℕ) → r ≢ 0 → r ≢ 1 → FollowsAll s ps ws m us vs m' r
all_nothing s ps ws m us vs m' r z y = record { at = λ st n ts run k cs ds l p q w. (z, λ e. absurd (y e)) }

pub follows_nothing : (s ps ws m : Words) (a b : ℕ) (m' : Words) (r : ℕ) → r ≢ 0 → r ≢ 1 → Follows s ps ws m a b m' r
follows_nothing s ps ws m a b m' r z y = record { at = λ st n ts run k p q w. (z, λ e. absurd (y e)) }

pub meets_nothing : (s ps ws m : Words) (x y : ℕ) (m' : Words) (r : ℕ) → r ≢ 0 → r ≢ 1 → Meets s ps ws m x y m' r
meets_nothing s ps ws m x y m' r z o = record { at = λ st n ts run k p w. (z, λ e. absurd (o e)) }

-- Two types that are found to be one.
pub follows_found : (s ps ws m : Words) (a b : ℕ) → ((st : Stage s ps ws) (ts : Types) → Mirror s ps ws st m ts → st.live (a / 2) ≡ true → st.live (b / 2) ≡ true → find ts (stands st.to a) ≡ find ts (stands st.to b)) → Follows s ps ws m a b m 1
unfolding unify_in
follows_found s ps ws m a b same = record { at = λ st n ts run k p q w. (λ z. absurd (omega (arith, z)), λ z. go st n ts k p q w) }
  where
    go : (st : Stage s ps ws) (n : ℕ) (ts : Types) → Mirror s ps ws st m ts → st.live (a / 2) ≡ true → st.live (b / 2) ≡ true → Won (unify_in n s ts (stands st.to a) (stands st.to b)).0 → Mirror s ps ws st m (unify_in n s ts (stands st.to a) (stands st.to b)).1
    go st zero ts k p q w = absurd w
    go st (suc n) ts k p q w = subst (Mirror s ps ws st m) (sym (one_class n s ts (find ts (stands st.to a)) (find ts (stands st.to b)) (ap (λ (t : Ty). t.1) (same st ts k p q)))) k

-- x is the root of type t by the notes of a table.
pub record RootOf (s ps ws : Words) (st : Stage s ps ws) (m : Words) (ts : Types) (t x : ℕ) : Type 0 where
  pub sound : Sound s ps ws st (x / 2)
  pub root : at m (x / 2) ≡ 0
  pub is : find ts (stands st.to t) ≡ stands st.to x

-- Two types by their roots, where they unify:
module _ (s ps ws m : Words) (a b x y : ℕ) (st : Stage s ps ws) (ts : Types) (k : Mirror s ps ws st m ts) (p : RootOf s ps ws st m ts a x) (q : RootOf s ps ws st m ts b y) where
  abbrev both : ℕ → Unified
  both n = unify_in n s ts (stands st.to a) (stands st.to b)

  node_of-left : (find ts (stands st.to a)).1 ≡ (st.to (x / 2)).1
  node_of-left = ap (λ (t : Ty). t.1) (p.is ∙ stands_at s ps ws st x p.sound)

  node_of_right : (find ts (stands st.to b)).1 ≡ (st.to (y / 2)).1
  node_of_right = ap (λ (t : Ty). t.1) (q.is ∙ stands_at s ps ws st y q.sound)

  -- of one class, nothing is joined,
  pub same_class : (n : ℕ) → x / 2 ≡ y / 2 → Won (both n).0 → Mirror s ps ws st m (both n).1
  unfolding unify_in
  same_class zero e w = absurd w
  same_class (suc n) e w = subst (Mirror s ps ws st m) (sym (one_class n s ts (find ts (stands st.to a)) (find ts (stands st.to b)) (node_of-left ∙ ap (λ j. (st.to j).1) e ∙ sym node_of_right))) k

  -- and one that is the other inverted is its own inverse;
  pub own_class : (n : ℕ) → x ≢ y → x / 2 ≡ y / 2 → ((j : ℕ) → self_inverse_in j s ts (stands st.to x) ≡ false) → Won (both n).0 → ⊥
  unfolding unify_in self_inverse
  own_class zero d e o w = absurd w
  own_class (suc n) d e o w =
      not_own n s ts (find ts (stands st.to a)) (find ts (stands st.to b))
      (node_of-left ∙ ap (λ j. (st.to j).1) e ∙ sym node_of_right)
      (ap₂ (λ (t u : Ty). xor t.0 u.0) (p.is ∙ stands_at s ps ws st x p.sound) (q.is ∙ stands_at s ps ws st y q.sound) ∙ odd-apart x y e d)
      (ap (λ (t : Ty). self_inverse s ts t) p.is ∙ o (suc (length ts)))
      w

  -- of two classes.
  pub meet_class : (n : ℕ) → Run ts → x / 2 ≢ y / 2 → (m' : Words) (r : ℕ) → Meets s ps ws m x y m' r → Won (both n).0 → (r ≢ 0) × (r ≡ 1 → Mirror s ps ws st m' (both n).1)
  unfolding unify_in
  meet_class zero run d m' r g w = absurd w
  meet_class (suc n) run d m' r g w =
      let o : TwoRoots s ps ws st m x y = record { left = p.sound; right = q.sound; left_root = p.root; right_root = q.root; apart = d } in
      let same : unify_roots (λ us t u. unify_in n s us t u) s ts (find ts (stands st.to a)) (find ts (stands st.to b)) ≡ unify_states (unify_in n s) s ts (stands st.to x) (stands st.to y) (state_at ts (stands st.to x).1) (state_at ts (stands st.to y).1) = ap₂ (unify_roots (λ us t u. unify_in n s us t u) s ts) p.is q.is ∙ two_classes n s ts (stands st.to x) (stands st.to y) (tops_apart s ps ws st m ts k run x y o) in
      let v = g.at st n ts run k o (subst (λ (z : Unified). Won z.0) same w) in
      (v.0, λ z. subst (λ (z : Unified). Mirror s ps ws st m' z.1) (sym same) (v.1 z))
