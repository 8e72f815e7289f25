-- Two different roots, followed by what they are: an unknown is bound, two known types meet in their children, and are joined.
use Rattle.std.specs.Prelude.{ℕ, suc, ◌/◌, ◌≡◌, refl, Bool, true, false, not, ◌&&◌, ◌||◌, List, [], ◌∷◌, map, ◌≢◌, ◌⊎◌, T, eqb, length}
use Rattle.std.proofs.Common.{sym, ◌∙◌, subst, true≢false, inl, inr, arith, eqb→eq, eqb-true as eqb_yes}
use Rattle.std.proofs.Math.Path.{ap, ap₂}
use Rattle.std.proofs.lemmas.Bool.{eqb-false as eqb_no}
use Rattle.rules.specs.Lists.{Words}
use Rattle.rules.specs.Layout.{kind_closure, kind_error}
use Rattle.rules.specs.Sheet.{at, kind_flag, row_may_meet}
use Rattle.rules.specs.Types.{Ty, TypeState, unknown, known, Types, xor, invert_if, invert_state, find, state_at, join, Unified, unify_each, unify_children, unify_known, join_on_success, occurs_in, bind_unknown, unify_states, unify_in}
use Rattle.rules.specs.Solutions.{AllIn, ChildrenIn, known≢}
use Rattle.rules.specs.MostGeneral.{Won, known_right, join_won, unify_in_right}
use Rattle.rules.specs.Carried.{known_carries, unify_in_carries}
use Rattle.rules.specs.UprightRoots.{RootsUpright, join-upright}
use Rattle.rules.specs.ErrorsApart.{known_plain, known_still}
use Rattle.refs.specs.Meaning.{odd, turn}
use Rattle.refs.specs.Refs.{side_of, type_side, apart, Bit}
use Rattle.order.specs.Stage.{stands, Kin, Shown, Run, Stage, kind_word, id_word, kids, find_invert, stands-turn}
use Rattle.order.specs.Mirror.{source, Sound, Mirror, TwoRoots, Bare, stands_at, odd-turn, left_in, right_in, left_top, right_top}
use Rattle.order.specs.Following.{FollowsAll, Meets}

-- The notes m' are of the table in which two roots are joined, of which bx and by say whether they are unknown.
pub record Joins (ws m : Words) (x y : ℕ) (bx by : Bool) (m' : Words) (r : ℕ) : Type 0 where
  pub went : r ≢ 0
  pub at : r ≡ 1 → (s ps : Words) (st : Stage s ps ws) (ts : Types) → Run ts → Mirror s ps ws st m ts → TwoRoots s ps ws st m x y → Bare s ps ws st ts x bx → Bare s ps ws st ts y by → Mirror s ps ws st m' (join ts (stands st.to x) (stands st.to y))

-- b says whether root x is unknown.
pub record Tells (s ps ws m : Words) (x : ℕ) (b : Bool) : Type 0 where
  pub at : (st : Stage s ps ws) (ts : Types) → Mirror s ps ws st m ts → Sound s ps ws st (x / 2) → at m (x / 2) ≡ 0 → Bare s ps ws st ts x b

invert_unknown : (b : Bool) (u : TypeState) → u ≡ unknown → invert_state b u ≡ unknown
unfolding invert_state
invert_unknown b u e = ap (invert_state b) e

invert_known : (b : Bool) (u : TypeState) (i : Bool) (k d : ℕ) (cs : List Ty) → u ≡ known i k d cs → invert_state b u ≡ known (xor b i) k d cs
unfolding invert_state
invert_known b u i k d cs e = ap (invert_state b) e

turned_half : (b t : ℕ) → turn b t / 2 ≡ t / 2
turned_half b t = omega arith

-- Root x has its state of type p.
module _ (s ps ws m : Words) (x p : ℕ) (ep : p ≡ turn x (source m (x / 2))) where
  half : p / 2 ≡ source m (x / 2) / 2
  half = ap (λ j. j / 2) ep ∙ turned_half x (source m (x / 2))

  module _ (st : Stage s ps ws) (ts : Types) (k : Mirror s ps ws st m ts) (o : Sound s ps ws st (x / 2)) (e : at m (x / 2) ≡ 0) where
    of : Sound s ps ws st (p / 2)
    of = subst (Sound s ps ws st) (sym half) (k.state (x / 2) o e).0

    state_there : state_at ts (st.to (x / 2)).1 ≡ invert_state (odd (source m (x / 2))) (state_at st.table (st.to (p / 2)).1)
    state_there = (k.state (x / 2) o e).1 ∙ ap (λ j. invert_state (odd (source m (x / 2))) (state_at st.table (st.to j).1)) (sym half)

    pub shown : kind_word s ps ws (p / 2) ≢ 0 → Shown st.to st.live st.table (st.to (p / 2)).1 (side_of s ps ws (p / 2)) (kind_word s ps ws (p / 2)) (id_word s ps ws (p / 2)) (kids s ps ws (p / 2))
    shown z = st.some (p / 2) of.live of.plain z

    pub state_known : (z : kind_word s ps ws (p / 2) ≢ 0) → state_at ts (st.to (x / 2)).1 ≡ known (xor (odd (source m (x / 2))) (side_of s ps ws (p / 2))) (kind_word s ps ws (p / 2)) (id_word s ps ws (p / 2)) (shown z).types
    state_known z = state_there ∙ invert_known (odd (source m (x / 2))) _ (side_of s ps ws (p / 2)) (kind_word s ps ws (p / 2)) (id_word s ps ws (p / 2)) (shown z).types (shown z).is

    pub state_unknown : kind_word s ps ws (p / 2) ≡ 0 → state_at ts (st.to (x / 2)).1 ≡ unknown
    state_unknown z = state_there ∙ invert_unknown (odd (source m (x / 2))) _ (st.none (p / 2) of.live of.plain z)

  pub tells_kind : (k : ℕ) → k ≡ kind_word s ps ws (p / 2) → Tells s ps ws m x (eqb k 0)
  tells_kind k ek = record { at = λ st ts w o e. record { yes = λ z. state_unknown st ts w o e (sym ek ∙ eqb_yes k 0 z); no = λ z q. known≢ (sym (state_known st ts w o e (λ y. eqb_no k 0 z (ek ∙ y))) ∙ q) } }

  -- The side of x by its state is that of p.
  side_of_state : xor (xor (odd (source m (x / 2))) (side_of s ps ws (p / 2))) (odd x) ≡ type_side s ps ws p
  side_of_state = three (odd (source m (x / 2))) (side_of s ps ws (p / 2)) (odd x) ∙ ap (λ i. xor i (side_of s ps ws (p / 2))) (sym (ap odd ep ∙ odd-turn x (source m (x / 2))))
    where
      three : (a b c : Bool) → xor (xor a b) c ≡ xor (xor c a) b
      three true true true = refl
      three true true false = refl
      three true false true = refl
      three true false false = refl
      three false true true = refl
      three false true false = refl
      three false false true = refl
      three false false false = refl

-- An unknown is bound.
states_bind : (f : Types → Ty → Ty → Unified) (s : Words) (ts : Types) (x y : Ty) (u v : TypeState) → (u ≡ unknown) ⊎ (v ≡ unknown) → unify_states f s ts x y u v ≡ bind_unknown ts x y
unfolding unify_states
states_bind f s ts x y unknown v e = refl
states_bind f s ts x y (known i k d cs) unknown e = refl
states_bind f s ts x y (known i k d cs) (known j l c ds) (inl e) = absurd (known≢ e)
states_bind f s ts x y (known i k d cs) (known j l c ds) (inr e) = absurd (known≢ e)

bind_won : (ts : Types) (x y : Ty) → Won (bind_unknown ts x y).0 → (bind_unknown ts x y).1 ≡ join ts x y
unfolding bind_unknown
bind_won ts x y w = go (occurs_in (suc (length ts)) ts x.1 y || occurs_in (suc (length ts)) ts y.1 x) refl w
  where
    go : (b : Bool) → (occurs_in (suc (length ts)) ts x.1 y || occurs_in (suc (length ts)) ts y.1 x) ≡ b → Won (bind_unknown ts x y).0 → (bind_unknown ts x y).1 ≡ join ts x y
    go true e v = absurd (rw (e, bind_unknown) at v)
    go false e v = rw (e, bind_unknown)

pub meets_bind : (s ps ws m : Words) (x y : ℕ) (bx by : Bool) (m' : Words) (r : ℕ) → Tells s ps ws m x bx → Tells s ps ws m y by → (bx ≡ true) ⊎ (by ≡ true) → Joins ws m x y bx by m' r → Meets s ps ws m x y m' r
meets_bind s ps ws m x y bx by m' r tx ty c j = record { at = λ st n ts run k o w. (j.went, λ e. go st n ts run k o w e) }
  where
    go : (st : Stage s ps ws) (n : ℕ) (ts : Types) → Run ts → Mirror s ps ws st m ts → TwoRoots s ps ws st m x y → Won (unify_states (unify_in n s) s ts (stands st.to x) (stands st.to y) (state_at ts (stands st.to x).1) (state_at ts (stands st.to y).1)).0 → r ≡ 1 →
        Mirror s ps ws st m' (unify_states (unify_in n s) s ts (stands st.to x) (stands st.to y) (state_at ts (stands st.to x).1) (state_at ts (stands st.to y).1)).1
    go st n ts run k o w e =
        let vx = tx.at st ts k o.left o.left_root in
        let vy = ty.at st ts k o.right o.right_root in
        let nx = ap (λ (t : Ty). state_at ts t.1) (stands_at s ps ws st x o.left) in
        let ny = ap (λ (t : Ty). state_at ts t.1) (stands_at s ps ws st y o.right) in
        let same = states_bind (unify_in n s) s ts (stands st.to x) (stands st.to y) (state_at ts (stands st.to x).1) (state_at ts (stands st.to y).1) (bare (bx ≡ true) (by ≡ true) _ _ (λ z. nx ∙ vx.yes z) (λ z. ny ∙ vy.yes z) c) in
        subst (Mirror s ps ws st m') (sym (ap (λ (u : Unified). u.1) same ∙ bind_won ts (stands st.to x) (stands st.to y) (subst (λ (u : Unified). Won u.0) same w))) (j.at e s ps st ts run k o vx vy)
      where
        bare : (A B C D : Type 0) → (A → C) → (B → D) → A ⊎ B → C ⊎ D
        bare A B C D f g (inl a) = inl (f a)
        bare A B C D f g (inr b) = inr (g b)

-- Two known types that met: as many children of either, which met in turn, and a kind that may meet inverted if they did.
children_won : (f : Types → Ty → Ty → Unified) (ts : Types) (k : ℕ) (xs ys : List Ty) → Won (unify_children f ts k xs ys).0 → (length xs ≡ length ys) × (unify_children f ts k xs ys ≡ unify_each f ts xs ys)
unfolding unify_children
children_won f ts k xs ys w = go (eqb (length xs) (length ys)) refl (eqb k kind_closure) refl w
  where
    go : (b : Bool) → eqb (length xs) (length ys) ≡ b → (c : Bool) → eqb k kind_closure ≡ c → Won (unify_children f ts k xs ys).0 → (length xs ≡ length ys) × (unify_children f ts k xs ys ≡ unify_each f ts xs ys)
    go true e c q v = (eqb→eq (length xs) (length ys) (subst T (sym e) tt), rw (e, unify_children))
    go false e true q v = absurd (rw (e, q, unify_children) at v)
    go false e false q v = absurd (rw (e, q, unify_children) at v)

record KnownWon (f : Types → Ty → Ty → Unified) (s : Words) (ts : Types) (inv : Bool) (k d : ℕ) (xs : List Ty) (k' d' : ℕ) (ys : List Ty) : Type 0 where
  even : length xs ≡ length (map (invert_if inv) ys)
  is : unify_known f s ts inv k d xs k' d' ys ≡ unify_each f ts xs (map (invert_if inv) ys)
  flag : inv ≡ true → kind_flag s row_may_meet k d ≡ true

known_won : (f : Types → Ty → Ty → Unified) (s : Words) (ts : Types) (inv : Bool) (k d : ℕ) (xs : List Ty) (k' d' : ℕ) (ys : List Ty) → Won (unify_known f s ts inv k d xs k' d' ys).0 → KnownWon f s ts inv k d xs k' d' ys
unfolding unify_known
known_won f s ts inv k d xs k' d' ys w = go (eqb k kind_error || eqb k' kind_error) refl (eqb k k' && eqb d d' && (not inv || kind_flag s row_may_meet k d)) refl w
  where
    flagged : (a b c i : Bool) → (a && b && (not i || c)) ≡ true → i ≡ true → c ≡ true
    flagged true true true i e q = refl
    flagged true true false true e q = absurd (true≢false (sym e))
    flagged true true false false e q = absurd (true≢false (sym q))
    flagged true false c i e q = absurd (true≢false (sym e))
    flagged false b c i e q = absurd (true≢false (sym e))

    go : (b : Bool) → (eqb k kind_error || eqb k' kind_error) ≡ b → (c : Bool) → (eqb k k' && eqb d d' && (not inv || kind_flag s row_may_meet k d)) ≡ c → Won (unify_known f s ts inv k d xs k' d' ys).0 → KnownWon f s ts inv k d xs k' d' ys
    go true e c e' v = absurd (rw (e, unify_known) at v)
    go false e false e' v = absurd (rw (e, e', unify_known) at v)
    go false e true e' v =
        let o = children_won f ts k xs (map (invert_if inv) ys) (rw (e, e', unify_known) at v) in
        record { even = o.0; is = rw (e, e', unify_known) o.1; flag = flagged (eqb k k') (eqb d d') (kind_flag s row_may_meet k d) inv e' }

-- Children, turned.
kin_turn : (φ : ℕ → Ty) (live : ℕ → Bool) (ts : Types) (b : ℕ) (cs : List Ty) (us : Words) → Kin φ live ts cs us → Kin φ live ts (map (invert_if (odd b)) cs) (map (turn b) us)
unfolding invert_if
kin_turn φ live ts b [] [] p = tt
kin_turn φ live ts b [] (u ∷ us) p = absurd p
kin_turn φ live ts b (c ∷ cs) [] p = absurd p
kin_turn φ live ts b (c ∷ cs) (u ∷ us) p = (p.0, subst (λ j. live j ≡ true) (sym (turned_half b u)) p.1, find_invert ts (odd b) c ∙ ap (invert_if (odd b)) p.2 ∙ sym (find_invert ts (odd b) (stands φ u)) ∙ ap (find ts) (sym (stands-turn φ b u)), kin_turn φ live ts b cs us p.3)

-- Roots x and y have their states of types p and q, both known.
module _ (s ps ws m : Words) (x y p q : ℕ) (ep : p ≡ turn x (source m (x / 2))) (eq : q ≡ turn y (source m (y / 2))) (kp : kind_word s ps ws (p / 2) ≢ 0) (kq : kind_word s ps ws (q / 2) ≢ 0) where
  abbrev K : ℕ
  K = kind_word s ps ws (p / 2)

  abbrev L : ℕ
  L = kind_word s ps ws (q / 2)

  abbrev D : ℕ
  D = id_word s ps ws (p / 2)

  abbrev E : ℕ
  E = id_word s ps ws (q / 2)

  module _ (st : Stage s ps ws) (n : ℕ) (ts : Types) (run : Run ts) (k : Mirror s ps ws st m ts) (o : TwoRoots s ps ws st m x y) where
    abbrev cs : List Ty
    cs = (shown s ps ws m x p ep st ts k o.left o.left_root kp).types

    abbrev ds : List Ty
    ds = (shown s ps ws m y q eq st ts k o.right o.right_root kq).types

    abbrev met : Unified
    met = unify_known (unify_in n s) s ts (apart s ps ws p q) K D cs L E ds

    abbrev X : Ty
    X = stands st.to x

    abbrev Y : Ty
    Y = stands st.to y

    state_x : state_at ts X.1 ≡ known (xor (odd (source m (x / 2))) (side_of s ps ws (p / 2))) K D cs
    state_x = ap (λ (t : Ty). state_at ts t.1) (stands_at s ps ws st x o.left) ∙ state_known s ps ws m x p ep st ts k o.left o.left_root kp

    state_y : state_at ts Y.1 ≡ known (xor (odd (source m (y / 2))) (side_of s ps ws (q / 2))) L E ds
    state_y = ap (λ (t : Ty). state_at ts t.1) (stands_at s ps ws st y o.right) ∙ state_known s ps ws m y q eq st ts k o.right o.right_root kq

    sides : xor (xor (xor (odd (source m (x / 2))) (side_of s ps ws (p / 2))) X.0) (xor (xor (odd (source m (y / 2))) (side_of s ps ws (q / 2))) Y.0) ≡ apart s ps ws p q
    sides = ap₂ xor
        (ap (λ (t : Ty). xor (xor (odd (source m (x / 2))) (side_of s ps ws (p / 2))) t.0) (stands_at s ps ws st x o.left) ∙ side_of_state s ps ws m x p ep)
        (ap (λ (t : Ty). xor (xor (odd (source m (y / 2))) (side_of s ps ws (q / 2))) t.0) (stands_at s ps ws st y o.right) ∙ side_of_state s ps ws m y q eq)

    both_known : unify_states (unify_in n s) s ts X Y (state_at ts X.1) (state_at ts Y.1) ≡ join_on_success met X Y
    unfolding unify_states
    both_known = ap₂ (unify_states (unify_in n s) s ts X Y) state_x state_y ∙ ap (λ i. join_on_success (unify_known (unify_in n s) s ts i K D cs L E ds) X Y) sides

    module _ (w : Won (unify_states (unify_in n s) s ts X Y (state_at ts X.1) (state_at ts Y.1)).0) where
      joined : Won met.0 × ((join_on_success met X Y).1 ≡ join met.1 X Y)
      joined = join_won met X Y (subst (λ (u : Unified). Won u.0) both_known w)

      in_x : AllIn (length ts) cs
      in_x = subst (ChildrenIn (length ts)) (ap (state_at ts) (left_top s ps ws st m ts k run x y o) ∙ state_x) (run.formed X.1 (left_in s ps ws st m ts k run x y o)).2

      in_y : AllIn (length ts) ds
      in_y = subst (ChildrenIn (length ts)) (ap (state_at ts) (right_top s ps ws st m ts k run x y o) ∙ state_y) (run.formed Y.1 (right_in s ps ws st m ts k run x y o)).2

      kinds : K ≡ L
      kinds = (known_right (unify_in n s) (unify_in_right n s) s ts (apart s ps ws p q) K D cs L E ds run.formed in_x in_y run.readable joined.0).0

      ids : D ≡ E
      ids = (known_right (unify_in n s) (unify_in_right n s) s ts (apart s ps ws p q) K D cs L E ds run.formed in_x in_y run.readable joined.0).1

      no_error : K ≢ kind_error
      no_error = (known_plain (unify_in n s) s ts (apart s ps ws p q) K D cs L E ds joined.0).0

      won : KnownWon (unify_in n s) s ts (apart s ps ws p q) K D cs L E ds
      won = known_won (unify_in n s) s ts (apart s ps ws p q) K D cs L E ds joined.0

      run-met : Run met.1
      run-met =
          let v = known_right (unify_in n s) (unify_in_right n s) s ts (apart s ps ws p q) K D cs L E ds run.formed in_x in_y run.readable joined.0 in
          record { formed = v.2.formed; readable = v.3; roots = known_carries RootsUpright join-upright (unify_in n s) (unify_in_carries RootsUpright join-upright n s) s ts (apart s ps ws p q) K D cs L E ds run.roots }

      -- The children are followed.
      follow_kids : (b : ℕ) (m₁ : Words) (r : ℕ) → Bit (apart s ps ws p q) b → FollowsAll s ps ws m (kids s ps ws (p / 2)) (map (turn b) (kids s ps ws (q / 2))) m₁ r → (r ≢ 0) × (r ≡ 1 → Mirror s ps ws st m₁ met.1)
      follow_kids b m₁ r bit f =
          let i = bit.is in
          let ys : map (invert_if (odd b)) ds ≡ map (invert_if (apart s ps ws p q)) ds = ap (λ j. map (invert_if j) ds) i in
          let g = f.at st n ts run k cs (map (invert_if (apart s ps ws p q)) ds) won.even (shown s ps ws m x p ep st ts k o.left o.left_root kp).kin (subst (λ (l : List Ty). Kin st.to st.live st.table l (map (turn b) (kids s ps ws (q / 2)))) ys (kin_turn st.to st.live st.table b ds (kids s ps ws (q / 2)) (shown s ps ws m y q eq st ts k o.right o.right_root kq).kin)) (subst (λ (u : Unified). Won u.0) won.is joined.0) in
          (g.0, λ e. subst (λ (u : Unified). Mirror s ps ws st m₁ u.1) (sym won.is) (g.1 e))

      -- The roots are known still.
      still_x : Bare s ps ws st met.1 x false
      still_x =
          let v = known_still (unify_in n s) (unify_in_right n s) s ts X.1 Y.1 run.formed (left_in s ps ws st m ts k run x y o) (right_in s ps ws st m ts k run x y o) (left_top s ps ws st m ts k run x y o) (right_top s ps ws st m ts k run x y o) run.readable (apart s ps ws p q) _ K D cs _ L E ds state_x state_y joined.0 in
          record { yes = λ e. absurd (true≢false (sym e)); no = λ e z. known≢ (sym (v.left_state ∙ state_x) ∙ ap (λ (t : Ty). state_at met.1 t.1) (stands_at s ps ws st x o.left) ∙ z) }

      still_y : Bare s ps ws st met.1 y false
      still_y =
          let v = known_still (unify_in n s) (unify_in_right n s) s ts X.1 Y.1 run.formed (left_in s ps ws st m ts k run x y o) (right_in s ps ws st m ts k run x y o) (left_top s ps ws st m ts k run x y o) (right_top s ps ws st m ts k run x y o) run.readable (apart s ps ws p q) _ K D cs _ L E ds state_x state_y joined.0 in
          record { yes = λ e. absurd (true≢false (sym e)); no = λ e z. known≢ (sym (v.right_state ∙ state_y) ∙ ap (λ (t : Ty). state_at met.1 t.1) (stands_at s ps ws st y o.right) ∙ z) }

  -- Kinds differ, or one is Error; ids do; or they may not meet inverted.
  pub meets_kinds : (m' : Words) → K ≢ L → Meets s ps ws m x y m' 0
  meets_kinds m' z = record { at = λ st n ts run k o w. absurd (z (kinds st n ts run k o w)) }

  pub meets_error : (m' : Words) → K ≡ kind_error → Meets s ps ws m x y m' 0
  meets_error m' z = record { at = λ st n ts run k o w. absurd (no_error st n ts run k o w z) }

  pub meets_ids : (m' : Words) → D ≢ E → Meets s ps ws m x y m' 0
  meets_ids m' z = record { at = λ st n ts run k o w. absurd (z (ids st n ts run k o w)) }

  pub meets_flag : (m' : Words) (b : ℕ) → Bit (apart s ps ws p q) b → b ≡ 1 → kind_flag s row_may_meet K D ≡ false → Meets s ps ws m x y m' 0
  unfolding odd
  meets_flag m' b bit e z = record { at = λ st n ts run k o w. absurd (true≢false (sym ((won st n ts run k o w).flag (sym bit.is ∙ ap odd e)) ∙ z)) }

  -- The children are all that is followed,
  pub meets_kids : (b : ℕ) (m₁ : Words) (r : ℕ) → Bit (apart s ps ws p q) b → FollowsAll s ps ws m (kids s ps ws (p / 2)) (map (turn b) (kids s ps ws (q / 2))) m₁ r → r ≢ 1 → Meets s ps ws m x y m₁ r
  meets_kids b m₁ r bit f z = record { at = λ st n ts run k o w. ((follow_kids st n ts run k o w b m₁ r bit f).0, λ e. absurd (z e)) }

  -- or the roots are joined then.
  pub meets_join : (b : ℕ) (m₁ : Words) (r₁ : ℕ) (m₂ : Words) (r : ℕ) → Bit (apart s ps ws p q) b → FollowsAll s ps ws m (kids s ps ws (p / 2)) (map (turn b) (kids s ps ws (q / 2))) m₁ r₁ → r₁ ≡ 1 → at m₁ (x / 2) ≡ 0 → at m₁ (y / 2) ≡ 0 → Joins ws m₁ x y false false m₂ r → Meets s ps ws m x y m₂ r
  meets_join b m₁ r₁ m₂ r bit f e ex ey j = record {
    at = λ st n ts run k o w.
        let v : Mirror s ps ws st m₁ (met st n ts run k o).1 = (follow_kids st n ts run k o w b m₁ r₁ bit f).1 e in
        let o₁ : TwoRoots s ps ws st m₁ x y = record { left = o.left; right = o.right; left_root = ex; right_root = ey; apart = o.apart } in
        (j.went, λ z. subst (λ (us : Types). Mirror s ps ws st m₂ us) (sym (ap (λ (u : Unified). u.1) (both_known st n ts run k o) ∙ (joined st n ts run k o w).1)) (j.at z s ps st (met st n ts run k o).1 (run-met st n ts run k o w) v o₁ (still_x st n ts run k o w) (still_y st n ts run k o w)));
  }
