-- A table by what is noted of its classes at refs: links to roots, what was added to a class's size, and where a root has its state from. What a join does to the table is done to the notes.
-- Four times 2,048 words. Of ref r: at r 0, or one more than the type that the ref is; 2,048 behind it what was added to the size of its class; another 2,048 behind that 0, or one more than the type of which it has its state; and behind those a mark, which says nothing of the table.
use Rattle.std.specs.Prelude.{ℕ, ◌+◌, ◌-◌, ◌*◌, ◌/◌, ◌%◌, ◌≤◌, ◌<◌, ◌≡◌, Bool, map, ◌≢◌}
use Rattle.std.proofs.Math.Path.{refl, sym, ap, ap₂, subst}
use Rattle.std.proofs.Common.{◌∙◌, get_or-set_same}
use Rattle.std.proofs.Math.Bool.{true, false}
use native.Mathlib.Omega.{arith}
use Rattle.std.proofs.Math.Decide.{ℕ_discrete}
use Rattle.std.proofs.Math.Dec.{eqb, ltb}
use Rattle.std.proofs.Math.ListN.{length}
use borrow.Author.Tests.{eq-eqb, ne_eqb, lt-ltb, le-ltb}
use Rattle.rules.specs.Lists.{Words}
use Rattle.rules.specs.Sheet.{at}
use Rattle.rules.specs.Types.{Ty, TypeState, unknown, known, TypeNode, Types, node_at, xor, invert_if, invert_state, find, state_at, size_at, relabel, or_else, hang, larger, join}
use Rattle.rules.specs.Solutions.{rep}
use Rattle.rules.specs.Joining.{hang_state, hang_top, map-length}
use Rattle.rules.specs.UprightRoots.{hung_length, hung_off}
use Rattle.rules.specs.CommonSides.{up_stays, up_turns, xor_assoc, xor-none, xor_comm}
use Rattle.table.specs.ChildTypes.{odd-sum}
use Rattle.refs.specs.Meaning.{odd, turn}
use Rattle.order.specs.Stage.{stands, Plain, Run, Stage, find_invert, invert_twice, stands-turn}

-- The type of which root r has its state.
unfoldable pub source : Words → ℕ → ℕ
source m r = elim (eqb (at m (4096 + r)) 0) [ true ↦ 2 * r | false ↦ at m (4096 + r) - 1 ]

pub source_own : (m : Words) (r : ℕ) → at m (4096 + r) ≡ 0 → source m r ≡ 2 * r
unfolding source
source_own m r e = rw (eq-eqb (at m (4096 + r)) 0 e, source)

pub source_other : (m : Words) (r : ℕ) → at m (4096 + r) ≢ 0 → source m r ≡ at m (4096 + r) - 1
unfolding source
source_other m r e = rw (ne_eqb (at m (4096 + r)) 0 e, source)

-- A ref that came and is no Param.
pub record Sound (s ps ws : Words) (st : Stage s ps ws) (r : ℕ) : Type 0 where
  pub live : st.live r ≡ true
  pub plain : Plain s ps r

-- The notes m are those of table ts.
pub record Mirror (s ps ws : Words) (st : Stage s ps ws) (m : Words) (ts : Types) : Type 0 where
  pub long : length m ≡ 8192
  pub len : length ts ≡ length st.table
  pub follow : (n : ℕ) → n < length st.table → (node_at ts n).up ≡ invert_if (node_at st.table n).up.0 (node_at ts (rep st.table n)).up
  pub link : (r : ℕ) → st.live r ≡ true → at m r ≢ 0 → Sound s ps ws st ((at m r - 1) / 2) × (find ts (st.to r) ≡ find ts (stands st.to (at m r - 1)))
  pub root : (r : ℕ) → Sound s ps ws st r → at m r ≡ 0 → (node_at ts (st.to r).1).up ≡ st.to r
  pub size : (r : ℕ) → Sound s ps ws st r → at m r ≡ 0 → size_at ts (st.to r).1 ≡ size_at st.table (st.to r).1 + at m (2048 + r)
  pub state : (r : ℕ) → Sound s ps ws st r → at m r ≡ 0 → Sound s ps ws st (source m r / 2) × (state_at ts (st.to r).1 ≡ invert_state (odd (source m r)) (state_at st.table (st.to (source m r / 2)).1))

module _ (s ps ws : Words) (st : Stage s ps ws) where
  -- A ref that came stands upright at a node.
  pub stands_at : (t : ℕ) → Sound s ps ws st (t / 2) → stands st.to t ≡ (odd t, (st.to (t / 2)).1)
  unfolding stands invert_if
  stands_at t k = ap (invert_if (odd t)) (st.own (t / 2) k.live k.plain).0 ∙ λ z. (xor-none (odd t) z, (st.to (t / 2)).1)

  module _ (m : Words) (ts : Types) (k : Mirror s ps ws st m ts) where
    inside : (r : ℕ) → st.live r ≡ true → (st.to r).1 < length ts
    inside r l = subst (λ n. (st.to r).1 < n) (sym k.len) (st.inside r l)

    -- What is one type of the first table is one of the later.
    pub follow_find : (a b : Ty) → a.1 < length st.table → b.1 < length st.table → find st.table a ≡ find st.table b → find ts a ≡ find ts b
    unfolding find invert_if rep
    follow_find a b ha hb e = later a ha ∙ ap (λ (u : Ty). invert_if u.0 (node_at ts u.1).up) e ∙ sym (later b hb)
      where
        later : (c : Ty) → c.1 < length st.table → find ts c ≡ invert_if (find st.table c).0 (node_at ts (find st.table c).1).up
        later c h = ap (invert_if c.0) (k.follow c.1 h) ∙ invert_twice c.0 (node_at st.table c.1).up.0 (node_at ts (rep st.table c.1)).up

    -- A root is found to be itself.
    pub root_find : (x : ℕ) → Sound s ps ws st (x / 2) → at m (x / 2) ≡ 0 → find ts (stands st.to x) ≡ stands st.to x
    unfolding stands find invert_if
    root_find x o e = find_invert ts (odd x) (st.to (x / 2)) ∙ ap (invert_if (odd x)) top
      where
        top : find ts (st.to (x / 2)) ≡ st.to (x / 2)
        top = ap (λ (t : Ty). invert_if t.0 (node_at ts (st.to (x / 2)).1).up) (st.own (x / 2) o.live o.plain).0 ∙ k.root (x / 2) o e

    root_rep : (r : ℕ) → Sound s ps ws st r → at m r ≡ 0 → rep ts (st.to r).1 ≡ (st.to r).1
    unfolding rep
    root_rep r o e = ap (λ (t : Ty). t.1) (k.root r o e)

    -- A type that is linked is what it is linked to.
    pub link_find : (x u v : ℕ) → st.live (x / 2) ≡ true → u ≡ at m (x / 2) → u ≢ 0 → v ≡ turn x (u - 1) → Sound s ps ws st (v / 2) × (find ts (stands st.to x) ≡ find ts (stands st.to v))
    unfolding stands
    link_find x u v l e z ev =
        let o = k.link (x / 2) l (λ q. z (e ∙ q)) in
        let w : (u - 1) / 2 ≡ v / 2 = ap (λ j. j / 2) refl ∙ (let y : (u - 1) / 2 ≡ turn x (u - 1) / 2 = omega arith in y) ∙ ap (λ j. j / 2) (sym ev) in (
          subst (Sound s ps ws st) (ap (λ j. (j - 1) / 2) (sym e) ∙ w) o.0,
          find_invert ts (odd x) (st.to (x / 2)) ∙ ap (invert_if (odd x)) (o.1 ∙ ap (λ j. find ts (stands st.to (j - 1))) (sym e)) ∙ sym (find_invert ts (odd x) (stands st.to (u - 1))) ∙ ap (find ts) (sym (stands-turn st.to x (u - 1)) ∙ ap (stands st.to) (sym ev)),
        )

-- What a type that is found to be t is found to be, once root lo is hung under root hi.
unfoldable shifted : Ty → Ty → Ty → Ty
shifted lo hi t = elim (eqb t.1 lo.1) [ true ↦ (xor t.0 (xor hi.0 lo.0), hi.1) | false ↦ t ]

shifted_in : (lo hi t : Ty) → t.1 ≡ lo.1 → shifted lo hi t ≡ (xor t.0 (xor hi.0 lo.0), hi.1)
unfolding shifted
shifted_in lo hi t e = rw (eq-eqb t.1 lo.1 e, shifted)

shifted_out : (lo hi t : Ty) → t.1 ≢ lo.1 → shifted lo hi t ≡ t
unfolding shifted
shifted_out lo hi t e = rw (ne_eqb t.1 lo.1 e, shifted)

shifted_invert : (lo hi : Ty) (b : Bool) (t : Ty) → shifted lo hi (invert_if b t) ≡ invert_if b (shifted lo hi t)
unfolding invert_if
shifted_invert lo hi b t = go (ℕ_discrete t.1 lo.1)
  where
    go : Dec (t.1 ≡ lo.1) → shifted lo hi (invert_if b t) ≡ invert_if b (shifted lo hi t)
    go (yes e) = shifted_in lo hi (invert_if b t) e ∙ (λ z. (sym (xor_assoc b t.0 (xor hi.0 lo.0)) z, hi.1)) ∙ ap (invert_if b) (sym (shifted_in lo hi t e))
    go (no e) = shifted_out lo hi (invert_if b t) e ∙ ap (invert_if b) (sym (shifted_out lo hi t e))

module _ (ts : Types) (lo hi : Ty) (hlo : lo.1 < length ts) (hhi : hi.1 < length ts) (rlo : rep ts lo.1 ≡ lo.1) (rhi : rep ts hi.1 ≡ hi.1) (ne : lo.1 ≢ hi.1) (run : Run ts) where
  hang_up : (n : ℕ) → n < length ts → (node_at (hang ts lo hi) n).up ≡ shifted lo hi (node_at ts n).up
  unfolding rep
  hang_up n h = go (ℕ_discrete (rep ts n) lo.1)
    where
      go : Dec (rep ts n ≡ lo.1) → (node_at (hang ts lo hi) n).up ≡ shifted lo hi (node_at ts n).up
      go (yes e) = up_turns ts lo hi hlo hhi rlo rhi ne run.formed n h e ∙ sym (shifted_in lo hi (node_at ts n).up e)
      go (no e) = up_stays ts lo hi hlo hhi rlo rhi ne run.formed n h (run.roots n h) e ∙ sym (shifted_out lo hi (node_at ts n).up e)

  hang-find : (t : Ty) → t.1 < length ts → find (hang ts lo hi) t ≡ shifted lo hi (find ts t)
  unfolding find
  hang-find t h = ap (invert_if t.0) (hang_up t.1 h) ∙ sym (shifted_invert lo hi t.0 (node_at ts t.1).up)

  hang-size : size_at (hang ts lo hi) hi.1 ≡ size_at ts hi.1 + size_at ts lo.1
  unfolding size_at node_at hang
  hang-size = ap (λ (nd : TypeNode). nd.size) (get_or-set_same (map (relabel lo.1 (xor hi.0 lo.0, hi.1)) ts) hi.1 _ _ (rw (map-length (relabel lo.1 (xor hi.0 lo.0, hi.1)) ts) hhi))

  moved-size : (nd : TypeNode) → (relabel lo.1 (xor hi.0 lo.0, hi.1) nd).size ≡ nd.size
  unfolding relabel
  moved-size nd = go (eqb nd.up.1 lo.1) refl
    where
      go : (b : Bool) → eqb nd.up.1 lo.1 ≡ b → (relabel lo.1 (xor hi.0 lo.0, hi.1) nd).size ≡ nd.size
      go true e = rw (e, relabel)
      go false e = rw (e, relabel)

  hang_sizes : (n : ℕ) → n < length ts → n ≢ hi.1 → size_at (hang ts lo hi) n ≡ size_at ts n
  unfolding size_at
  hang_sizes n h d = ap (λ (nd : TypeNode). nd.size) (hung_off ts lo hi n h d) ∙ moved-size (node_at ts n)

pub odd-turn : (b t : ℕ) → odd (turn b t) ≡ xor (odd b) (odd t)
unfolding odd
odd-turn b t = ap (λ k. eqb k 1) (let z : turn b t % 2 ≡ (b + t) % 2 = omega arith in z) ∙ sym (odd-sum b t)

invert_state_twice : (b c : Bool) (u : TypeState) → invert_state b (invert_state c u) ≡ invert_state (xor b c) u
unfolding invert_state
invert_state_twice b c unknown = refl
invert_state_twice b c (known i k d cs) = ap (λ x. known x k d cs) (xor_assoc b c i)

or_known : (u v : TypeState) → u ≢ unknown → or_else u v ≡ u
unfolding or_else
or_known unknown v z = absurd (z refl)
or_known (known i k d cs) v z = refl

or_unknown : (u v : TypeState) → u ≡ unknown → or_else u v ≡ v
unfolding or_else
or_unknown u v e = ap (λ x. or_else x v) e

-- The notes m' are m with root lo, whose class has n nodes, hung under root hi; bare: the state of hi is lo's.
pub record Hung (m : Words) (lo hi n : ℕ) (bare : Bool) (m' : Words) : Type 0 where
  pub long : length m' ≡ 8192
  pub link : at m' (lo / 2) ≡ turn lo hi % 4096 + 1
  pub links : (r : ℕ) → r < 2048 → r ≢ lo / 2 → at m' r ≡ at m r
  pub gain : at m' (2048 + hi / 2) ≡ at m (2048 + hi / 2) + n
  pub gains : (r : ℕ) → r < 2048 → r ≢ hi / 2 → at m' (2048 + r) ≡ at m (2048 + r)
  pub from : bare ≡ true → at m' (4096 + hi / 2) ≡ turn hi (turn lo (source m (lo / 2))) % 4096 + 1
  pub kept : bare ≡ false → at m' (4096 + hi / 2) ≡ at m (4096 + hi / 2)
  pub froms : (r : ℕ) → r < 2048 → r ≢ hi / 2 → at m' (4096 + r) ≡ at m (4096 + r)

-- A root's state is unknown where bare says so, and known elsewhere.
pub record Bare (s ps ws : Words) (st : Stage s ps ws) (ts : Types) (x : ℕ) (bare : Bool) : Type 0 where
  pub yes : bare ≡ true → state_at ts (st.to (x / 2)).1 ≡ unknown
  pub no : bare ≡ false → state_at ts (st.to (x / 2)).1 ≢ unknown

-- Two roots by the notes.
pub record TwoRoots (s ps ws : Words) (st : Stage s ps ws) (m : Words) (x y : ℕ) : Type 0 where
  pub left : Sound s ps ws st (x / 2)
  pub right : Sound s ps ws st (y / 2)
  pub left_root : at m (x / 2) ≡ 0
  pub right_root : at m (y / 2) ≡ 0
  pub apart : x / 2 ≢ y / 2

module _ (s ps ws : Words) (st : Stage s ps ws) (m : Words) (ts : Types) (k : Mirror s ps ws st m ts) (run : Run ts) where
  -- They are roots of the table.
  module _ (x y : ℕ) (o : TwoRoots s ps ws st m x y) where
    pub left_in : (stands st.to x).1 < length ts
    left_in = subst (λ (t : Ty). t.1 < length ts) (sym (stands_at s ps ws st x o.left)) (inside s ps ws st m ts k (x / 2) o.left.live)

    pub right_in : (stands st.to y).1 < length ts
    right_in = subst (λ (t : Ty). t.1 < length ts) (sym (stands_at s ps ws st y o.right)) (inside s ps ws st m ts k (y / 2) o.right.live)

    pub left_top : rep ts (stands st.to x).1 ≡ (stands st.to x).1
    left_top = subst (λ (t : Ty). rep ts t.1 ≡ t.1) (sym (stands_at s ps ws st x o.left)) (root_rep s ps ws st m ts k (x / 2) o.left o.left_root)

    pub right_top : rep ts (stands st.to y).1 ≡ (stands st.to y).1
    right_top = subst (λ (t : Ty). rep ts t.1 ≡ t.1) (sym (stands_at s ps ws st y o.right)) (root_rep s ps ws st m ts k (y / 2) o.right o.right_root)

    pub tops_apart : (stands st.to x).1 ≢ (stands st.to y).1
    tops_apart e = o.apart (st.one (x / 2) (y / 2) o.left.live o.right.live o.left.plain o.right.plain (sym (ap (λ (t : Ty). t.1) (stands_at s ps ws st x o.left)) ∙ e ∙ ap (λ (t : Ty). t.1) (stands_at s ps ws st y o.right)))

  module _ (lo hi n : ℕ) (bare : Bool) (m' : Words) (o : TwoRoots s ps ws st m lo hi) (g : Hung m lo hi n bare m') (en : n ≡ size_at ts (st.to (lo / 2)).1) (is-bare : bare ≡ true → state_at ts (st.to (hi / 2)).1 ≡ unknown) (is_Known : bare ≡ false → state_at ts (st.to (hi / 2)).1 ≢ unknown) where
    abbrev l₁ : ℕ
    l₁ = (st.to (lo / 2)).1

    abbrev h₁ : ℕ
    h₁ = (st.to (hi / 2)).1

    abbrev us : Types
    us = hang ts (odd lo, l₁) (odd hi, h₁)

    hl : l₁ < length ts
    hl = inside s ps ws st m ts k (lo / 2) o.left.live

    hh : h₁ < length ts
    hh = inside s ps ws st m ts k (hi / 2) o.right.live

    rl : rep ts l₁ ≡ l₁
    rl = root_rep s ps ws st m ts k (lo / 2) o.left o.left_root

    rh : rep ts h₁ ≡ h₁
    rh = root_rep s ps ws st m ts k (hi / 2) o.right o.right_root

    node-one : (r q : ℕ) → Sound s ps ws st r → Sound s ps ws st q → r ≢ q → (st.to r).1 ≢ (st.to q).1
    node-one r q a b d e = d (st.one r q a.live b.live a.plain b.plain e)

    ne : l₁ ≢ h₁
    ne = node-one (lo / 2) (hi / 2) o.left o.right o.apart

    few_lo : lo / 2 < 2048
    few_lo = st.low (lo / 2) o.left.live

    few_hi : hi / 2 < 2048
    few_hi = st.low (hi / 2) o.right.live

    moves : (t : Ty) → t.1 < length ts → find us t ≡ shifted (odd lo, l₁) (odd hi, h₁) (find ts t)
    moves = hang-find ts (odd lo, l₁) (odd hi, h₁) hl hh rl rh ne run

    -- A root by the later notes is one by the earlier, and another than lo.
    before : (r : ℕ) → st.live r ≡ true → at m' r ≡ 0 → (at m r ≡ 0) × (r ≢ lo / 2)
    before r l e = go (ℕ_discrete r (lo / 2))
      where
        go : Dec (r ≡ lo / 2) → (at m r ≡ 0) × (r ≢ lo / 2)
        go (yes q) = let z : ◌≡◌ {A = ℕ} (turn lo hi % 4096 + 1) 0 = sym g.link ∙ ap (at m') (sym q) ∙ e in absurd (omega (arith, z))
        go (no q) = (sym (g.links r (st.low r l) q) ∙ e, q)

    hung_follow : (j : ℕ) → j < length st.table → (node_at us j).up ≡ invert_if (node_at st.table j).up.0 (node_at us (rep st.table j)).up
    unfolding rep
    hung_follow j h =
        let up = hang_up ts (odd lo, l₁) (odd hi, h₁) hl hh rl rh ne run in
        up j (subst (λ N. j < N) (sym k.len) h)
        ∙ ap (shifted (odd lo, l₁) (odd hi, h₁)) (k.follow j h)
        ∙ shifted_invert (odd lo, l₁) (odd hi, h₁) (node_at st.table j).up.0 (node_at ts (rep st.table j)).up
        ∙ ap (invert_if (node_at st.table j).up.0) (sym (up (rep st.table j) (subst (λ N. rep st.table j < N) (sym k.len) (st.run.formed j h).0)))

    low_word : (t : ℕ) → t / 2 < 2048 → t % 4096 ≡ t
    low_word t h = omega arith

    turned_ref : (b t : ℕ) → turn b t / 2 ≡ t / 2
    turned_ref b t = omega arith

    -- The word of the new link.
    new_link : at m' (lo / 2) ≡ turn lo hi + 1
    new_link = g.link ∙ ap (λ j. j + 1) (low_word (turn lo hi) (subst (λ j. j < 2048) (sym (turned_ref lo hi)) few_hi))

    found_lo : find ts (st.to (lo / 2)) ≡ (false, l₁)
    unfolding find invert_if
    found_lo = ap (λ (t : Ty). invert_if t.0 (node_at ts l₁).up) (st.own (lo / 2) o.left.live o.left.plain).0 ∙ k.root (lo / 2) o.left o.left_root ∙ (st.own (lo / 2) o.left.live o.left.plain).0

    at_hi : stands st.to (turn lo hi) ≡ (xor (odd lo) (odd hi), h₁)
    unfolding invert_if
    at_hi = stands-turn st.to lo hi ∙ ap (invert_if (odd lo)) (stands_at s ps ws st hi o.right)

    found_hi : find ts (stands st.to (turn lo hi)) ≡ (xor (odd lo) (odd hi), h₁)
    unfolding invert_if
    found_hi = ap (find ts) (stands-turn st.to lo hi) ∙ find_invert ts (odd lo) (stands st.to hi) ∙ ap (invert_if (odd lo)) (root_find s ps ws st m ts k hi o.right o.right_root ∙ stands_at s ps ws st hi o.right)

    hi_in : (stands st.to (turn lo hi)).1 < length ts
    hi_in = subst (λ (t : Ty). t.1 < length ts) (sym at_hi) hh

    -- lo is hi now,
    joined : find us (st.to (lo / 2)) ≡ find us (stands st.to (turn lo hi))
    joined =
        moves (st.to (lo / 2)) hl
        ∙ ap (shifted (odd lo, l₁) (odd hi, h₁)) found_lo
        ∙ shifted_in (odd lo, l₁) (odd hi, h₁) (false, l₁) refl
        ∙ (λ z. (xor_comm (odd hi) (odd lo) z, h₁))
        ∙ sym (shifted_out (odd lo, l₁) (odd hi, h₁) (xor (odd lo) (odd hi), h₁) (λ e. ne (sym e)))
        ∙ ap (shifted (odd lo, l₁) (odd hi, h₁)) (sym found_hi)
        ∙ sym (moves (stands st.to (turn lo hi)) hi_in)

    -- and links that were stay.
    hung_link : (r : ℕ) → st.live r ≡ true → at m' r ≢ 0 → Sound s ps ws st ((at m' r - 1) / 2) × (find us (st.to r) ≡ find us (stands st.to (at m' r - 1)))
    hung_link r l z = go (ℕ_discrete r (lo / 2))
      where
        go : Dec (r ≡ lo / 2) → Sound s ps ws st ((at m' r - 1) / 2) × (find us (st.to r) ≡ find us (stands st.to (at m' r - 1)))
        go (yes q) =
            let e : turn lo hi ≡ at m' r - 1 = omega (arith, ap (at m') q ∙ new_link) in
            (subst (λ j. Sound s ps ws st (j / 2)) e (subst (Sound s ps ws st) (sym (turned_ref lo hi)) o.right), subst (λ j. find us (st.to r) ≡ find us (stands st.to j)) e (subst (λ j. find us (st.to j) ≡ find us (stands st.to (turn lo hi))) (sym q) joined))
        go (no q) =
            let e : at m r ≡ at m' r = sym (g.links r (st.low r l) q) in
            let v = k.link r l (λ y. z (sym e ∙ y)) in
            let b : (stands st.to (at m r - 1)).1 < length ts = subst (λ (t : Ty). t.1 < length ts) (sym (stands_at s ps ws st (at m r - 1) v.0)) (inside s ps ws st m ts k ((at m r - 1) / 2) v.0.live) in
            (subst (λ j. Sound s ps ws st ((j - 1) / 2)) e v.0, subst (λ j. find us (st.to r) ≡ find us (stands st.to (j - 1))) e (moves (st.to r) (inside s ps ws st m ts k r l) ∙ ap (shifted (odd lo, l₁) (odd hi, h₁)) v.1 ∙ sym (moves (stands st.to (at m r - 1)) b)))

    hung_root : (r : ℕ) → Sound s ps ws st r → at m' r ≡ 0 → (node_at us (st.to r).1).up ≡ st.to r
    hung_root r v e =
        let b = before r v.live e in
        hang_up ts (odd lo, l₁) (odd hi, h₁) hl hh rl rh ne run (st.to r).1 (inside s ps ws st m ts k r v.live)
        ∙ ap (shifted (odd lo, l₁) (odd hi, h₁)) (k.root r v b.0)
        ∙ shifted_out (odd lo, l₁) (odd hi, h₁) (st.to r) (node-one r (lo / 2) v o.left b.1)

    hung_size : (r : ℕ) → Sound s ps ws st r → at m' r ≡ 0 → size_at us (st.to r).1 ≡ size_at st.table (st.to r).1 + at m' (2048 + r)
    hung_size r v e = go (ℕ_discrete r (hi / 2))
      where
        b : (at m r ≡ 0) × (r ≢ lo / 2)
        b = before r v.live e

        go : Dec (r ≡ hi / 2) → size_at us (st.to r).1 ≡ size_at st.table (st.to r).1 + at m' (2048 + r)
        go (yes q) =
            ap (λ j. size_at us (st.to j).1) q
            ∙ hang-size ts (odd lo, l₁) (odd hi, h₁) hl hh rl rh ne run
            ∙ (let y : size_at ts h₁ + size_at ts l₁ ≡ size_at st.table h₁ + at m' (2048 + hi / 2) = omega (arith, k.size (hi / 2) o.right o.right_root, g.gain, en) in y)
            ∙ ap (λ j. size_at st.table (st.to j).1 + at m' (2048 + j)) (sym q)
        go (no q) =
            hang_sizes ts (odd lo, l₁) (odd hi, h₁) hl hh rl rh ne run (st.to r).1 (inside s ps ws st m ts k r v.live) (node-one r (hi / 2) v o.right q)
            ∙ k.size r v b.0
            ∙ ap (λ j. size_at st.table (st.to r).1 + j) (sym (g.gains r (st.low r v.live) q))

    same_source : (r : ℕ) → at m' (4096 + r) ≡ at m (4096 + r) → source m' r ≡ source m r
    unfolding source
    same_source r e = ap {B = ℕ} (λ j. elim (eqb j 0) [ true ↦ 2 * r | false ↦ j - 1 ]) e

    Stated : Words → Types → ℕ → Type 0
    Stated w vs r = Sound s ps ws st (source w r / 2) × (state_at vs (st.to r).1 ≡ invert_state (odd (source w r)) (state_at st.table (st.to (source w r / 2)).1))

    -- What hi is now.
    top_state : state_at us h₁ ≡ or_else (state_at ts h₁) (invert_state (xor (odd hi) (odd lo)) (state_at ts l₁))
    top_state = hang_top ts (odd lo, l₁) (odd hi, h₁) hl hh rl rh ne

    top_kept : bare ≡ false → Stated m' us (hi / 2)
    unfolding Stated
    top_kept e =
        let v = k.state (hi / 2) o.right o.right_root in
        let q = same_source (hi / 2) (g.kept e) in
        (subst (λ j. Sound s ps ws st (j / 2)) (sym q) v.0, top_state ∙ or_known (state_at ts h₁) _ (is_Known e) ∙ v.1 ∙ ap (λ j. invert_state (odd j) (state_at st.table (st.to (j / 2)).1)) (sym q))

    top_bare : bare ≡ true → Stated m' us (hi / 2)
    unfolding Stated
    top_bare e =
        let v = k.state (lo / 2) o.left o.left_root in
        let sl = source m (lo / 2) in
        let f = turn hi (turn lo sl) in
        let ref : f / 2 ≡ sl / 2 = turned_ref hi (turn lo sl) ∙ turned_ref lo sl in
        let low : f % 4096 ≡ f = low_word f (subst (λ j. j < 2048) (sym ref) (st.low (sl / 2) v.0.live)) in
        let w : at m' (4096 + hi / 2) ≡ f + 1 = g.from e ∙ ap (λ j. j + 1) low in
        let q : source m' (hi / 2) ≡ f = source_other m' (hi / 2) (λ y. let z : f + 1 ≡ 0 = sym w ∙ y in omega (arith, z)) ∙ (let z : at m' (4096 + hi / 2) - 1 ≡ f = omega (arith, w) in z) in (
          subst (Sound s ps ws st) (sym (ap (λ j. j / 2) q ∙ ref)) v.0,
          top_state
              ∙ or_unknown (state_at ts h₁) _ (is-bare e)
              ∙ ap (invert_state (xor (odd hi) (odd lo))) v.1
              ∙ invert_state_twice (xor (odd hi) (odd lo)) (odd sl) _
              ∙ ap (λ j. invert_state j (state_at st.table (st.to (sl / 2)).1)) (sym (odd-turn hi (turn lo sl) ∙ ap (xor (odd hi)) (odd-turn lo sl) ∙ xor_assoc (odd hi) (odd lo) (odd sl)))
              ∙ ap (λ j. invert_state (odd f) (state_at st.table (st.to j).1)) (sym ref)
              ∙ ap (λ j. invert_state (odd j) (state_at st.table (st.to (j / 2)).1)) (sym q),
        )

    hung_state : (r : ℕ) → Sound s ps ws st r → at m' r ≡ 0 → Stated m' us r
    unfolding Stated
    hung_state r v e = go (ℕ_discrete r (hi / 2)) bare refl
      where
        b : (at m r ≡ 0) × (r ≢ lo / 2)
        b = before r v.live e

        go : Dec (r ≡ hi / 2) → (c : Bool) → bare ≡ c → Stated m' us r
        go (yes q) true c = subst (Stated m' us) (sym q) (top_bare c)
        go (yes q) false c = subst (Stated m' us) (sym q) (top_kept c)
        go (no q) d c =
            let y = k.state r v b.0 in
            let z = same_source r (g.froms r (st.low r v.live) q) in
            (subst (λ j. Sound s ps ws st (j / 2)) (sym z) y.0, hang_state ts (odd lo, l₁) (odd hi, h₁) hl hh rl rh ne (st.to r).1 (inside s ps ws st m ts k r v.live) (node-one r (hi / 2) v o.right q) ∙ y.1 ∙ ap (λ j. invert_state (odd j) (state_at st.table (st.to (j / 2)).1)) (sym z))

    -- The notes are those of the table in which lo is hung under hi.
    mirror_hang : Mirror s ps ws st m' us
    unfolding Stated
    mirror_hang = record { long = g.long; len = hung_length ts (odd lo, l₁) (odd hi, h₁) ∙ k.len; follow = hung_follow; link = hung_link; root = hung_root; size = hung_size; state = hung_state }

  module _ (x y a b : ℕ) (o : TwoRoots s ps ws st m x y) (ea : a ≡ size_at ts (st.to (x / 2)).1) (eb : b ≡ size_at ts (st.to (y / 2)).1) (bare : Bool) (m' : Words) where
    other : TwoRoots s ps ws st m y x
    other = record { left = o.right; right = o.left; left_root = o.right_root; right_root = o.left_root; apart = λ e. o.apart (sym e) }

    at_x : stands st.to x ≡ (odd x, (st.to (x / 2)).1)
    at_x = stands_at s ps ws st x o.left

    at_y : stands st.to y ≡ (odd y, (st.to (y / 2)).1)
    at_y = stands_at s ps ws st y o.right

    sizes : larger ts (stands st.to x) (stands st.to y) ≡ ltb b a
    unfolding larger
    sizes = ap₂ (λ (t u : Ty). ltb (size_at ts u.1) (size_at ts t.1)) at_x at_y ∙ ap₂ ltb (sym eb) (sym ea)

    -- The larger class is x's: y is hung under it.
    pub mirror_left : b < a → Bare s ps ws st ts x bare → Hung m y x b bare m' → Mirror s ps ws st m' (join ts (stands st.to x) (stands st.to y))
    unfolding join
    mirror_left l v g = rw (sizes ∙ lt-ltb b a l, join) (subst (Mirror s ps ws st m') (ap₂ (hang ts) (sym at_y) (sym at_x)) (mirror_hang y x b bare m' other g eb v.yes v.no))

    -- It is not.
    pub mirror_right : a ≤ b → Bare s ps ws st ts y bare → Hung m x y a bare m' → Mirror s ps ws st m' (join ts (stands st.to x) (stands st.to y))
    unfolding join
    mirror_right l v g = rw (sizes ∙ le-ltb b a l, join) (subst (Mirror s ps ws st m') (ap₂ (hang ts) (sym at_x) (sym at_y)) (mirror_hang x y a bare m' o g ea v.yes v.no))

-- Notes that differ in marks alone are of the same table.
pub record Marks (m m' : Words) : Type 0 where
  pub len : length m' ≡ length m
  pub same : (j : ℕ) → j < 6144 → at m' j ≡ at m j

pub marks_same : (m : Words) → Marks m m
marks_same m = record { len = refl; same = λ j h. refl }

pub marks_on : (m m₁ m₂ : Words) → Marks m m₁ → Marks m₁ m₂ → Marks m m₂
marks_on m m₁ m₂ p q = record { len = q.len ∙ p.len; same = λ j h. q.same j h ∙ p.same j h }

pub mirror_marks : (s ps ws : Words) (st : Stage s ps ws) (m m' : Words) (ts : Types) → Marks m m' → Mirror s ps ws st m ts → Mirror s ps ws st m' ts
unfolding source
mirror_marks s ps ws st m m' ts q k = record {
  long = q.len ∙ k.long;
  len = k.len;
  follow = k.follow;
  link = λ r l z. let e = sym (here r l) in subst (λ j. Sound s ps ws st ((j - 1) / 2) × (find ts (st.to r) ≡ find ts (stands st.to (j - 1)))) e (k.link r l (λ y. z (sym e ∙ y)));
  root = λ r o e. k.root r o (sym (here r o.live) ∙ e);
  size = λ r o e. k.size r o (sym (here r o.live) ∙ e) ∙ ap (λ j. size_at st.table (st.to r).1 + j) (sym (q.same (2048 + r) (omega (arith, st.low r o.live))));
  state = λ r o e. subst (λ j. Sound s ps ws st (j / 2) × (state_at ts (st.to r).1 ≡ invert_state (odd j) (state_at st.table (st.to (j / 2)).1))) (from r o) (k.state r o (sym (here r o.live) ∙ e));
}
  where
    here : (r : ℕ) → st.live r ≡ true → at m' r ≡ at m r
    here r l = q.same r (omega (arith, st.low r l))

    from : (r : ℕ) → Sound s ps ws st r → source m r ≡ source m' r
    from r o = ap {B = ℕ} (λ j. elim (eqb j 0) [ true ↦ 2 * r | false ↦ j - 1 ]) (sym (q.same (4096 + r) (omega (arith, st.low r o.live))))
