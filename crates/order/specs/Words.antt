-- What the test reads, by its words: roots along links, what refs are, and their children.
use Rattle.std.specs.Prelude.{ℕ, ◌+◌, ◌-◌, ◌*◌, ◌/◌, ◌%◌, ◌≤◌, ◌<◌, ◌≡◌, refl, Bool, Option, Some, None, MatchOption, ◌≢◌, ◌⊎◌, eqb, length, take, set}
use Rattle.std.specs.Option.{unwrap_or}
use Rattle.std.proofs.Math.Path.{sym, ap, subst}
use Rattle.std.proofs.Common.{◌∙◌, ap₂, inl, inr, ⊎_elim, length-set, get_or-set_same, get_or-set_other, lt-ltb, le-ltb}
use Rattle.std.proofs.Math.Bool.{true, false}
use Rattle.std.proofs.Math.Decide.{ℕ_discrete}
use native.Mathlib.Omega.{arith}
use Rattle.rules.specs.Lists.{Words}
use Rattle.rules.specs.Sheet.{at}
use Rattle.rules.specs.Types.{Ty, Types, invert_if, invert_state, find, state_at, size_at}
use Rattle.rules.specs.Pigeonholes.{lt_or}
use Rattle.rules.specs.CommonSides.{xor_twice}
use Rattle.table.specs.declared.Row.{Row}
use Rattle.table.specs.Packing.{types_of, kind_at}
use Rattle.table.specs.ChildTypes.{ChildTypes}
use Rattle.refs.specs.Meaning.{odd, turn, record_side, record_types}
use Rattle.refs.specs.Refs.{place, Bit, IdOf}
use Rattle.refs.specs.Children.{Cells, Below, below}
use Rattle.order.specs.Stage.{stands, Plain, Stage, kind_word, id_word, kids, base, stands-turn, find_invert}
use Rattle.order.specs.Mirror.{source, Sound, Mirror, link_find, root_find, stands_at}

-- Type t is linked to type v.
abbrev pub Linked : Words → ℕ → ℕ → Type 0
Linked m t v = (at m (t / 2 % 2048) ≢ 0) × (v ≡ turn (t % 2) (at m (t / 2 % 2048) - 1))

-- x is found along links from t.
pub record Leads (m : Words) (t x : ℕ) : Type 0 where
  pub at : (s ps ws : Words) (st : Stage s ps ws) (ts : Types) → Mirror s ps ws st m ts → Sound s ps ws st (t / 2) → Sound s ps ws st (x / 2) × (find ts (stands st.to t) ≡ find ts (stands st.to x))

-- It is a root.
pub record Found (m : Words) (t x : ℕ) : Type 0 where
  pub at : (s ps ws : Words) (st : Stage s ps ws) (ts : Types) → Mirror s ps ws st m ts → Sound s ps ws st (t / 2) → Sound s ps ws st (x / 2) × (at m (x / 2) ≡ 0) × (find ts (stands st.to t) ≡ stands st.to x)

-- The root of any type that came.
pub record Roots (s ps m : Words) (t x : ℕ) : Type 0 where
  pub at : (ws : Words) (st : Stage s ps ws) (ts : Types) → Mirror s ps ws st m ts → st.live (t / 2) ≡ true → Sound s ps ws st (x / 2) × (at m (x / 2) ≡ 0) × (find ts (stands st.to t) ≡ stands st.to x)

pub leads-same : (m : Words) (t : ℕ) → Leads m t t
leads-same m t = record { at = λ s ps ws st ts k o. (o, refl) }

low_ref : (r : ℕ) → r < 2048 → r % 2048 ≡ r
low_ref r h = omega arith

-- A type that came is what it is linked to.
linked_find : (s ps ws : Words) (st : Stage s ps ws) (m : Words) (ts : Types) → Mirror s ps ws st m ts → (t v : ℕ) → st.live (t / 2) ≡ true → Linked m t v → Sound s ps ws st (v / 2) × (find ts (stands st.to t) ≡ find ts (stands st.to v))
linked_find s ps ws st m ts k t v l o =
    let u = at m (t / 2 % 2048) in
    link_find s ps ws st m ts k t u v l (ap (at m) (low_ref (t / 2) (st.low (t / 2) l))) o.0 (o.1 ∙ (let y : turn (t % 2) (u - 1) ≡ turn t (u - 1) = omega arith in y))

pub leads_up : (m : Words) (t x v : ℕ) → Leads m t x → Linked m x v → Leads m t v
leads_up m t x v f h = record {
  at = λ s ps ws st ts k o.
      let a = f.at s ps ws st ts k o in
      let b = linked_find s ps ws st m ts k x v a.0.live h in
      (b.0, a.1 ∙ b.1);
}

pub found_root : (m : Words) (t x : ℕ) → Leads m t x → at m (x / 2 % 2048) ≡ 0 → Found m t x
found_root m t x f z = record {
  at = λ s ps ws st ts k o.
      let a = f.at s ps ws st ts k o in
      let r : at m (x / 2) ≡ 0 = ap (at m) (sym (low_ref (x / 2) (st.low (x / 2) a.0.live))) ∙ z in
      (a.0, r, a.1 ∙ root_find s ps ws st m ts k x a.0 r);
}

-- A ref that has a link is plain by it;
pub roots_up : (s ps m : Words) (t v x : ℕ) → Linked m t v → Found m v x → Roots s ps m t x
roots_up s ps m t v x h f = record {
  at = λ ws st ts k l.
      let b = linked_find s ps ws st m ts k t v l h in
      let a = f.at s ps ws st ts k b.0 in
      (a.0, a.1, b.1 ∙ a.2);
}

-- one that has none is a root, if it is no Param,
roots_plain : (s ps m : Words) (t : ℕ) → at m (t / 2 % 2048) ≡ 0 → Plain s ps (t / 2) → Roots s ps m t t
roots_plain s ps m t e p = record {
  at = λ ws st ts k l.
      let o : Sound s ps ws st (t / 2) = record { live = l; plain = p } in
      let r : at m (t / 2) ≡ 0 = ap (at m) (sym (low_ref (t / 2) (st.low (t / 2) l))) ∙ e in
      (o, r, root_find s ps ws st m ts k t o r);
}

pub plain_low : (s ps : Words) (r : ℕ) → r < 1024 → Plain s ps r
plain_low s ps r h = record { not_param = λ l. absurd (omega (arith, h, l)) }

pub roots_low : (s ps m : Words) (t : ℕ) → at m (t / 2 % 2048) ≡ 0 → t / 2 < 1024 → t < 4096 → Roots s ps m t t
roots_low s ps m t e h l = roots_plain s ps m t e (plain_low s ps (t / 2) h)

pub roots_known : (s ps m : Words) (t p k : ℕ) → at m (t / 2 % 2048) ≡ 0 → p ≡ place ps (t / 2) → k ≡ at s (p + 1) → k ≢ 1 → t < 4096 → Roots s ps m t t
roots_known s ps m t p k e ep ek z h = roots_plain s ps m t e (record { not_param = λ l y. z (ek ∙ ap (λ j. at s (j + 1)) ep ∙ y) })

pub roots_none : (m : Words) (t w u : ℕ) → w ≡ t / 2 % 2048 → u ≡ at m w → u ≡ 0 → at m (t / 2 % 2048) ≡ 0
roots_none m t w u e q z = ap (at m) (sym e) ∙ sym q ∙ z

-- and else its parameter's.
pub roots_param : (s ps m : Words) (t p k d b v x : ℕ) → 1024 ≤ t / 2 → p ≡ place ps (t / 2) → k ≡ at s (p + 1) → k ≡ 1 → d ≡ at s (p + 3) → d < 8 → Bit (record_side s p) b → v ≡ turn t (2 * (256 + d) + b) → (x < 4096 → Found m v x) → x < 4096 → Roots s ps m t x
unfolding stands odd
roots_param s ps m t p k d b v x l ep ek y ed hd bit ev f h = record {
  at = λ ws st ts w live.
      let o = st.param (t / 2) live l (sym (ek ∙ ap (λ j. at s (j + 1)) ep) ∙ y) in
      let ref : v / 2 ≡ 256 + at s (place ps (t / 2) + 3) = ap (λ j. j / 2) ev ∙ (let z : turn t (2 * (256 + d) + b) / 2 ≡ 256 + d = omega (arith, bit.small) in z) ∙ ap (λ j. 256 + j) (ed ∙ ap (λ j. at s (j + 3)) ep) in
      let sound : Sound s ps ws st (v / 2) = record { live = subst (λ j. st.live j ≡ true) (sym ref) o.0; plain = plain_low s ps (v / 2) (omega (arith, ref, hd, ed ∙ ap (λ j. at s (j + 3)) ep)) } in
      let a = (f h).at s ps ws st ts w sound in
      let same : stands st.to v ≡ stands st.to t =
      ap (stands st.to) ev
      ∙ stands-turn st.to t (2 * (256 + d) + b)
      ∙ ap (invert_if (odd t)) (param-stands st d b bit.small ∙ ap₂ (λ (i : Bool) (j : ℕ). invert_if i (st.to j)) (bit.is ∙ ap (record_side s) ep) (ap (λ j. 256 + j) (ed ∙ ap (λ j. at s (j + 3)) ep)) ∙ sym o.1) in
      (a.0, a.1, ap (find ts) (sym same) ∙ a.2);
}
  where
    param-stands : {ws : Words} (st : Stage s ps ws) (d b : ℕ) → b < 2 → stands st.to (2 * (256 + d) + b) ≡ invert_if (odd b) (st.to (256 + d))
    param-stands st d b h = ap₂ (λ (i : Bool) (j : ℕ). invert_if i (st.to j)) (odd_low d b) (let z : (2 * (256 + d) + b) / 2 ≡ 256 + d = omega (arith, h) in z)
      where
        odd_low : (d b : ℕ) → odd (2 * (256 + d) + b) ≡ odd b
        odd_low d b = ap (λ j. eqb j 1) (let z : (2 * (256 + d) + b) % 2 ≡ b % 2 = omega arith in z)

-- The kind of a ref by what it is,
pub kind-node : (s ps ws : Words) (r k : ℕ) → r < 256 → k ≡ kind_at (types_of ws) r → k ≡ kind_word s ps ws r
unfolding kind_word
kind-node s ps ws r k h e = e ∙ rw (lt-ltb r 256 h, kind_word)

pub kind_param_lem : (s ps ws : Words) (r : ℕ) → 256 ≤ r → r < 1024 → 0 ≡ kind_word s ps ws r
unfolding kind_word
kind_param_lem s ps ws r l h = rw (le-ltb r 256 l, lt-ltb r 1024 h, kind_word)

pub kind_record : (s ps ws : Words) (r p k : ℕ) → 256 ≤ r → 1024 ≤ r → p ≡ place ps r → k ≡ at s (p + 1) → k ≡ kind_word s ps ws r
unfolding kind_word
kind_record s ps ws r p k l h ep ek = ek ∙ ap (λ j. at s (j + 1)) ep ∙ rw (le-ltb r 256 l, le-ltb r 1024 h, kind_word)

-- its id,
pub id_is : (s ps ws : Words) (r d : ℕ) → IdOf s ps ws r d → d ≡ id_word s ps ws r
unfolding id_word
id_is s ps ws r d o = ⊎_elim (λ h. o.node h ∙ rw (lt-ltb r 256 h, id_word)) (λ h. o.is h ∙ rw (le-ltb r 256 h, id_word)) (lt_or r 256)

-- and the size of its class.
pub size-node : (ws m : Words) (r w a g : ℕ) → r < 256 → w ≡ r → a ≡ size_at (types_of ws) r → g ≡ at m (2048 + w) → a + g < 65536 → a + g ≡ base ws r + at m (2048 + r)
unfolding base
size-node ws m r w a g h ew ea eg l = ap₂ (λ (i j : ℕ). i + j) (ea ∙ rw (lt-ltb r 256 h, base)) (eg ∙ ap (λ j. at m (2048 + j)) ew)

pub size_other : (ws m : Words) (r w g : ℕ) → 256 ≤ r → w ≡ r → g ≡ at m (2048 + w) → 1 + g < 65536 → 1 + g ≡ base ws r + at m (2048 + r)
unfolding base
size_other ws m r w g h ew eg l = ap₂ (λ (i j : ℕ). i + j) (let z : 1 ≡ base ws r = rw (le-ltb r 256 h, base) in z) (eg ∙ ap (λ j. at m (2048 + j)) ew)

-- The children of a ref.
pub record Kids (s ps ws : Words) (r : ℕ) (o : Row) : Type 0 where
  pub few : o.n ≤ 8
  pub long : o.n ≤ length o.types
  pub are : take o.n o.types ≡ kids s ps ws r

pub kids-node : (s ps ws : Words) (r : ℕ) (o : Row) → r < 256 → ChildTypes ws r o → Kids s ps ws r o
unfolding kids
kids-node s ps ws r o h c = record { few = c.few; long = c.long; are = c.are ∙ rw (lt-ltb r 256 h, kids) }

pub kids_record : (s ps ws : Words) (r p h j : ℕ) (o : Row) → 256 ≤ r → p ≡ place ps r → h ≡ at s (p + 4) → j ≡ h → Cells s j o → Kids s ps ws r o
unfolding kids
kids_record s ps ws r p h j o l ep eh ej c = record { few = c.few; long = c.long; are = c.are ∙ ap (record_types s) (ej ∙ eh ∙ ap (λ k. at s (k + 4)) ep) ∙ rw (le-ltb r 256 l, kids) }

-- They are those below it.
pub kids_below : (s ps ws : Words) (r : ℕ) (o : Row) → Below s ps ws r o → Kids s ps ws r o
unfolding kids below
kids_below s ps ws r o b = record { few = b.few; long = b.long; are = b.are }

pub kids_known : (ws : Words) (r k : ℕ) → k ≡ kind_at (types_of ws) r → k ≢ 0 → kind_at (types_of ws) r ≢ 0
kids_known ws r k e z q = z (e ∙ q)

same_or : (a b : ℕ) → (a ≡ b) ⊎ (a ≢ b)
same_or a b = go (ℕ_discrete a b)
  where
    go : Dec (a ≡ b) → (a ≡ b) ⊎ (a ≢ b)
    go (yes e) = inl e
    go (no n) = inr n

-- One link on from type t, or none.
pub record Steps (m : Words) (t x : ℕ) : Type 0 where
  pub at : (s ps ws : Words) (st : Stage s ps ws) (ts : Types) → Mirror s ps ws st m ts → st.live (t / 2) ≡ true → find ts (stands st.to t) ≡ find ts (stands st.to x)

pub steps-none : (m : Words) (t : ℕ) → Steps m t t
steps-none m t = record { at = λ s ps ws st ts k l. refl }

pub steps_up : (m : Words) (t v : ℕ) → Linked m t v → Steps m t v
steps_up m t v h = record { at = λ s ps ws st ts k l. (linked_find s ps ws st m ts k t v l h).1 }

-- or itself.
pub steps_either : (m : Words) (t v : ℕ) (o : Option ℕ) → MatchOption o (at m (t / 2 % 2048) ≡ 0) (Linked m t) → v ≡ unwrap_or o t → Steps m t v
steps_either m t v None h e = subst (Steps m t) (sym e) (steps-none m t)
steps_either m t v (Some u) h e = subst (Steps m t) (sym e) (steps_up m t u h)

-- Type t, whose root is x, is linked to it directly; nothing is written where it is its own.
pub record Shortens (m : Words) (t x : ℕ) (m' : Words) : Type 0 where
  pub own : t / 2 ≡ x / 2 → m' ≡ m
  pub len : length m' ≡ length m
  pub there : t / 2 ≢ x / 2 → t / 2 < 2048 → length m ≡ 8192 → at m' (t / 2) ≡ turn t x % 4096 + 1
  pub rest : (j : ℕ) → t / 2 < 2048 → j ≢ t / 2 → at m' j ≡ at m j

pub shortens_own : (m : Words) (t x : ℕ) → t / 2 ≡ x / 2 → Shortens m t x m
shortens_own m t x e = record { own = λ q. refl; len = refl; there = λ n. absurd (n e); rest = λ j h d. refl }

pub shortens_set : (m : Words) (t x w v : ℕ) → t / 2 ≢ x / 2 → w ≡ t / 2 % 2048 → v ≡ turn (t % 2) x → Shortens m t x (set m w (v % 4096 + 1))
shortens_set m t x w v n ew ev = record {
  own = λ e. absurd (n e);
  len = length-set m w (v % 4096 + 1);
  there = λ z h l.
      let r = ew ∙ low_ref (t / 2) h in
      ap (at (set m w (v % 4096 + 1))) (sym r) ∙ get_or-set_same m w (v % 4096 + 1) 0 (omega (arith, l, r, h)) ∙ ap (λ j. j % 4096 + 1) (ev ∙ (let y : turn (t % 2) x ≡ turn t x = omega arith in y));
  rest = λ j h d. get_or-set_other m w j (v % 4096 + 1) 0 (λ q. d (q ∙ ew ∙ low_ref (t / 2) h));
}

-- The notes are of the same table then,
module _ (s ps ws : Words) (st : Stage s ps ws) (m : Words) (ts : Types) (k : Mirror s ps ws st m ts) (t x : ℕ) (l : st.live (t / 2) ≡ true) (o : Sound s ps ws st (x / 2)) (rx : at m (x / 2) ≡ 0) (f : find ts (stands st.to t) ≡ stands st.to x) (m' : Words) (g : Shortens m t x m') where
  -- for what is linked is no root.
  not_root : t / 2 ≢ x / 2 → Plain s ps (t / 2) → at m (t / 2) ≢ 0
  not_root n p z =
      let a : Sound s ps ws st (t / 2) = record { live = l; plain = p } in
      n (st.one (t / 2) (x / 2) l o.live p o.plain (sym (ap (λ (u : Ty). u.1) (stands_at s ps ws st t a)) ∙ ap (λ (u : Ty). u.1) (sym (root_find s ps ws st m ts k t a z) ∙ f) ∙ ap (λ (u : Ty). u.1) (stands_at s ps ws st x o)))

  module _ (n : t / 2 ≢ x / 2) where
    low_t : t / 2 < 2048
    low_t = st.low (t / 2) l

    word : at m' (t / 2) ≡ turn t x + 1
    word = g.there n low_t k.long ∙ ap (λ j. j + 1) (let z : turn t x < 4096 = omega (arith, st.low (x / 2) o.live) in let y : turn t x % 4096 ≡ turn t x = omega (arith, z) in y)

    other : (r : ℕ) → Sound s ps ws st r → at m' r ≡ 0 → (r ≢ t / 2) × (at m r ≡ 0)
    other r a e =
        let d : r ≢ t / 2 = λ q. omega (arith, sym (ap (at m') q ∙ word) ∙ e) in
        (d, sym (g.rest r low_t d) ∙ e)

    same : (r : ℕ) → (d : ℕ) → 2048 ≤ d → at m' (d + r) ≡ at m (d + r)
    same r d h = g.rest (d + r) low_t (λ q. omega (arith, q, low_t, h))

    same_from : (r : ℕ) → source m r ≡ source m' r
    unfolding source
    same_from r = ap {B = ℕ} (λ j. elim (eqb j 0) [ true ↦ 2 * r | false ↦ j - 1 ]) (sym (same r 4096 (omega arith)))

    here_link : Sound s ps ws st ((at m' (t / 2) - 1) / 2) × (find ts (st.to (t / 2)) ≡ find ts (stands st.to (at m' (t / 2) - 1)))
    unfolding stands invert_if
    here_link =
        let e : turn t x ≡ at m' (t / 2) - 1 = omega (arith, word) in
        let r : turn t x / 2 ≡ x / 2 = omega arith in (
          subst (λ j. Sound s ps ws st (j / 2)) e (subst (Sound s ps ws st) (sym r) o),
          subst (λ j. find ts (st.to (t / 2)) ≡ find ts (stands st.to j)) e
              (sym (invert_back (odd t) (find ts (st.to (t / 2))))
              ∙ ap (invert_if (odd t)) (sym (find_invert ts (odd t) (st.to (t / 2))) ∙ f ∙ sym (root_find s ps ws st m ts k x o rx))
              ∙ sym (find_invert ts (odd t) (stands st.to x))
              ∙ ap (find ts) (sym (stands-turn st.to t x))),
        )
      where
        invert_back : (b : Bool) (u : Ty) → invert_if b (invert_if b u) ≡ u
        invert_back b u = λ i. (xor_twice b u.0 i, u.1)

    shortened : Mirror s ps ws st m' ts
    shortened = record {
      long = g.len ∙ k.long;
      len = k.len;
      follow = k.follow;
      link = λ r live z. ⊎_elim (λ q. subst (λ j. Sound s ps ws st ((at m' j - 1) / 2) × (find ts (st.to j) ≡ find ts (stands st.to (at m' j - 1)))) (sym q) here_link) (λ d. let e = sym (g.rest r low_t d) in subst (λ j. Sound s ps ws st ((j - 1) / 2) × (find ts (st.to r) ≡ find ts (stands st.to (j - 1)))) e (k.link r live (λ y. z (sym e ∙ y)))) (same_or r (t / 2));
      root = λ r a e. k.root r a (other r a e).1;
      size = λ r a e. k.size r a (other r a e).1 ∙ ap (λ j. size_at st.table (st.to r).1 + j) (sym (same r 2048 (omega arith)));
      state = λ r a e. subst (λ j. Sound s ps ws st (j / 2) × (state_at ts (st.to r).1 ≡ invert_state (odd j) (state_at st.table (st.to (j / 2)).1))) (same_from r) (k.state r a (other r a e).1);
    }

  pub mirror_shorter : Mirror s ps ws st m' ts
  mirror_shorter = ⊎_elim (λ e. subst (λ (j : Words). Mirror s ps ws st j ts) (sym (g.own e)) k) shortened (same_or (t / 2) (x / 2))

  -- and a root stays one.
  pub root_stays : (y : ℕ) → Sound s ps ws st (y / 2) → at m (y / 2) ≡ 0 → at m' (y / 2) ≡ 0
  root_stays y a e = ⊎_elim (λ q. ap (λ (j : Words). at j (y / 2)) (g.own q) ∙ e) (λ n. g.rest (y / 2) (st.low (t / 2) l) (λ q. not_root n (subst (Plain s ps) q a.plain) (ap (at m) (sym q) ∙ e)) ∙ e) (same_or (t / 2) (x / 2))
