-- Rows that spread along a relation: n rows of 384 bits at place m say which node leads to which, and each of the n rows at m + rows·behind takes what the rows that its node leads to have.
-- What is there in the end is what walks along the relation reach.
use Prim.Native.Nat.{ℕ, zero, suc, ◌+◌, ◌*◌, ◌-◌, ◌/◌, ◌%◌, ◌^◌, ◌≤◌, ◌<◌}
use Rattle.std.specs.Prelude.{◌≡◌, Bool, true, false, ◌||◌, ◌⊎◌, ◌↔◌, ◌≢◌, T, eqb, length, set, Option, Some, None}
use Rattle.std.proofs.Math.Path.{refl, ap}
use Rattle.std.proofs.Common.{Fits, div-le_self, sym, ◌∙◌, ap₂, subst, not-suc-le-zero, le_of_suc-le-suc, div-one, arith, eqb→eq, shr-shr, get_or-set_same, eqb-true, eq-eqb, ne_eqb}
use Rattle.std.proofs.Math.Logic.{inl, inr, ⊎_elim}
use Rattle.std.proofs.Math.Nat.{pow-succ', div-div-eq-div-mul, div-eq_of_lt, pow-le-pow_right}
use Rattle.std.specs.Int.Bits.{bit_or}
use Rattle.std.specs.Int.{w32}
use Rattle.std.specs.Int.Count.{count_trailing_zeros, trailing_of_zero, under}
use Rattle.std.proofs.lemmas.Nat.Bits.{bit_at-trailing_zeros}
use Rattle.std.proofs.Math.ListN.{length-set}
use Rattle.std.proofs.Math.Seq.{get_or-set_other}
use Rattle.std.proofs.lemmas.Bool.{eqb-false}
use Rattle.rules.specs.Lists.{Words}
use Rattle.rules.specs.Sheet.{at}
use Rattle.candidates.specs.Layout.{rows_links, rows_open, rows_reach, rows_sets, rows_end, rows_behind}
use Rattle.candidates.specs.Bits.{bit, on, bit-bit_or, join_words, Moved, moved_none, slack, Joined}

-- Node x leads to node y; node x has j.
unfoldable pub leads : ℕ → Words → ℕ → ℕ → Bool
leads m ws x y = on ws (m + 12 * x) y

unfoldable pub has : ℕ → Words → ℕ → ℕ → Bool
has m ws x j = on ws (m + rows_behind + 12 * x) j

-- A walk along a relation of n nodes.
pub data Walk (R : ℕ → ℕ → Bool) (n : ℕ) : ℕ → ℕ → Type 0 where
  stay : {x : ℕ} → Walk R n x x
  step : {x y z : ℕ} → T (R x y) → y < n → Walk R n y z → Walk R n x z

pub walk_on : {R : ℕ → ℕ → Bool} {n x y z : ℕ} → Walk R n x y → Walk R n y z → Walk R n x z
walk_on stay q = q
walk_on (step t h p) q = step t h (walk_on p q)

-- A walk from x leads to a node that has j.
pub record Comes (n m : ℕ) (ws : Words) (x j : ℕ) : Type 0 where
  pub end : ℕ
  pub below : end < n
  pub walk : Walk (leads m ws) n x end
  pub there : T (has m ws end j)

-- Words joined: those of the row, and all others.
module _ (a b : ℕ) (ws : Words) (apart : (a + 12 ≤ b) ⊎ (b + 12 ≤ a)) (fits : a + 12 ≤ length ws) where
  joined_length : (k : ℕ) → length (join_words k a b ws) ≡ length ws
  unfolding join_words
  joined_length zero = refl
  joined_length (suc k) = simp length-set (joined_length k)

  joined_out : (k p : ℕ) → (p < a) ⊎ (a + k ≤ p) → at (join_words k a b ws) p ≡ at ws p
  unfolding join_words
  joined_out zero p h = refl
  joined_out (suc k) p h =
      get_or-set_other (join_words k a b ws) (a + k) p _ 0 (λ e. ⊎_elim (λ l. omega (arith, l, e)) (λ l. omega (arith, l, e)) h)
      ∙ joined_out k p (⊎_elim (λ l. inl l) (λ l. inr (omega (arith, l))) h)

  joined_in : (k i : ℕ) → k ≤ 12 → i < k → at (join_words k a b ws) (a + i) ≡ bit_or (at ws (a + i)) (at ws (b + i))
  unfolding join_words
  joined_in zero i l h = absurd (not-suc-le-zero h)
  joined_in (suc k) i l h = go (k - i) refl (joined_in k i)
    where
      us : Words
      us = join_words k a b ws

      there : at us (b + k) ≡ at ws (b + k)
      there = joined_out k (b + k) (⊎_elim (λ q. inr (omega (arith, q))) (λ q. inl (omega (arith, q))) apart)

      go : (d : ℕ) → k - i ≡ d → (k ≤ 12 → i < k → at us (a + i) ≡ bit_or (at ws (a + i)) (at ws (b + i))) → at (set us (a + k) (bit_or (at us (a + k)) (at us (b + k)))) (a + i) ≡ bit_or (at ws (a + i)) (at ws (b + i))
      go zero e ih =
          let q : i ≡ k = omega arith in
          ap (λ z. at (set us (a + k) (bit_or (at us (a + k)) (at us (b + k)))) (a + z)) q
          ∙ get_or-set_same us (a + k) _ 0 (omega (arith, joined_length k))
          ∙ ap₂ bit_or (joined_out k (a + k) (inr (omega arith))) there
          ∙ ap (λ z. bit_or (at ws (a + z)) (at ws (b + z))) (sym q)
      go (suc d) e ih =
          get_or-set_other us (a + k) (a + i) _ 0 (λ z. omega (arith, z)) ∙ ih (omega arith) (omega arith)

  -- A bit of the row, and of another row.
  pub on_joined : (j : ℕ) → j < 384 → on (join_words 12 a b ws) a j ≡ (on ws a j || on ws b j)
  unfolding on
  on_joined j h = ap (λ w. bit w (j % 32)) (joined_in 12 (j / 32) (omega arith) (omega arith)) ∙ bit-bit_or (at ws (a + j / 32)) (at ws (b + j / 32)) (j % 32)

  pub on_others : (q j : ℕ) → (q + 12 ≤ a) ⊎ (a + 12 ≤ q) → j < 384 → on (join_words 12 a b ws) q j ≡ on ws q j
  unfolding on
  on_others q j s h = ap (λ w. bit w (j % 32)) (joined_out 12 (q + j / 32) (⊎_elim (λ l. inl (omega (arith, l))) (λ l. inr (omega (arith, l))) s))

-- Outside the rows that spread.
abbrev pub Outside : ℕ → ℕ → ℕ → Type 0
Outside n m p = (p < m + rows_behind) ⊎ (m + rows_behind + 12 * n ≤ p)

-- Rows that have what they had, and what walks lead to.
pub record Grown (n m : ℕ) (ws us : Words) : Type 0 where
  pub size : length us ≡ length ws
  pub same : (p : ℕ) → Outside n m p → at us p ≡ at ws p
  pub keeps : (x j : ℕ) → x < n → j < 384 → T (has m ws x j) → T (has m us x j)
  pub sound : (x j : ℕ) → x < n → j < 384 → T (has m us x j) → Comes n m ws x j

-- The relation stays.
leads-same : (n m : ℕ) (ws us : Words) → n ≤ 384 → ((p : ℕ) → Outside n m p → at us p ≡ at ws p) → (x y : ℕ) → x < n → y < 384 → leads m us x y ≡ leads m ws x y
unfolding leads on
leads-same n m ws us l same x y hx hy = ap (λ w. bit w (y % 32)) (same (m + 12 * x + y / 32) (inl (omega arith)))

pub walk_same : {n : ℕ} (m : ℕ) (ws us : Words) → n ≤ 384 → ((p : ℕ) → Outside n m p → at us p ≡ at ws p) → {x y : ℕ} → x < n → Walk (leads m us) n x y → Walk (leads m ws) n x y
walk_same m ws us l same h stay = stay
walk_same {n} m ws us l same h (step {x} {y} t k p) = step (subst T (leads-same n m ws us l same x y h (omega arith)) t) k (walk_same m ws us l same k p)

pub grown_none : (n m : ℕ) (ws : Words) → Grown n m ws ws
grown_none n m ws = record { size = refl; same = λ p o. refl; keeps = λ x j hx hj t. t; sound = λ x j hx hj t. record { end = x; below = hx; walk = stay; there = t } }

pub grown_on : (n m : ℕ) (ws us vs : Words) → n ≤ 384 → Grown n m ws us → Grown n m us vs → Grown n m ws vs
grown_on n m ws us vs l g k = record {
  size = k.size ∙ g.size;
  same = λ p o. k.same p o ∙ g.same p o;
  keeps = λ x j hx hj t. k.keeps x j hx hj (g.keeps x j hx hj t);
  sound = λ x j hx hj t.
      let a = k.sound x j hx hj t in
      let b = g.sound a.end j a.below hj a.there in
      record { end = b.end; below = b.below; walk = walk_on (walk_same m ws us l g.same hx a.walk) b.walk; there = b.there };
}

or_left : (a b : Bool) → T a → T (a || b)
or_left true b t = tt
or_left false b t = absurd t

or_cases : (a b : Bool) → T (a || b) → T a ⊎ T b
or_cases true b t = inl tt
or_cases false b t = inr t

or_right : (a b : Bool) → T b → T (a || b)
or_right true b t = tt
or_right false b t = t

equal_or : (z x : ℕ) → (z ≡ x) ⊎ (z ≢ x)
equal_or z x = go (eqb z x) refl
  where
    go : (b : Bool) → eqb z x ≡ b → (z ≡ x) ⊎ (z ≢ x)
    go true e = inl (eqb-true z x e)
    go false e = inr (eqb-false z x e)

-- Row x joined with row y, to which a walk leads from x.
module _ (n m x y : ℕ) (ws us : Words) (l : n ≤ 384) (hx : x < n) (hy : y < n) (ne : y ≢ x) (fits : m + rows_behind + 12 * n ≤ length ws) (walk : Walk (leads m ws) n x y) where
  abbrev a : ℕ
  a = m + rows_behind + 12 * x

  abbrev b : ℕ
  b = m + rows_behind + 12 * y

  apart : (a + 12 ≤ b) ⊎ (b + 12 ≤ a)
  apart = go (x - y) refl
    where
      go : (d : ℕ) → x - y ≡ d → (a + 12 ≤ b) ⊎ (b + 12 ≤ a)
      go zero e = inl (omega (arith, ne))
      go (suc d) e = inr (omega arith)

  grown_joined : us ≡ join_words 12 a b ws → Grown n m ws us
  unfolding has
  grown_joined e = rw e (record {
    size = joined_length a b ws apart (omega arith) 12;
    same = λ p o. joined_out a b ws apart (omega arith) 12 p (⊎_elim (λ h. inl (omega (arith, h))) (λ h. inr (omega (arith, h))) o);
    keeps = keeps;
    sound = sound;
  })
    where
      other : (z : ℕ) → z ≢ x → (m + rows_behind + 12 * z + 12 ≤ a) ⊎ (a + 12 ≤ m + rows_behind + 12 * z)
      other z q = go (x - z) refl
        where
          go : (d : ℕ) → x - z ≡ d → (m + rows_behind + 12 * z + 12 ≤ a) ⊎ (a + 12 ≤ m + rows_behind + 12 * z)
          go zero e = inr (omega (arith, q))
          go (suc d) e = inl (omega arith)

      keeps : (z j : ℕ) → z < n → j < 384 → T (on ws (m + rows_behind + 12 * z) j) → T (on (join_words 12 a b ws) (m + rows_behind + 12 * z) j)
      keeps z j hz hj u = ⊎_elim at_row elsewhere (equal_or z x)
        where
          at_row : z ≡ x → T (on (join_words 12 a b ws) (m + rows_behind + 12 * z) j)
          at_row q = subst (λ w. T (on (join_words 12 a b ws) (m + rows_behind + 12 * w) j)) (sym q) (subst T (sym (on_joined a b ws apart (omega arith) j hj)) (or_left (on ws a j) (on ws b j) (subst (λ w. T (on ws (m + rows_behind + 12 * w) j)) q u)))

          elsewhere : z ≢ x → T (on (join_words 12 a b ws) (m + rows_behind + 12 * z) j)
          elsewhere q = subst T (sym (on_others a b ws apart (omega arith) (m + rows_behind + 12 * z) j (other z q) hj)) u

      sound : (z j : ℕ) → z < n → j < 384 → T (on (join_words 12 a b ws) (m + rows_behind + 12 * z) j) → Comes n m ws z j
      sound z j hz hj u = ⊎_elim at_row elsewhere (equal_or z x)
        where
          from : T (on ws a j) ⊎ T (on ws b j) → Comes n m ws x j
          from (inl v) = record { end = x; below = hx; walk = stay; there = v }
          from (inr v) = record { end = y; below = hy; walk = walk; there = v }

          at_row : z ≡ x → Comes n m ws z j
          at_row q = subst (λ w. Comes n m ws w j) (sym q) (from (or_cases (on ws a j) (on ws b j) (subst T (on_joined a b ws apart (omega arith) j hj) (subst (λ w. T (on (join_words 12 a b ws) (m + rows_behind + 12 * w) j)) q u))))

          elsewhere : z ≢ x → Comes n m ws z j
          elsewhere q = record { end = z; below = hz; walk = stay; there = subst T (on_others a b ws apart (omega arith) (m + rows_behind + 12 * z) j (other z q) hj) u }

-- Two moves are a move.
pub moved_on : (ws us vs : Words) (a b : Bool) → Moved ws us a → Moved us vs b → Moved ws vs (a || b)
moved_on ws us vs true true k g = record { still = λ e. absurd (subst T e tt); fell = λ e. omega (arith, k.fell refl, g.fell refl) }
moved_on ws us vs true false k g = record { still = λ e. absurd (subst T e tt); fell = λ e. subst (λ l. slack l < slack ws) (sym (g.still refl)) (k.fell refl) }
moved_on ws us vs false true k g = record { still = λ e. absurd (subst T e tt); fell = λ e. subst (λ l. slack vs < slack l) (k.still refl) (g.fell refl) }
moved_on ws us vs false false k g = record { still = λ e. g.still refl ∙ k.still refl; fell = λ e. absurd (subst T (sym e) tt) }

or_none : (a b : Bool) → (a || b) ≡ false → (a ≡ false) × (b ≡ false)
or_none true b e = absurd (subst T e tt)
or_none false b e = (refl, e)

-- Node x has what the nodes below y have to which it leads.
abbrev pub HasBelow : ℕ → ℕ → Words → ℕ → ℕ → Type 0
HasBelow n m ws x y = (z j : ℕ) → z < y → z < n → j < 384 → T (leads m ws x z) → T (has m ws z j) → T (has m ws x j)

-- Node x has taken what the nodes below y have to which it leads; where nothing changed it had that.
pub record Taken (n m x y : ℕ) (ws us : Words) (changed : Bool) : Type 0 where
  pub grown : Grown n m ws us
  pub moved : Moved ws us changed
  pub closed : changed ≡ false → HasBelow n m ws x y

pub taken_none : (n m x : ℕ) (ws : Words) → Taken n m x 0 ws ws false
taken_none n m x ws = record { grown = grown_none n m ws; moved = moved_none ws; closed = λ e z j h k l t u. absurd (not-suc-le-zero h) }

pub taken_join : (n m x y : ℕ) (ws us vs : Words) (changed r : Bool) → n ≤ 384 → x < n → y < n → y ≢ x → m + rows_behind + 12 * n ≤ length us → on us (m + 12 * x) y ≡ true
    → Taken n m x y ws us changed → Joined us vs r (m + rows_behind + 12 * x) (m + rows_behind + 12 * y) → Taken n m x (y + 1) ws vs (changed || r)
unfolding leads has
taken_join n m x y ws us vs changed r l hx hy ne fits t k i = record {
  grown = grown_on n m ws us vs l k.grown (grown_joined n m x y us vs l hx hy ne fits (step (subst T (sym t) tt) hy stay) i.is);
  moved = moved_on ws us vs changed r k.moved i.moved;
  closed = λ e z j h hz hj u v. had (or_none changed r e) z j h hz hj u v;
}
  where
    had : (changed ≡ false) × (r ≡ false) → (z j : ℕ) → z < y + 1 → z < n → j < 384 → T (leads m ws x z) → T (has m ws z j) → T (has m ws x j)
    had e z j h hz hj u v = ⊎_elim here before (equal_or z y)
      where
        before : z ≢ y → T (has m ws x j)
        before q = k.closed e.0 z j (omega (arith, q)) hz hj u v

        here : z ≡ y → T (has m ws x j)
        here q =
            let s : us ≡ ws = k.moved.still e.0 in
            let w : T (on us (m + rows_behind + 12 * y) j) = subst (λ c. T (on us (m + rows_behind + 12 * c) j)) q (subst (λ c. T (on c (m + rows_behind + 12 * z) j)) (sym s) v) in
            let o = on_joined (m + rows_behind + 12 * x) (m + rows_behind + 12 * y) us (apart n m x y us vs l hx hy ne fits (step (subst T (sym t) tt) hy stay)) (omega arith) j hj in
            let g : T (on (join_words 12 (m + rows_behind + 12 * x) (m + rows_behind + 12 * y) us) (m + rows_behind + 12 * x) j) = subst T (sym o) (or_right (on us (m + rows_behind + 12 * x) j) (on us (m + rows_behind + 12 * y) j) w) in
            subst (λ c. T (on c (m + rows_behind + 12 * x) j)) (sym i.is ∙ i.moved.still e.1 ∙ s) g

pub taken_self : (n m x y : ℕ) (ws us : Words) (changed : Bool) → y ≡ x → Taken n m x y ws us changed → Taken n m x (y + 1) ws us changed
taken_self n m x y ws us changed q k = record {
  grown = k.grown;
  moved = k.moved;
  closed = λ e z j h hz hj u v. ⊎_elim (λ (s : z ≡ y). subst (λ c. T (has m ws c j)) (s ∙ q) v) (λ s. k.closed e z j (omega (arith, s)) hz hj u v) (equal_or z y);
}

-- There is room for the rows, and x is a node.
pub record Room (n m x : ℕ) (ws : Words) : Type 0 where
  pub few : n ≤ 384
  pub node : x < n
  pub fits : m + rows_behind + 12 * n ≤ length ws

-- Node x takes what node y has: whatever was taken before, it is one node more.
pub record Takes (n m x y : ℕ) (us vs : Words) (r : Bool) : Type 0 where
  pub size : length vs ≡ length us
  pub grown : Grown n m us vs
  pub moved : Moved us vs r
  pub more : (ws : Words) (changed : Bool) → Taken n m x y ws us changed → Taken n m x (y + 1) ws vs (changed || r)

or_false : (b : Bool) → b ≡ (b || false)
or_false true = refl
or_false false = refl

pub takes_self : (n m x y : ℕ) (us : Words) → y ≡ x → Takes n m x y us us false
takes_self n m x y us e = record { size = refl; grown = grown_none n m us; moved = moved_none us; more = λ ws changed k. subst (Taken n m x (y + 1) ws us) (or_false changed) (taken_self n m x y ws us changed e k) }

pub takes_join : (n m x y : ℕ) (us vs : Words) (r : Bool) → Room n m x us → y < n → y ≢ x → on us (m + 12 * x) y ≡ true → length vs ≡ length us
    → Joined us vs r (m + rows_behind + 12 * x) (m + rows_behind + 12 * y) → Takes n m x y us vs r
unfolding leads
takes_join n m x y us vs r o hy ne t s i = record {
  size = s;
  grown = grown_joined n m x y us vs o.few o.node hy ne o.fits (step (subst T (sym t) tt) hy stay) i.is;
  moved = i.moved;
  more = λ ws changed k. taken_join n m x y ws us vs changed r o.few o.node hy ne o.fits t k i;
}

pub room_same : (n m x : ℕ) (ws us : Words) → length us ≡ length ws → Room n m x ws → Room n m x us
room_same n m x ws us e o = record { few = o.few; node = o.node; fits = omega (arith, o.fits) }

-- The row has no bit from y on, below z.
pub record Clear (us : Words) (p y z : ℕ) : Type 0 where
  pub up : y ≤ z
  pub none : (k : ℕ) → y ≤ k → k < z → on us p k ≡ false

-- r is the next bit of the row from y on; n or more where there is none below n.
pub record NextOn (us : Words) (p y n r : ℕ) : Type 0 where
  pub up : y ≤ r
  pub none : (k : ℕ) → y ≤ k → k < r → on us p k ≡ false
  pub here : r < n → on us p r ≡ true

-- Where a search of bits below n ends: at the bit, or at the end.
abbrev pub or_end : ℕ → Option ℕ → ℕ
or_end n None = n
or_end n (Some r) = r

-- A bit is below n, if it is one.
abbrev pub Below : ℕ → Option ℕ → Type 0
Below n None = Unit {0}
Below n (Some r) = r < n

-- A bit is one from y on that is 1, if it is one.
abbrev pub Found : Words → ℕ → ℕ → Option ℕ → Type 0
Found us p y None = Unit {0}
Found us p y (Some r) = (y ≤ r) × (on us p r ≡ true)

-- o is the next bit of the row from y on, of those below n, if there is one.
pub record NextBit (us : Words) (p y n : ℕ) (o : Option ℕ) : Type 0 where
  pub none : (k : ℕ) → y ≤ k → k < or_end n o → on us p k ≡ false
  pub below : Below n o
  pub found : Found us p y o

-- So the end of the search is the next bit by number.
pub bit_next : (us : Words) (p y n : ℕ) (o : Option ℕ) → y ≤ n → NextBit us p y n o → NextOn us p y n (or_end n o)
bit_next us p y n None h b = record { up = h; none = b.none; here = λ k. absurd (omega arith) }
bit_next us p y n (Some r) h b = record { up = b.found.0; none = b.none; here = λ k. b.found.1 }

pub bit_found : (us : Words) (p y n r : ℕ) → r < n → NextOn us p y n r → NextBit us p y n (Some r)
bit_found us p y n r h b = record { none = b.none; below = h; found = (b.up, b.here h) }

pub bit_past : (us : Words) (p y n r : ℕ) → n ≤ r → NextOn us p y n r → NextBit us p y n None
bit_past us p y n r h b = record { none = λ k a c. b.none k a (omega arith); below = tt; found = tt }

pub taken_skip : (n m x y w : ℕ) (ws us : Words) (changed : Bool) → NextOn us (m + 12 * x) y n w → Taken n m x y ws us changed → Taken n m x w ws us changed
unfolding leads
taken_skip n m x y w ws us changed o k = record {
  grown = k.grown;
  moved = k.moved;
  closed = λ e z j h hz hj u v. go e z j h hz hj u v (y - z) refl;
}
  where
    go : changed ≡ false → (z j : ℕ) → z < w → z < n → j < 384 → T (on ws (m + 12 * x) z) → T (has m ws z j) → (d : ℕ) → y - z ≡ d → T (has m ws x j)
    go e z j h hz hj u v zero q = absurd (subst T (ap (λ c. on c (m + 12 * x) z) (sym (k.moved.still e)) ∙ o.none z (omega arith) h) u)
    go e z j h hz hj u v (suc d) q = k.closed e z j (omega arith) hz hj u v

-- Node x is at node y, to which it leads, or past the last.
pub record Taking (n m x y : ℕ) (ws us : Words) (changed : Bool) : Type 0 where
  pub taken : Taken n m x y ws us changed
  pub room : Room n m x us
  pub next : y < n → on us (m + 12 * x) y ≡ true

pub taking_start : (n m x y : ℕ) (ws : Words) → Room n m x ws → NextOn ws (m + 12 * x) 0 n y → Taking n m x y ws ws false
taking_start n m x y ws r o = record { taken = taken_skip n m x 0 y ws ws false o (taken_none n m x ws); room = r; next = o.here }

pub taking_next : (n m x y w : ℕ) (ws us vs : Words) (changed r : Bool) → Taking n m x y ws us changed → Takes n m x y us vs r → NextOn vs (m + 12 * x) (y + 1) n w → Taking n m x w ws vs (changed || r)
taking_next n m x y w ws us vs changed r k g o = record { taken = taken_skip n m x (y + 1) w ws vs (changed || r) o (g.more ws changed k.taken); room = room_same n m x us vs g.size k.room; next = o.here }

-- The same where the next node is found, or none is.
pub taking_first : (n m x : ℕ) (o : Option ℕ) (ws : Words) → Room n m x ws → NextBit ws (m + 12 * x) 0 n o → Taking n m x (or_end n o) ws ws false
taking_first n m x o ws r b = taking_start n m x (or_end n o) ws r (bit_next ws (m + 12 * x) 0 n o (omega arith) b)

pub taking_after : (n m x y : ℕ) (p o : Option ℕ) (ws us vs : Words) (changed r : Bool) → p ≡ Some y → Below n p → Taking n m x (or_end n p) ws us changed → Takes n m x y us vs r → NextBit vs (m + 12 * x) (y + 1) n o → Taking n m x (or_end n o) ws vs (changed || r)
taking_after n m x y p o ws us vs changed r e h k g b =
    let l : y < n = subst (Below n) e h in
    taking_next n m x y (or_end n o) ws us vs changed r (subst (λ q. Taking n m x (or_end n q) ws us changed) e k) g (bit_next vs (m + 12 * x) (y + 1) n o (omega arith) b)

pub taking_leads : (n m x y : ℕ) (ws us : Words) (changed : Bool) → Taking n m x y ws us changed → y < n → on us (m + 12 * x) y ≡ true
taking_leads n m x y ws us changed k h = k.next h

pub taking_few : (n m x y : ℕ) (ws us : Words) (changed : Bool) → Taking n m x y ws us changed → y < n → y + 1 ≤ 384
taking_few n m x y ws us changed k h = omega (arith, k.room.few)

pub taking_fits : (n m x y : ℕ) (ws us vs : Words) (changed : Bool) → Taking n m x y ws us changed → length vs ≡ length us → m + 12 * x + 12 ≤ length vs
taking_fits n m x y ws us vs changed k e = omega (arith, k.room.node, k.room.fits)

pub taking_done : (n m x y : ℕ) (ws us : Words) (changed : Bool) → n ≤ y → Taking n m x y ws us changed → Taken n m x n ws us changed
taking_done n m x y ws us changed h k = record { grown = k.taken.grown; moved = k.taken.moved; closed = λ e z j i hz. k.taken.closed e z j (omega arith) hz }

-- The row stands in the buffer.
pub row_fits : (n m x : ℕ) (ws : Words) → Room n m x ws → m + 12 * x + 12 ≤ length ws
row_fits n m x ws o = omega (arith, o.node, o.fits)

-- The nodes below i have what the nodes have to which they lead.
abbrev pub Closed : ℕ → ℕ → ℕ → Words → Type 0
Closed n m i ws = (x : ℕ) → x < i → x < n → HasBelow n m ws x n

-- So many nodes have had their turn.
pub record Passed (n m i : ℕ) (ws us : Words) (changed : Bool) : Type 0 where
  pub grown : Grown n m ws us
  pub moved : Moved ws us changed
  pub closed : changed ≡ false → Closed n m i ws

pub passed_none : (n m : ℕ) (ws : Words) → Passed n m 0 ws ws false
passed_none n m ws = record { grown = grown_none n m ws; moved = moved_none ws; closed = λ e x h. absurd (not-suc-le-zero h) }

pub passed_more : (n m i : ℕ) (ws us vs : Words) (changed r : Bool) → n ≤ 384 → Passed n m i ws us changed → Taken n m i n us vs r → Passed n m (i + 1) ws vs (changed || r)
passed_more n m i ws us vs changed r l k g = record {
  grown = grown_on n m ws us vs l k.grown g.grown;
  moved = moved_on ws us vs changed r k.moved g.moved;
  closed = λ e z h hz. had (or_none changed r e) z h hz (i - z) refl;
}
  where
    had : (changed ≡ false) × (r ≡ false) → (z : ℕ) → z < i + 1 → z < n → (d : ℕ) → i - z ≡ d → HasBelow n m ws z n
    had e z h hz (suc d) q = k.closed e.0 z (omega arith) hz
    had e z h hz zero q =
        let s : z ≡ i = omega arith in
        subst (λ c. HasBelow n m ws c n) (sym s) (subst (λ c. HasBelow n m c i n) (k.moved.still e.0) (g.closed e.1))

-- What is spread: what there was, and all that walks lead to.
pub record Spread (n m : ℕ) (ws us : Words) : Type 0 where
  pub grown : Grown n m ws us
  pub closed : Closed n m n us

-- What a walk leads to a node has.
pub spread_back : (n m : ℕ) (ws us : Words) → n ≤ 384 → Spread n m ws us → (j : ℕ) → j < 384 → {x y : ℕ} → x < n → Walk (leads m ws) n x y → T (has m us y j) → T (has m us x j)
spread_back n m ws us l s j hj hx stay v = v
spread_back n m ws us l s j hj hx (step {x} {y} t k p) v =
    s.closed x hx hx y j k k hj (subst T (sym (leads-same n m ws us l s.grown.same x y hx (omega arith))) t) (spread_back n m ws us l s j hj k p v)

-- What a node has in the end is what a walk from it leads to.
pub spread_has : (n m : ℕ) (ws us : Words) → n ≤ 384 → Spread n m ws us → (x j : ℕ) → x < n → j < 384 → T (has m us x j) ↔ Comes n m ws x j
spread_has n m ws us l s x j hx hj = (s.grown.sound x j hx hj, λ c. spread_back n m ws us l s j hj hx c.walk (s.grown.keeps c.end j c.below hj c.there))

-- Below the trailing zeros of a word its bits are 0.
zeros_low : (k n d : ℕ) → d < count_trailing_zeros k n → n / 2 ^ d % 2 ≡ 0
unfolding count_trailing_zeros
zeros_low zero n d h = absurd (not-suc-le-zero h)
zeros_low (suc k) n d h = go (n % 2) refl d h (zeros_low k (n / 2))
  where
    go : (r : ℕ) → n % 2 ≡ r → (d : ℕ) → d < under r (count_trailing_zeros k (n / 2)) → ((e : ℕ) → e < count_trailing_zeros k (n / 2) → n / 2 / 2 ^ e % 2 ≡ 0) → n / 2 ^ d % 2 ≡ 0
    go zero e zero h ih = ap (λ x. x % 2) (div-one n) ∙ e
    go zero e (suc d) h ih = ap (λ x. x % 2) (ap (λ x. n / x) (pow-succ' 2 d) ∙ sym (div-div-eq-div-mul n 2 (2 ^ d))) ∙ ih d (le_of_suc-le-suc h)
    go (suc r) e d h ih = absurd (not-suc-le-zero h)

-- Bits of one word from y on, while a shift has trailing zeros.
off_at : (us : Words) (p y k t w : ℕ) → w ≡ at us (p + y / 32) → t ≡ count_trailing_zeros 32 (w / 2 ^ (y % 32)) → y ≤ k → k < y + t → k / 32 ≡ y / 32 → on us p k ≡ false
unfolding on bit
off_at us p y k t w e z l h q =
    let d = k - y in
    let r : k % 32 ≡ y % 32 + d = omega arith in
    let u : w / 2 ^ (y % 32) / 2 ^ d % 2 ≡ 0 = zeros_low 32 (w / 2 ^ (y % 32)) d (omega arith) in
    ap₂ (λ a b. eqb (a / 2 ^ b % 2) 1) (ap (λ c. at us (p + c)) q ∙ sym e) r
    ∙ ne_eqb (w / 2 ^ (y % 32 + d) % 2) 1 (λ v. omega (arith, ap (λ x. x % 2) (shr-shr w (y % 32) d), u, v))

-- And the bit at the trailing zeros is 1.
zeros_end : (k n : ℕ) → count_trailing_zeros k n < k → n / 2 ^ count_trailing_zeros k n % 2 ≡ 1
unfolding count_trailing_zeros
zeros_end zero n h = absurd (not-suc-le-zero h)
zeros_end (suc k) n h = go (n % 2) refl (omega arith) h (zeros_end k (n / 2))
  where
    go : (r : ℕ) → n % 2 ≡ r → r < 2 → under r (count_trailing_zeros k (n / 2)) < suc k → (count_trailing_zeros k (n / 2) < k → n / 2 / 2 ^ count_trailing_zeros k (n / 2) % 2 ≡ 1) → n / 2 ^ under r (count_trailing_zeros k (n / 2)) % 2 ≡ 1
    go zero e l h ih = ap (λ x. x % 2) (ap (λ x. n / x) (pow-succ' 2 (count_trailing_zeros k (n / 2))) ∙ sym (div-div-eq-div-mul n 2 (2 ^ count_trailing_zeros k (n / 2)))) ∙ ih (le_of_suc-le-suc h)
    go (suc zero) e l h ih = ap (λ x. x % 2) (div-one n) ∙ e
    go (suc (suc r)) e l h ih = absurd (omega arith)

on_at : (us : Words) (p y t w : ℕ) → w ≡ at us (p + y / 32) → t ≡ count_trailing_zeros 32 (w / 2 ^ (y % 32)) → y % 32 + t < 32 → on us p (y + t) ≡ true
unfolding on bit
on_at us p y t w e z h =
    let q : (y + t) / 32 ≡ y / 32 = omega arith in
    let r : (y + t) % 32 ≡ y % 32 + t = omega arith in
    let u : w / 2 ^ (y % 32) / 2 ^ t % 2 ≡ 1 = ap (λ d. w / 2 ^ (y % 32) / 2 ^ d % 2) z ∙ zeros_end 32 (w / 2 ^ (y % 32)) (subst (λ d. d < 32) z (omega arith)) in
    ap₂ (λ a b. eqb (a / 2 ^ b % 2) 1) (ap (λ c. at us (p + c)) q ∙ sym e) r
    ∙ eq-eqb (w / 2 ^ (y % 32 + t) % 2) 1 (sym (ap (λ x. x % 2) (shr-shr w (y % 32) t)) ∙ u)

-- The next bit: none is sought, it is in the word of y, or it comes after that word.
pub next_past : (us : Words) (p y n : ℕ) → n ≤ y → NextOn us p y n y
next_past us p y n h = record { up = omega arith; none = λ k a b. absurd (omega arith); here = λ l. absurd (omega arith) }

pub next_here : (us : Words) (p y n t z : ℕ) → t ≡ z → z ≡ count_trailing_zeros 32 (at us (p + y / 32) / 2 ^ (y % 32)) → y % 32 + t < 32 → NextOn us p y n (y + t)
next_here us p y n t z e f h = record {
  up = omega arith;
  none = λ k a b. off_at us p y k t (at us (p + y / 32)) refl (e ∙ f) a b (omega arith);
  here = λ l. on_at us p y t (at us (p + y / 32)) refl (e ∙ f) h;
}

pub next_after : (us : Words) (p y n t z r : ℕ) → t ≡ z → z ≡ count_trailing_zeros 32 (at us (p + y / 32) / 2 ^ (y % 32)) → 32 ≤ y % 32 + t → NextOn us p (32 * (y / 32 + 1)) n r → NextOn us p y n r
next_after us p y n t z r e f h o = record { up = omega (arith, o.up); none = λ k a b. go k a b (32 * (y / 32 + 1) - k) refl; here = o.here }
  where
    go : (k : ℕ) → y ≤ k → k < r → (d : ℕ) → 32 * (y / 32 + 1) - k ≡ d → on us p k ≡ false
    go k a b zero q = o.none k (omega arith) b
    go k a b (suc d) q = off_at us p y k t (at us (p + y / 32)) refl (e ∙ f) a (omega arith) (omega arith)

-- Word by word: what is behind word j.
pub clear_none : (us : Words) (p y : ℕ) → Clear us p y y
clear_none us p y = record { up = omega arith; none = λ k a b. absurd (omega arith) }

word_at : (us : Words) (p j : ℕ) → at us (p + j) ≡ at us (p + 32 * j / 32)
word_at us p j = ap (λ c. at us (p + c)) (let q : j ≡ 32 * j / 32 = omega arith in q)

word_zeros : (us : Words) (p j t z : ℕ) → t ≡ z → z ≡ count_trailing_zeros 32 (at us (p + j)) → t ≡ count_trailing_zeros 32 (at us (p + j) / 2 ^ (32 * j % 32))
word_zeros us p j t z e f = e ∙ f ∙ ap (count_trailing_zeros 32) (sym (ap (λ c. at us (p + j) / 2 ^ c) (let q : 32 * j % 32 ≡ 0 = omega arith in q) ∙ div-one (at us (p + j))))

pub clear_word : (us : Words) (p y j t z : ℕ) → t ≡ z → z ≡ count_trailing_zeros 32 (at us (p + j)) → 32 ≤ t → Clear us p y (32 * j) → Clear us p y (32 * (j + 1))
clear_word us p y j t z e f h c = record { up = omega (arith, c.up); none = λ k a b. go k a b (32 * j - k) refl }
  where
    go : (k : ℕ) → y ≤ k → k < 32 * (j + 1) → (d : ℕ) → 32 * j - k ≡ d → on us p k ≡ false
    go k a b (suc d) q = c.none k a (omega arith)
    go k a b zero q = off_at us p (32 * j) k t (at us (p + j)) (word_at us p j) (word_zeros us p j t z e f) (omega arith) (omega arith) (omega arith)

pub first_here : (us : Words) (p y n j t z : ℕ) → t ≡ z → z ≡ count_trailing_zeros 32 (at us (p + j)) → t < 32 → Clear us p y (32 * j) → NextOn us p y n (32 * j + t)
first_here us p y n j t z e f h c = record {
  up = omega (arith, c.up);
  none = λ k a b. go k a b (32 * j - k) refl;
  here = λ q. on_at us p (32 * j) t (at us (p + j)) (word_at us p j) (word_zeros us p j t z e f) (omega arith);
}
  where
    go : (k : ℕ) → y ≤ k → k < 32 * j + t → (d : ℕ) → 32 * j - k ≡ d → on us p k ≡ false
    go k a b (suc d) q = c.none k a (omega arith)
    go k a b zero q = off_at us p (32 * j) k t (at us (p + j)) (word_at us p j) (word_zeros us p j t z e f) (omega arith) b (omega arith)

pub first_past : (us : Words) (p y n j : ℕ) → n ≤ 32 * j → Clear us p y (32 * j) → NextOn us p y n (32 * j)
first_past us p y n j h c = record { up = c.up; none = c.none; here = λ q. absurd (omega arith) }

-- A word that is 0 has no bit, and another has one.
zero-zeros : (w : ℕ) → w ≡ 0 → 32 ≡ count_trailing_zeros 32 w
zero-zeros w e = sym (ap (count_trailing_zeros 32) e ∙ trailing_of_zero 32)

some_zeros : (w : ℕ) → w ≢ 0 → w < 2 ^ 32 → count_trailing_zeros 32 w < 32
some_zeros w h l = (bit_at-trailing_zeros w32 w (omega arith) l).0

pub clear_zero : (us : Words) (p y j : ℕ) → at us (p + j) ≡ 0 → Clear us p y (32 * j) → Clear us p y (32 * (j + 1))
clear_zero us p y j e c = clear_word us p y j 32 32 refl (zero-zeros (at us (p + j)) e) (omega arith) c

-- The first bit of word j on is found, or it is past the end.
pub word_found : (us : Words) (p y n j t : ℕ) → at us (p + j) ≢ 0 → Fits w32 (at us (p + j)) → t ≡ count_trailing_zeros 32 (at us (p + j)) → 32 * j + t < n → Clear us p y (32 * j) → NextBit us p y n (Some (32 * j + t))
word_found us p y n j t h f e l c = bit_found us p y n (32 * j + t) l (first_here us p y n j t t refl e (omega (arith, e, some_zeros (at us (p + j)) h f.fits)) c)

pub word_past : (us : Words) (p y n j t : ℕ) → at us (p + j) ≢ 0 → Fits w32 (at us (p + j)) → t ≡ count_trailing_zeros 32 (at us (p + j)) → n ≤ 32 * j + t → Clear us p y (32 * j) → NextBit us p y n None
word_past us p y n j t h f e l c = bit_past us p y n (32 * j + t) l (first_here us p y n j t t refl e (omega (arith, e, some_zeros (at us (p + j)) h f.fits)) c)

-- So it is with the bits of the word of y, shifted.
module _ (us : Words) (p y n : ℕ) where
  abbrev shifted : ℕ
  shifted = at us (p + y / 32) / 2 ^ (y % 32)

  -- It has no digit past those that are left of the word.
  shifted_end : Fits w32 (at us (p + y / 32)) → shifted ≢ 0 → y % 32 + count_trailing_zeros 32 shifted < 32
  shifted_end f h = go (32 - (y % 32 + t)) refl
    where
      t : ℕ
      t = count_trailing_zeros 32 shifted

      one : at us (p + y / 32) / 2 ^ (y % 32 + t) % 2 ≡ 1
      one = ap (λ x. x % 2) (sym (shr-shr (at us (p + y / 32)) (y % 32) t)) ∙ zeros_end 32 shifted (some_zeros shifted h (omega (arith, f.fits, div-le_self (at us (p + y / 32)) (2 ^ (y % 32)))))

      none : 32 ≤ y % 32 + t → at us (p + y / 32) / 2 ^ (y % 32 + t) ≡ 0
      none l = div-eq_of_lt (let q : at us (p + y / 32) < 2 ^ (y % 32 + t) = omega (arith, f.fits, pow-le-pow_right {n = 2} (omega arith) l) in q)

      go : (d : ℕ) → 32 - (y % 32 + t) ≡ d → y % 32 + t < 32
      go (suc d) e = omega arith
      go zero e = absurd (omega (arith, one, ap (λ x. x % 2) (none (omega arith))))

  here : shifted ≢ 0 → Fits w32 (at us (p + y / 32)) → NextOn us p y n (y + count_trailing_zeros 32 shifted)
  here h f = next_here us p y n (count_trailing_zeros 32 shifted) (count_trailing_zeros 32 shifted) refl refl (shifted_end f h)

  pub next_found : shifted ≢ 0 → Fits w32 (at us (p + y / 32)) → y + count_trailing_zeros 32 shifted < n → NextBit us p y n (Some (y + count_trailing_zeros 32 shifted))
  next_found h f l = bit_found us p y n (y + count_trailing_zeros 32 shifted) l (here h f)

  pub next_over : shifted ≢ 0 → Fits w32 (at us (p + y / 32)) → n ≤ y + count_trailing_zeros 32 shifted → NextBit us p y n None
  next_over h f l = bit_past us p y n (y + count_trailing_zeros 32 shifted) l (here h f)

  pub next_later : (o : Option ℕ) → shifted ≡ 0 → NextBit us p (32 * (y / 32 + 1)) n o → NextBit us p y n o
  next_later o e b = record { none = λ k a h. go k a h (32 * (y / 32 + 1) - k) refl; below = b.below; found = found o b.found }
    where
      found : (o : Option ℕ) → Found us p (32 * (y / 32 + 1)) o → Found us p y o
      found None f = tt
      found (Some r) f = (omega (arith, f.0), f.1)

      go : (k : ℕ) → y ≤ k → k < or_end n o → (d : ℕ) → 32 * (y / 32 + 1) - k ≡ d → on us p k ≡ false
      go k a h zero q = b.none k (omega arith) h
      go k a h (suc d) q = off_at us p y k 32 (at us (p + y / 32)) refl (zero-zeros shifted e) a (omega arith) (omega arith)

-- There is room for the rows.
pub record Rows (n m : ℕ) (ws : Words) : Type 0 where
  pub few : n ≤ 384
  pub fits : m + rows_behind + 12 * n ≤ length ws

pub rows_same : (n m : ℕ) (ws us : Words) → length us ≡ length ws → Rows n m ws → Rows n m us
rows_same n m ws us e o = record { few = o.few; fits = omega (arith, o.fits) }

pub rows_room : (n m x : ℕ) (ws : Words) → Rows n m ws → x < n → Room n m x ws
rows_room n m x ws o h = record { few = o.few; node = h; fits = o.fits }

pub pass_more : (n m i : ℕ) (ws us vs : Words) (changed r : Bool) → Rows n m us → Passed n m i ws us changed → Taken n m i n us vs r → Passed n m (i + 1) ws vs (changed || r)
pass_more n m i ws us vs changed r o = passed_more n m i ws us vs changed r o.few

pub pass_done : (n m i : ℕ) (ws us : Words) (changed : Bool) → n ≤ i → Passed n m i ws us changed → Passed n m n ws us changed
pass_done n m i ws us changed h k = record { grown = k.grown; moved = k.moved; closed = λ e x l. k.closed e x (omega arith) }

-- While a pass changes anything the slack falls; in the end the nodes have what the nodes have to which they lead.
pub record Going (n m : ℕ) (ws us : Words) (changed : Bool) : Type 0 where
  pub grown : Grown n m ws us
  pub closed : changed ≡ false → Closed n m n us

pub going_start : (n m : ℕ) (ws : Words) → Going n m ws ws true
going_start n m ws = record { grown = grown_none n m ws; closed = λ e. absurd (subst T e tt) }

pub going_done : (n m : ℕ) (ws us : Words) (changed : Bool) → changed ≡ false → Going n m ws us changed → Spread n m ws us
going_done n m ws us changed e k = record { grown = k.grown; closed = k.closed e }

-- What is left to do: the slack, and one more while a pass is due.
abbrev pub due : Bool → ℕ
due true = 1
due false = 0

-- Rows that have grown, with no more slack.
pub record Visited (n m : ℕ) (ws us : Words) : Type 0 where
  pub grown : Grown n m ws us
  pub less : slack us ≤ slack ws

pub visited_none : (n m : ℕ) (ws : Words) → Visited n m ws ws
visited_none n m ws = record { grown = grown_none n m ws; less = omega arith }

pub visited_on : (n m : ℕ) (ws us vs : Words) → n ≤ 384 → Visited n m ws us → Visited n m us vs → Visited n m ws vs
visited_on n m ws us vs l a b = record { grown = grown_on n m ws us vs l a.grown b.grown; less = omega (arith, a.less, b.less) }

moved_less : (ws us : Words) (r : Bool) → Moved ws us r → slack us ≤ slack ws
moved_less ws us true k = omega (arith, k.fell refl)
moved_less ws us false k = subst (λ c. slack c ≤ slack ws) (sym (k.still refl)) (omega arith)

-- Room stays, and so does what leads where.
pub visited_room : (n m x y : ℕ) (ws us : Words) → y < n → Room n m x ws → Visited n m ws us → Room n m y us
visited_room n m x y ws us h o v = record { few = o.few; node = h; fits = omega (arith, o.fits, v.grown.size) }

pub visited_leads : (n m x y : ℕ) (ws us : Words) → Room n m x ws → y < n → on ws (m + 12 * x) y ≡ true → Visited n m ws us → on us (m + 12 * x) y ≡ true
unfolding leads
visited_leads n m x y ws us o h t v = leads-same n m ws us o.few v.grown.same x y o.node (omega (arith, o.few)) ∙ t

-- In depth-first order, and a pass after that.
pub going_on : (n m : ℕ) (w₀ w₁ w₂ w₃ : Words) (changed r : Bool) → Rows n m w₁ → Going n m w₀ w₁ changed → Visited n m w₁ w₂ → Passed n m n w₂ w₃ r → Going n m w₀ w₃ r
going_on n m w₀ w₁ w₂ w₃ changed r o k v g = record {
  grown = grown_on n m w₀ w₂ w₃ o.few (grown_on n m w₀ w₁ w₂ o.few k.grown v.grown) g.grown;
  closed = λ e x h hx. subst (λ c. HasBelow n m c x n) (sym (g.moved.still e)) (g.closed e x hx hx);
}

pub going_less : (n m : ℕ) (w₁ w₂ w₃ : Words) (changed r : Bool) → changed ≡ true → Visited n m w₁ w₂ → Passed n m n w₂ w₃ r → slack w₃ + due r < slack w₁ + due changed
going_less n m w₁ w₂ w₃ changed true e v g = rw e (omega (arith, g.moved.fell refl, v.less))
going_less n m w₁ w₂ w₃ changed false e v g = rw e (rw (g.moved.still refl) (omega (arith, v.less)))

pub visited_rows : (n m : ℕ) (ws us : Words) → Rows n m ws → Visited n m ws us → Rows n m us
visited_rows n m ws us o v = record { few = o.few; fits = omega (arith, o.fits, v.grown.size) }

pub visited_more : (n m : ℕ) (ws us vs : Words) → Rows n m us → Visited n m ws us → Visited n m us vs → Visited n m ws vs
visited_more n m ws us vs o = visited_on n m ws us vs o.few

-- Nodes that have each other's bit in the rows of reach: a walk leads from one to the other, now and however the rows grow.
pub record Kin (n m : ℕ) (ws : Words) : Type 0 where
  pub at : (us : Words) → Grown n m ws us → (x z : ℕ) → x < n → z < n → T (on us (rows_reach + 12 * x) z) → T (on us (rows_reach + 12 * z) x) → Walk (leads m us) n x z

walk_over : {n : ℕ} (m : ℕ) (ws us : Words) → n ≤ 384 → ((p : ℕ) → Outside n m p → at us p ≡ at ws p) → {x y : ℕ} → x < n → Walk (leads m ws) n x y → Walk (leads m us) n x y
walk_over m ws us l same h w = walk_same m us ws l (λ p o. sym (same p o)) h w

-- Where every node has itself alone, walks lead to what it has.
pub kin_selves : (n : ℕ) (ws : Words) → n ≤ 384 → ((x j : ℕ) → x < n → j < 384 → on ws (rows_reach + 12 * x) j ≡ eqb j x) → Kin n rows_links ws
unfolding has
kin_selves n ws l own = record {
  at = λ us g x z hx hz t u.
      let m = g.sound x z hx (omega arith) t in
      let e : z ≡ m.end = eqb→eq z m.end (subst T (own m.end z m.below (omega arith)) m.there) in
      walk_over rows_links ws us l g.same hx (subst (Walk (leads rows_links ws) n x) (sym e) m.walk);
}

-- The same of the open edges, as long as they and the rows of reach stand.
pub record Kindred (n : ℕ) (ws : Words) : Type 0 where
  pub at : (x z : ℕ) → x < n → z < n → T (on ws (rows_reach + 12 * x) z) → T (on ws (rows_reach + 12 * z) x) → Walk (leads rows_open ws) n x z

pub kin_open : (n : ℕ) (ws us : Words) → n ≤ 384 → ((q : ℕ) → (q < rows_sets) ⊎ (rows_end ≤ q) → at us q ≡ at ws q) → Kindred n ws → Kin n rows_open us
unfolding on leads
kin_open n ws us l same k = record {
  at = λ vs g x z hx hz t u.
      let row : (y j : ℕ) → y < n → j < 384 → on vs (rows_reach + 12 * y) j ≡ on ws (rows_reach + 12 * y) j = λ y j hy hj.
      ap (λ w. bit w (j % 32)) (g.same (rows_reach + 12 * y + j / 32) (inl (omega arith)) ∙ same (rows_reach + 12 * y + j / 32) (inl (omega arith))) in
      walk_over rows_open us vs l g.same hx (over hx (k.at x z hx hz (subst T (row x z hx (omega arith)) t) (subst T (row z x hz (omega arith)) u)));
}
  where
    over : {x y : ℕ} → x < n → Walk (leads rows_open ws) n x y → Walk (leads rows_open us) n x y
    over hx stay = stay
    over hx (step {x} {y} t h p) = step (subst T (sym (ap (λ w. bit w (y % 32)) (same (rows_open + 12 * x + y / 32) (inl (omega arith))))) t) h (over h p)

pub kin_grown : (n m : ℕ) (ws us : Words) → n ≤ 384 → Grown n m ws us → Kin n m ws → Kin n m us
kin_grown n m ws us l g k = record { at = λ vs h. k.at vs (grown_on n m ws us vs l g h) }

pub kin_visited : (n m : ℕ) (ws us : Words) → Rows n m ws → Visited n m ws us → Kin n m ws → Kin n m us
kin_visited n m ws us o v = kin_grown n m ws us o.few v.grown

pub room_rows : (n m x : ℕ) (ws : Words) → Room n m x ws → Rows n m ws
room_rows n m x ws o = record { few = o.few; fits = o.fits }

pub pulled : (n m x z : ℕ) (us vs : Words) (a b r : Bool) → Room n m x us → Kin n m us → z < n → z ≢ x → a ≡ on us (rows_reach + 12 * x) z → a ≡ true → b ≡ on us (rows_reach + 12 * z) x → b ≡ true
    → Joined us vs r (m + rows_behind + 12 * x) (m + rows_behind + 12 * z) → Visited n m us vs
pulled n m x z us vs a b r o k hz ne ea ta eb tb i = record {
  grown = grown_joined n m x z us vs o.few o.node hz ne o.fits (k.at us (grown_none n m us) x z o.node hz (subst T (sym (sym ea ∙ ta)) tt) (subst T (sym (sym eb ∙ tb)) tt)) i.is;
  less = moved_less us vs r i.moved;
}

-- Nodes are settled one after the other.
pub record Settling (n m : ℕ) (ws us : Words) : Type 0 where
  pub rows : Rows n m us
  pub kin : Kin n m us
  pub so_far : Visited n m ws us

pub settling_none : (n m : ℕ) (ws : Words) → Rows n m ws → Kin n m ws → Settling n m ws ws
settling_none n m ws o k = record { rows = o; kin = k; so_far = visited_none n m ws }

pub settling_more : (n m : ℕ) (ws us vs : Words) → Settling n m ws us → Visited n m us vs → Settling n m ws vs
settling_more n m ws us vs s v = record { rows = visited_rows n m us vs s.rows v; kin = kin_visited n m us vs s.rows v s.kin; so_far = visited_more n m ws us vs s.rows s.so_far v }

pub settling_room : (n m x : ℕ) (ws us : Words) → Settling n m ws us → x < n → Room n m x us
settling_room n m x ws us s h = rows_room n m x us s.rows h

-- A visit of x that is at node y, to which x leads, or past the last.
pub record Way (n m x : ℕ) (ws : Words) (y : ℕ) : Type 0 where
  pub room : Room n m x ws
  pub kin : Kin n m ws
  pub next : y < n → on ws (m + 12 * x) y ≡ true

pub way_down : (n m x : ℕ) (ws : Words) (y : ℕ) → Way n m x ws y → y < n → Room n m y ws
way_down n m x ws y w h = record { few = w.room.few; node = h; fits = w.room.fits }

pub way_few : (n m x : ℕ) (ws : Words) (y : ℕ) → Way n m x ws y → y < n → y < 384
way_few n m x ws y w h = omega (arith, w.room.few)

pub way_leads : (n m x : ℕ) (ws : Words) (y : ℕ) → Way n m x ws y → y < n → on ws (m + 12 * x) y ≡ true
way_leads n m x ws y w h = w.next h

pub way_after : (n m x : ℕ) (ws us : Words) (y : ℕ) → Way n m x ws y → Visited n m ws us → Way n m x us y
way_after n m x ws us y w v = record {
  room = visited_room n m x x ws us w.room.node w.room v;
  kin = kin_grown n m ws us w.room.few v.grown w.kin;
  next = λ h. visited_leads n m x y ws us w.room h (w.next h) v;
}

-- The same at the next node that x leads to, if there is one.
pub record WayOn (n m x : ℕ) (ws : Words) (o : Option ℕ) : Type 0 where
  pub way : Way n m x ws (or_end n o)
  pub below : Below n o

-- What x leads to at y is taken, and it is at r.
pub record Childs (n m x y : ℕ) (us vs : Words) (r : ℕ) : Type 0 where
  pub visited : Visited n m us vs
  pub way : Way n m x vs r
  pub up : y < r

pub record ChildsOn (n m x y : ℕ) (us vs : Words) (o : Option ℕ) : Type 0 where
  pub childs : Childs n m x y us vs (or_end n o)
  pub below : Below n o

pub child_fits : (n m x y : ℕ) (us vs : Words) → Way n m x us y → length vs ≡ length us → m + 12 * x + 12 ≤ length vs
child_fits n m x y us vs w e = omega (arith, w.room.node, w.room.fits)

pub child_taken : (n m x y : ℕ) (us vs : Words) (t : Bool) (r : ℕ) → Way n m x us y → Takes n m x y us vs t → NextOn vs (m + 12 * x) (y + 1) n r → Childs n m x y us vs r
child_taken n m x y us vs t r w k o =
    let v : Visited n m us vs = record { grown = k.grown; less = moved_less us vs t k.moved } in
    record { visited = v; way = record { room = (way_after n m x us vs y w v).room; kin = (way_after n m x us vs y w v).kin; next = o.here }; up = omega (arith, o.up) }

pub child_next : (n m x y : ℕ) (us vs : Words) (t : Bool) (o : Option ℕ) → Way n m x us y → y < n → Takes n m x y us vs t → NextBit vs (m + 12 * x) (y + 1) n o → ChildsOn n m x y us vs o
child_next n m x y us vs t o w h k b = record { childs = child_taken n m x y us vs t (or_end n o) w k (bit_next vs (m + 12 * x) (y + 1) n o (omega arith) b); below = b.below }

pub child_on : (n m x y : ℕ) (us vs : Words) (o : Option ℕ) → ChildsOn n m x y us vs o → WayOn n m x vs o
child_on n m x y us vs o k = record { way = k.childs.way; below = k.below }

pub way_later : (n m x y : ℕ) (p : Option ℕ) (us vs : Words) → p ≡ Some y → WayOn n m x us p → Visited n m us vs → Way n m x vs y × (y < n)
way_later n m x y p us vs e w v = (way_after n m x us vs y (subst (λ q. Way n m x us (or_end n q)) e w.way) v, subst (Below n) e w.below)

pub child_visited : (n m x y : ℕ) (w₀ w₁ w₂ w₃ : Words) (r : ℕ) → Way n m x w₁ y → Visited n m w₀ w₁ → Visited n m w₁ w₂ → Childs n m x y w₂ w₃ r → Visited n m w₀ w₃
child_visited n m x y w₀ w₁ w₂ w₃ r w a b k = visited_on n m w₀ w₂ w₃ w.room.few (visited_on n m w₀ w₁ w₂ w.room.few a b) k.visited

pub child_grown : (n m x y : ℕ) (p o : Option ℕ) (w₀ w₁ w₂ w₃ : Words) → p ≡ Some y → WayOn n m x w₁ p → Visited n m w₀ w₁ → Visited n m w₁ w₂ → ChildsOn n m x y w₂ w₃ o → Visited n m w₀ w₃
child_grown n m x y p o w₀ w₁ w₂ w₃ e w a b k = child_visited n m x y w₀ w₁ w₂ w₃ (or_end n o) (subst (λ q. Way n m x w₁ (or_end n q)) e w.way) a b k.childs

pub left_visited : (n m x y : ℕ) (ws us vs : Words) → Way n m x us y → Visited n m ws us → Visited n m us vs → Visited n m ws vs
left_visited n m x y ws us vs w a b = visited_on n m ws us vs w.room.few a b

pub going_kin : (n m : ℕ) (ws us : Words) (changed : Bool) → Rows n m us → Kin n m ws → Going n m ws us changed → Kin n m us
going_kin n m ws us changed o k g = kin_grown n m ws us o.few g.grown k
