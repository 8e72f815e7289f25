-- The memo's words, and what it may say: pairs of roots of a table that do not succeed in it and leave it as it is.
-- Word 512 is how many there are, word 513 is 1 where the table stands since the pair in hand was begun, from 514 on stands each pair's place in the row, from 262658 on the row.
use Rattle.std.specs.Prelude.{ℕ, zero, suc, ◌+◌, ◌*◌, ◌≤◌, ◌<◌, ◌≡◌, refl, true, false, [], ◌∷◌, ◌≢◌, ◌⊎◌, eqb, length, set}
use Rattle.std.proofs.Common.{sym, ◌∙◌, ap, subst, inl, inr, ⊎_elim, le_of_suc-le-suc, not-suc-le-zero, arith, length-set, get_or-set_same, get_or-set_other}
use Rattle.std.proofs.Math.Seq.{set_out}
use Rattle.rules.specs.Lists.{Words}
use Rattle.rules.specs.Sheet.{at}
use Rattle.rules.specs.WordLaws.{word_past}
use Rattle.rules.specs.Types.{Types, UnifyResult, failure, indeterminate, Unified, unify_roots, unify_in}
use Rattle.rules.specs.Transfer.{type_of_word}
use Rattle.rules.specs.Pigeonholes.{lt_or}
use Rattle.rules.specs.UnifyEnds.{Enough}
use Rattle.words.specs.Buffers.{cleared, cleared-length}

abbrev pub memo_count : ℕ
memo_count = 512

abbrev pub memo_same : ℕ
memo_same = 513

abbrev pub memo_row : ℕ
memo_row = 262658

-- The word of the row for types x and y and a code, and the verdict of a code.
unfoldable pub entry : ℕ → ℕ → ℕ → ℕ
entry x y c = 4 * (512 * x + y) + c

pub entry_is : (x y c : ℕ) → 4 * (512 * x + y) + c ≡ entry x y c
unfolding entry
entry_is x y c = refl

unfoldable pub verdict : ℕ → UnifyResult
verdict c = elim (eqb c 1) [ true ↦ failure | false ↦ indeterminate ]

-- Two roots come to v, and leave the table as it is, with any fuel that is enough.
pub record Settled (s : Words) (ts : Types) (x y : ℕ) (v : UnifyResult) : Type 0 where
  pub is : (k : ℕ) → Enough (suc k) ts (type_of_word x ∷ []) → ◌≡◌ {A = Unified} (v, ts) (unify_roots (unify_in k s) s ts (type_of_word x) (type_of_word y))

-- What a word of the row says, if it says anything.
pub record Says (s : Words) (ts : Types) (w : ℕ) : Type 0 where
  pub says : (x y c : ℕ) → x < 512 → y < 512 → c < 3 → c ≢ 0 → w ≡ entry x y c → Settled s ts x y (verdict c)

pub record Memo (s : Words) (ts : Types) (ms : Words) : Type 0 where
  pub holds : (p : ℕ) → p < at ms memo_count → Says s ts (at ms (memo_row + p))

-- 0 says nothing.
says_none : (s : Words) (ts : Types) (w : ℕ) → w ≡ 0 → Says s ts w
unfolding entry
says_none s ts w e = record { says = λ x y c hx hy hc n q. absurd (omega arith) }

-- A memo with nothing in it: the marks stay.
pub record Forgets (ms ns : Words) : Type 0 where
  pub len : length ns ≡ length ms
  pub none : at ns memo_count ≡ 0
  pub moved : at ns memo_same ≡ 0
  pub marks : (i : ℕ) → 256 ≤ i → i < 512 → at ns i ≡ at ms i

pub forgets : (ms ns os : Words) → ns ≡ set ms 512 0 → os ≡ set ns 513 0 → Forgets ms os
forgets ms ns os e q = record {
  len = ap length q ∙ length-set ns 513 0 ∙ ap length e ∙ length-set ms 512 0;
  none = ap (λ (l : Words). at l 512) q ∙ get_or-set_other ns 513 512 0 0 (omega arith) ∙ ap (λ (l : Words). at l 512) e ∙ zero_at ms 512;
  moved = ap (λ (l : Words). at l 513) q ∙ zero_at ns 513;
  marks = λ i k h. ap (λ (l : Words). at l i) q ∙ get_or-set_other ns 513 i 0 0 (omega arith) ∙ ap (λ (l : Words). at l i) e ∙ get_or-set_other ms 512 i 0 0 (omega arith);
}
  where
    zero_at : (l : Words) (i : ℕ) → at (set l i 0) i ≡ 0
    zero_at l i = ⊎_elim (λ h. get_or-set_same l i 0 0 h) (λ h. sym (word_past (set l i 0) i (omega (arith, length-set l i 0)))) (lt_or i (length l))

pub memo_none : (s : Words) (ts : Types) (ms ns : Words) → Forgets ms ns → Memo s ts ns
memo_none s ts ms ns f = record { holds = λ p h. absurd (omega (arith, f.none)) }

-- At the start no mark stands either, where there is room for all.
pub record Starts (ms ns : Words) : Type 0 where
  pub len : length ns ≡ length ms
  pub none : at ns memo_count ≡ 0
  pub clear : 512 ≤ length ns → (i : ℕ) → 256 ≤ i → i < 512 → at ns i ≡ 0

pub starts_clear : (ms ns os : Words) → 512 ≤ length ms → ns ≡ cleared 512 ms → Forgets ns os → Starts ms os
unfolding cleared
starts_clear ms ns os h e f = record {
  len = f.len ∙ ap length e ∙ cleared-length 512 ms;
  none = f.none;
  clear = λ l i j k. f.marks i j k ∙ ap (λ (w : Words). at w i) e ∙ cleared_at 512 ms i k;
}
  where
    cleared_at : (n : ℕ) (ws : Words) (i : ℕ) → i < n → at (cleared n ws) i ≡ 0
    cleared_at zero ws i l = absurd (not-suc-le-zero l)
    cleared_at (suc n) [] i l = refl
    cleared_at (suc n) (w ∷ ws) zero l = refl
    cleared_at (suc n) (w ∷ ws) (suc i) l = cleared_at n ws i (le_of_suc-le-suc l)

pub starts_short : (ms ns : Words) → length ms < 512 → Forgets ms ns → Starts ms ns
starts_short ms ns h f = record { len = f.len; none = f.none; clear = λ l i j k. absurd (omega (arith, f.len)) }

pub memo_starts : (s : Words) (ts : Types) (ms ns : Words) → Starts ms ns → Memo s ts ns
memo_starts s ts ms ns f = record { holds = λ p h. absurd (omega (arith, f.none)) }

-- Words before the memo may change: those of all marks, or of the first 256.
pub record Past (ms ns : Words) : Type 0 where
  pub len : length ns ≡ length ms
  pub rest : (i : ℕ) → 512 ≤ i → at ns i ≡ at ms i

pub record Aside (ms ns : Words) : Type 0 where
  pub len : length ns ≡ length ms
  pub rest : (i : ℕ) → 256 ≤ i → at ns i ≡ at ms i

pub aside_past : (ms ns : Words) → Aside ms ns → Past ms ns
aside_past ms ns a = record { len = a.len; rest = λ i h. a.rest i (omega arith) }

pub forgets_aside : (ms os ns : Words) → Aside ms os → Forgets os ns → Forgets ms ns
forgets_aside ms os ns a f = record { len = f.len ∙ a.len; none = f.none; moved = f.moved; marks = λ i k h. f.marks i k h ∙ a.rest i k }

pub memo_past : (s : Words) (ts : Types) (ms ns : Words) → Past ms ns → Memo s ts ms → Memo s ts ns
memo_past s ts ms ns a m = record { holds = λ p h. subst (Says s ts) (sym (a.rest (memo_row + p) (omega arith))) (m.holds p (omega (arith, a.rest memo_count (omega arith)))) }

-- A word past the end is not written.
pub set_past : (ms : Words) (i w : ℕ) → length ms ≤ i → ms ≡ set ms i w
set_past ms i w h = sym (set_out ms i w h)

-- Whether the table stands may change.
pub memo_begun : (s : Words) (ts : Types) (ms : Words) (w : ℕ) → Memo s ts ms → Memo s ts (set ms memo_same w)
memo_begun s ts ms w m = record { holds = λ p h. subst (Says s ts) (sym (get_or-set_other ms 513 (262658 + p) w 0 (omega arith))) (m.holds p (subst (λ n. p < n) (get_or-set_other ms 513 512 w 0 (omega arith)) h)) }

-- What is recalled for types x and y.
pub record Recalls (ms : Words) (x y r : ℕ) : Type 0 where
  pub small : r < 3
  pub place : r ≢ 0 → (p : ℕ) × (p < at ms memo_count) × (at ms (memo_row + p) ≡ entry x y r)

pub recalls_none : (ms : Words) (x y : ℕ) → Recalls ms x y 0
recalls_none ms x y = record { small = omega arith; place = λ n. absurd (n refl) }

pub recalls_one : (ms : Words) (x y n p i w r e : ℕ) → n ≡ at ms 512 → p < n → i ≡ p → w ≡ at ms (262658 + i) → e ≡ entry x y r → w ≡ e → r < 3 → Recalls ms x y r
recalls_one ms x y n p i w r e en h ei ew ee q l = record { small = l; place = λ z. (i, omega arith, sym ew ∙ q ∙ ee) }

pub recalled : (s : Words) (ts : Types) (ms : Words) (x y r : ℕ) → Memo s ts ms → x < 512 → y < 512 → Recalls ms x y r → r ≢ 0 → Settled s ts x y (verdict r)
recalled s ts ms x y r m hx hy c n = let q = c.place n in (m.holds q.0 q.1).says x y r hx hy c.small n q.2

-- A word was put at the end of the row.
pub record Adds (ms ns : Words) (w : ℕ) : Type 0 where
  pub len : length ns ≡ length ms
  pub marks : (i : ℕ) → i < 512 → at ns i ≡ at ms i
  pub stands : at ns memo_same ≡ at ms memo_same
  pub row : (p : ℕ) → p < at ns memo_count → ((p < at ms memo_count) × (at ns (memo_row + p) ≡ at ms (memo_row + p))) ⊎ ((at ns (memo_row + p) ≡ w) ⊎ (at ns (memo_row + p) ≡ 0))

pub adds_none : (ms : Words) (w : ℕ) → Adds ms ms w
adds_none ms w = record { len = refl; marks = λ i h. refl; stands = refl; row = λ p h. inl (h, refl) }

pub adds_one : (ms ns₁ ns₂ ns : Words) (n i j k w : ℕ) → n ≡ at ms 512 → j < 262144 → i ≡ n → k ≡ j → ns₁ ≡ set ms (262658 + i) w → ns₂ ≡ set ns₁ (514 + k) n → ns ≡ set ns₂ 512 (n + 1) → Adds ms ns w
adds_one ms ns₁ ns₂ ns n i j k w en hj ei ek e₁' e₂ e₃ = record { len = ap length e₃ ∙ length-set ns₂ 512 (n + 1) ∙ ap length e₂ ∙ length-set ns₁ (514 + k) n ∙ ap length e₁ ∙ length-set ms (262658 + n) w; marks = λ i h. old i (omega arith) (omega arith) (omega arith); stands = old 513 (omega arith) (omega arith) (omega arith); row = λ p h. go p h (lt_or p n) (lt_or (262658 + n) (length ms)) }
  where
    e₁ : ns₁ ≡ set ms (262658 + n) w
    e₁ = e₁' ∙ ap (λ q. set ms (262658 + q) w) ei

    old : (i : ℕ) → i ≢ 262658 + n → i ≢ 514 + k → i ≢ 512 → at ns i ≡ at ms i
    old i a b c = ap (λ (l : Words). at l i) e₃ ∙ get_or-set_other ns₂ 512 i (n + 1) 0 c ∙ ap (λ (l : Words). at l i) e₂ ∙ get_or-set_other ns₁ (514 + k) i n 0 b ∙ ap (λ (l : Words). at l i) e₁ ∙ get_or-set_other ms (262658 + n) i w 0 a

    new : at ns (262658 + n) ≡ at ns₁ (262658 + n)
    new = ap (λ (l : Words). at l (262658 + n)) e₃ ∙ get_or-set_other ns₂ 512 (262658 + n) (n + 1) 0 (omega arith) ∙ ap (λ (l : Words). at l (262658 + n)) e₂ ∙ get_or-set_other ns₁ (514 + k) (262658 + n) n 0 (omega arith)

    few : at ns 512 ≤ n + 1
    few = ⊎_elim
        (λ h. omega (arith, ap (λ (l : Words). at l 512) e₃ ∙ get_or-set_same ns₂ 512 (n + 1) 0 h))
        (λ h. omega (arith, word_past ns 512 (omega (arith, ap length e₃, length-set ns₂ 512 (n + 1)))))
        (lt_or 512 (length ns₂))

    go : (p : ℕ) → p < at ns 512 → (p < n) ⊎ (n ≤ p) → (262658 + n < length ms) ⊎ (length ms ≤ 262658 + n) → ((p < at ms 512) × (at ns (262658 + p) ≡ at ms (262658 + p))) ⊎ ((at ns (262658 + p) ≡ w) ⊎ (at ns (262658 + p) ≡ 0))
    go p h (inr g) (inl l) = inr (inl (ap (λ i. at ns (262658 + i)) (let q : p ≡ n = omega (arith, few) in q) ∙ new ∙ ap (λ (z : Words). at z (262658 + n)) e₁ ∙ get_or-set_same ms (262658 + n) w 0 l))
    go p h (inr g) (inr l) = inr (inr (ap (λ i. at ns (262658 + i)) (let q : p ≡ n = omega (arith, few) in q) ∙ new ∙ sym (word_past ns₁ (262658 + n) (omega (arith, ap length e₁, length-set ms (262658 + n) w)))))
    go p h (inl g) l = inl (omega (arith, en), old (262658 + p) (omega arith) (omega arith) (omega arith))

-- A pair of types x and y was kept with its code, if that is not 0.
pub record Keeps (ms ns : Words) (x y c : ℕ) : Type 0 where
  pub len : length ns ≡ length ms
  pub marks : (i : ℕ) → i < 512 → at ns i ≡ at ms i
  pub stands : at ns memo_same ≡ at ms memo_same
  pub row : (p : ℕ) → p < at ns memo_count → ((p < at ms memo_count) × (at ns (memo_row + p) ≡ at ms (memo_row + p))) ⊎ (((c ≢ 0) × (at ns (memo_row + p) ≡ entry x y c)) ⊎ (at ns (memo_row + p) ≡ 0))

pub keeps_none : (ms : Words) (x y c : ℕ) → Keeps ms ms x y c
keeps_none ms x y c = record { len = refl; marks = λ i h. refl; stands = refl; row = λ p h. inl (h, refl) }

pub keeps_one : (ms ns : Words) (x y c e : ℕ) → c ≢ 0 → e ≡ entry x y c → Adds ms ns e → Keeps ms ns x y c
keeps_one ms ns x y c e nz ee a = record { len = a.len; marks = a.marks; stands = a.stands; row = λ p h. go p (a.row p h) }
  where
    go : (p : ℕ) → ((p < at ms 512) × (at ns (262658 + p) ≡ at ms (262658 + p))) ⊎ ((at ns (262658 + p) ≡ e) ⊎ (at ns (262658 + p) ≡ 0)) → ((p < at ms 512) × (at ns (262658 + p) ≡ at ms (262658 + p))) ⊎ (((c ≢ 0) × (at ns (262658 + p) ≡ entry x y c)) ⊎ (at ns (262658 + p) ≡ 0))
    go p (inl z) = inl z
    go p (inr (inl z)) = inr (inl (nz, z ∙ ee))
    go p (inr (inr z)) = inr (inr z)

-- The end of a pair of types x and y, with a code; before is whether the table stood before it.
pub record Ends (ms ns : Words) (before x y c : ℕ) : Type 0 where
  pub len : length ns ≡ length ms
  pub marks : (i : ℕ) → i < 512 → at ns i ≡ at ms i
  pub stands : at ns memo_same ≡ 1 → (at ms memo_same ≡ 1) × (before ≡ 1)
  pub row : (p : ℕ) → p < at ns memo_count → ((p < at ms memo_count) × (at ns (memo_row + p) ≡ at ms (memo_row + p))) ⊎ (((at ms memo_same ≡ 1) × (c ≢ 0) × (at ns (memo_row + p) ≡ entry x y c)) ⊎ (at ns (memo_row + p) ≡ 0))

pub ends_moved : (ms : Words) (before x y c w : ℕ) → w ≡ at ms 513 → w ≢ 1 → Ends ms ms before x y c
ends_moved ms before x y c w e n = record { len = refl; marks = λ i h. refl; stands = λ q. absurd (n (e ∙ q)); row = λ p h. inl (h, refl) }

pub ends_kept : (ms os ns : Words) (before x y c w : ℕ) → w ≡ at ms 513 → w ≡ 1 → Keeps ms os x y c → ns ≡ set os 513 before → Ends ms ns before x y c
ends_kept ms os ns before x y c w ew q k en = record {
  len = ap length en ∙ length-set os 513 before ∙ k.len;
  marks = λ i h. ap (λ (l : Words). at l i) en ∙ get_or-set_other os 513 i before 0 (omega arith) ∙ k.marks i h;
  stands = λ z. (sym ew ∙ q, back (ap (λ (l : Words). at l 513) (sym en) ∙ z) (lt_or 513 (length os)));
  row = λ p h. go p (k.row p (subst (λ n. p < n) (ap (λ (l : Words). at l 512) en ∙ get_or-set_other os 513 512 before 0 (omega arith)) h));
}
  where
    back : at (set os 513 before) 513 ≡ 1 → (513 < length os) ⊎ (length os ≤ 513) → before ≡ 1
    back z (inl h) = sym (get_or-set_same os 513 before 0 h) ∙ z
    back z (inr h) = absurd (omega (arith, word_past (set os 513 before) 513 (omega (arith, length-set os 513 before))))

    far : (p : ℕ) → at ns (262658 + p) ≡ at os (262658 + p)
    far p = ap (λ (l : Words). at l (262658 + p)) en ∙ get_or-set_other os 513 (262658 + p) before 0 (omega arith)

    go : (p : ℕ) → ((p < at ms 512) × (at os (262658 + p) ≡ at ms (262658 + p))) ⊎ (((c ≢ 0) × (at os (262658 + p) ≡ entry x y c)) ⊎ (at os (262658 + p) ≡ 0)) → ((p < at ms 512) × (at ns (262658 + p) ≡ at ms (262658 + p))) ⊎ (((at ms 513 ≡ 1) × (c ≢ 0) × (at ns (262658 + p) ≡ entry x y c)) ⊎ (at ns (262658 + p) ≡ 0))
    go p (inl z) = inl (z.0, far p ∙ z.1)
    go p (inr (inl z)) = inr (inl (sym ew ∙ q, z.0, far p ∙ z.1))
    go p (inr (inr z)) = inr (inr (far p ∙ z))

-- The pair that is kept says what it came to.
pub memo_ends : (s : Words) (ts : Types) (ms ns : Words) (before x y c : ℕ) → Memo s ts ms → Ends ms ns before x y c → x < 512 → y < 512 → c < 3 → (at ms 513 ≡ 1 → c ≢ 0 → Settled s ts x y (verdict c)) → Memo s ts ns
unfolding entry
memo_ends s ts ms ns before x y c m e hx hy hc settled = record { holds = λ p h. go p (e.row p h) }
  where
    one : at ms 513 ≡ 1 → c ≢ 0 → Says s ts (entry x y c)
    one st nz = record {
      says = λ x' y' c' hx' hy' hc' n' q.
          let ex : x ≡ x' = omega arith in
          let ey : y ≡ y' = omega arith in
          let ec : c ≡ c' = omega arith in
          subst (λ a. Settled s ts a y' (verdict c')) ex (subst (λ b. Settled s ts x b (verdict c')) ey (subst (λ d. Settled s ts x y (verdict d)) ec (settled st nz)));
    }

    go : (p : ℕ) → ((p < at ms 512) × (at ns (262658 + p) ≡ at ms (262658 + p))) ⊎ (((at ms 513 ≡ 1) × (c ≢ 0) × (at ns (262658 + p) ≡ entry x y c)) ⊎ (at ns (262658 + p) ≡ 0)) → Says s ts (at ns (262658 + p))
    go p (inl z) = subst (Says s ts) (sym z.1) (m.holds p z.0)
    go p (inr (inl z)) = subst (Says s ts) (sym z.2) (one z.0 z.1)
    go p (inr (inr z)) = says_none s ts (at ns (262658 + p)) z
