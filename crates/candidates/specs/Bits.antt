-- Bits of words, and rows of bits: bit j of the row at place p is bit j % 32 of word p + j / 32. What setting a bit and joining two rows make of a buffer.
use Rattle.std.specs.Prelude.{ℕ, zero, suc, ◌+◌, ◌*◌, ◌-◌, ◌/◌, ◌%◌, ◌^◌, ◌≤◌, ◌<◌, max, ◌≡◌, refl, Bool, true, false, not, ◌||◌, [], ◌∷◌, ◌≢◌, T, eqb, length, set}
use Rattle.std.proofs.Common.{sym, ◌∙◌, ap, subst, add-one, not-suc-le-zero, le_of_suc-le-suc, zero-lt-suc, mod-lt, pow-suc, arith, pow-add, Fits, eq-eqb, ne_eqb, eqb-true}
use Rattle.std.proofs.Math.Nat.{div-eq_of_lt}
use Rattle.std.specs.Int.Bits.{bit_or, or_step, or_add_and}
use Rattle.std.proofs.lemmas.Nat.{or_shr, or_lt, and_le_r, shl-shr}
use Rattle.std.proofs.Math.Pow.{pow-lt}
use Rattle.std.proofs.lemmas.List.{set-get_or}
use Rattle.std.specs.Int.{w32}
use Rattle.std.proofs.lemmas.Bool.{eqb-false}
use Rattle.rules.specs.Lists.{Words}
use Rattle.rules.specs.Sheet.{at}

-- Bit b of a word is 1.
unfoldable pub bit : ℕ → ℕ → Bool
bit w b = eqb (w / 2 ^ b % 2) 1

-- Bit j of the row at place p.
unfoldable pub on : Words → ℕ → ℕ → Bool
on ws p j = bit (at ws (p + j / 32)) (j % 32)

-- The low digit of an or.
or_low : (a b : ℕ) → eqb (bit_or a b % 2) 1 ≡ (eqb (a % 2) 1 || eqb (b % 2) 1)
or_low a b = go (a % 2) (b % 2) (mod-lt a (zero-lt-suc 1)) (mod-lt b (zero-lt-suc 1)) (or_step a b)
  where
    go : (x y : ℕ) → x < 2 → y < 2 → bit_or a b ≡ bit_or (a / 2) (b / 2) * 2 + max x y → eqb (bit_or a b % 2) 1 ≡ (eqb x 1 || eqb y 1)
    go zero zero hx hy e = ne_eqb (bit_or a b % 2) 1 (λ q. omega (arith, e, q))
    go zero (suc zero) hx hy e = eq-eqb (bit_or a b % 2) 1 (omega (arith, e))
    go (suc zero) y hx hy e = eq-eqb (bit_or a b % 2) 1 (top y hy e)
      where
        top : (y : ℕ) → y < 2 → bit_or a b ≡ bit_or (a / 2) (b / 2) * 2 + max 1 y → bit_or a b % 2 ≡ 1
        top zero h k = omega (arith, k)
        top (suc zero) h k = omega (arith, k)
        top (suc (suc y)) h k = absurd (omega arith)
    go zero (suc (suc y)) hx hy e = absurd (omega arith)
    go (suc (suc x)) y hx hy e = absurd (omega arith)

-- A bit of an or.
pub bit-bit_or : (a b k : ℕ) → bit (bit_or a b) k ≡ (bit a k || bit b k)
unfolding bit
bit-bit_or a b k = ap (λ x. eqb (x % 2) 1) (or_shr a b k) ∙ or_low (a / 2 ^ k) (b / 2 ^ k)

-- An or is no smaller, and no larger than a width allows.
pub or_grows : (a b : ℕ) → a ≤ bit_or a b
or_grows a b = omega (arith, or_add_and a b, and_le_r a b)

-- A power of two has one bit.
power_at : (d k : ℕ) → 2 ^ (d + k) / 2 ^ k ≡ 2 ^ d
power_at d k = ap (λ x. x / 2 ^ k) (pow-add 2 d k) ∙ shl-shr (2 ^ d) k

power_low : (d : ℕ) → d ≢ 0 → 2 ^ d % 2 ≡ 0
power_low zero h = absurd (h refl)
power_low (suc d) h = omega (arith, pow-suc 2 d)

pub bit_power : (j k : ℕ) → bit (2 ^ j) k ≡ eqb k j
unfolding bit
bit_power j k = go (k - j) refl
  where
    above : (d : ℕ) → j ≡ d + k → eqb (2 ^ j / 2 ^ k % 2) 1 ≡ eqb k j
    above zero e = eq-eqb (2 ^ j / 2 ^ k % 2) 1 (ap (λ x. x % 2) (ap (λ x. 2 ^ x / 2 ^ k) e ∙ power_at 0 k)) ∙ sym (eq-eqb k j (omega arith))
    above (suc d) e =
        let q : 2 ^ j / 2 ^ k ≡ 2 ^ suc d = ap (λ x. 2 ^ x / 2 ^ k) e ∙ power_at (suc d) k in
        let r : 2 ^ suc d % 2 ≡ 0 = power_low (suc d) (λ z. omega (arith, z)) in
        ne_eqb (2 ^ j / 2 ^ k % 2) 1 (λ z. omega (arith, ap (λ x. x % 2) q, r, z)) ∙ sym (ne_eqb k j (λ z. omega arith))

    below : j < k → eqb (2 ^ j / 2 ^ k % 2) 1 ≡ eqb k j
    below h = ne_eqb (2 ^ j / 2 ^ k % 2) 1 (λ z. omega (arith, ap (λ x. x % 2) (div-eq_of_lt (pow-lt h)), z)) ∙ sym (ne_eqb k j (λ z. omega arith))

    go : (d : ℕ) → k - j ≡ d → eqb (2 ^ j / 2 ^ k % 2) 1 ≡ eqb k j
    go zero e = above (j - k) (omega arith)
    go (suc d) e = below (omega arith)

-- A buffer with bit j of the row at place p set.
unfoldable pub with_bit : Words → ℕ → ℕ → Words
with_bit ws p j = set ws (p + j / 32) (bit_or (at ws (p + j / 32)) (1 * 2 ^ (j % 32) % 2 ^ 32))

-- A buffer with the first k words of the row at place b joined to those of the row at place a.
unfoldable pub join_words : ℕ → ℕ → ℕ → Words → Words
join_words zero a b ws = ws
join_words (suc k) a b ws = let us = join_words k a b ws in set us (a + k) (bit_or (at us (a + k)) (at us (b + k)))

-- As the code reads and writes them.
pub bit_is : (w b : ℕ) → eqb (w / 2 ^ b % 2) 1 ≡ bit w b
unfolding bit
bit_is w b = refl

pub on_is : (ws : Words) (p j w : ℕ) (r : Bool) → w ≡ at ws (p + j / 32) → r ≡ bit w (j % 32) → r ≡ on ws p j
unfolding on
on_is ws p j w r e h = h ∙ ap (λ x. bit x (j % 32)) e

pub with_bit_is : (ws : Words) (p j : ℕ) → set ws (p + j / 32) (bit_or (at ws (p + j / 32)) (1 * 2 ^ (j % 32) % 2 ^ 32)) ≡ with_bit ws p j
unfolding with_bit
with_bit_is ws p j = refl

-- How far the words of a buffer are from their largest: what falls when a bit is set.
unfoldable pub slack : Words → ℕ
slack [] = 0
slack (w ∷ ws) = (4294967296 - w) + slack ws

-- A buffer that is as it was, or whose slack fell, as a flag says.
pub record Moved (ws us : Words) (changed : Bool) : Type 0 where
  pub still : changed ≡ false → us ≡ ws
  pub fell : changed ≡ true → slack us < slack ws

-- The row at place b joined to the row at place a, and whether that changed anything.
pub record Joined (ws us : Words) (changed : Bool) (a b : ℕ) : Type 0 where
  pub is : us ≡ join_words 12 a b ws
  pub moved : Moved ws us changed

slack-set : (ws : Words) (p v : ℕ) → p < length ws → at ws p < v → v < 4294967296 → slack (set ws p v) < slack ws
unfolding slack
slack-set [] p v h l f = absurd (not-suc-le-zero h)
slack-set (w ∷ ws) zero v h l f = omega arith
slack-set (w ∷ ws) (suc p) v h l f = omega (arith, slack-set ws p v (le_of_suc-le-suc h) l f)

-- One word more is joined.
pub join-none : (a b : ℕ) (ws : Words) → ws ≡ join_words 0 a b ws
unfolding join_words
join-none a b ws = refl

pub join_more : (ws us : Words) (a b k : ℕ) → us ≡ join_words k a b ws → set us (a + k) (bit_or (at us (a + k)) (at us (b + k))) ≡ join_words (k + 1) a b ws
unfolding join_words
join_more ws us a b k e =
    ap (λ (l : Words). set l (a + k) (bit_or (at l (a + k)) (at l (b + k)))) e ∙ ap (λ n. join_words n a b ws) (sym (add-one k))

pub moved_none : (ws : Words) → Moved ws ws false
moved_none ws = record { still = λ e. refl; fell = λ e. absurd (subst T (sym e) tt) }

pub moved_more : (ws us : Words) (changed : Bool) (p x : ℕ) → p < length us → Fits w32 (at us p) → Fits w32 x → Moved ws us changed
    → Moved ws (set us p (bit_or (at us p) x)) (changed || not (eqb (bit_or (at us p) x) (at us p)))
moved_more ws us changed p x h f g m = go changed (eqb new old) refl m
  where
    old : ℕ
    old = at us p

    new : ℕ
    new = bit_or (at us p) x

    same : eqb new old ≡ true → set us p new ≡ us
    same e = ap (λ v. set us p v) (eqb-true new old e) ∙ set-get_or us p 0

    lower : eqb new old ≡ false → slack (set us p new) < slack us
    lower e = slack-set us p new h (omega (arith, or_grows old x, eqb-false new old e)) (or_lt 32 old x f.fits g.fits)

    go : (r b : Bool) → eqb new old ≡ b → Moved ws us r → Moved ws (set us p new) (r || not b)
    go true true e k = record { still = λ z. absurd (subst T z tt); fell = λ z. subst (λ l. slack l < slack ws) (sym (same e)) (k.fell refl) }
    go false true e k = record { still = λ z. same e ∙ k.still refl; fell = λ z. absurd (subst T (sym z) tt) }
    go true false e k = record { still = λ z. absurd (subst T z tt); fell = λ z. omega (arith, lower e, k.fell refl) }
    go false false e k = record { still = λ z. absurd (subst T z tt); fell = λ z. subst (λ l. slack (set us p new) < slack l) (k.still refl) (lower e) }

pub join_done : (ws us : Words) (changed : Bool) (a b k : ℕ) → us ≡ join_words k a b ws → k ≤ 12 → 12 ≤ k → Moved ws us changed → Joined ws us changed a b
join_done ws us changed a b k e h l m = record { is = e ∙ ap (λ n. join_words n a b ws) (omega arith); moved = m }
