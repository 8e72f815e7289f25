-- Laws of words and records, in the form in which code that reads them asks for them.
use Prim.Native.Nat.{ℕ, zero, suc, ◌+◌, ◌-◌, ◌≤◌, ◌<◌}
use Rattle.std.specs.Prelude.{◌≡◌, refl, [], ◌≢◌, take, drop}
use Rattle.std.proofs.Math.Path.{sym, ap}
use Rattle.std.proofs.Common.{◌∙◌, le-leb}
use Rattle.std.proofs.Math.Nat.{add-sub_cancel_left, suc-sub-suc, sub-zero}
use native.Mathlib.Omega.{arith}
use Rattle.std.proofs.Math.ListN.{length, get_or-eq_default}
use Rattle.rules.specs.Lists.{Words}
use Rattle.rules.specs.Sheet.{at, record_words, chain, chain_of}
use Rattle.std.proofs.lemmas.Bool.{lt-leb}

-- A word past the end is 0.
pub word_past : (s : Words) (i : ℕ) → length s ≤ i → 0 ≡ at s i
word_past s i h = sym (get_or-eq_default s 0 {n = i} h)

pub offset_past : (s : Words) (p k : ℕ) → length s ≤ k → 0 ≡ at s (p + k)
offset_past s p k h = word_past s (p + k) (omega arith)

pub offset_long : (s : Words) (p k : ℕ) → length s - k ≤ p → 0 ≡ at s (p + k)
offset_long s p k h = word_past s (p + k) (omega arith)

-- A record that ends within the slice is a part of it; another has no words.
pub record_in : (s : Words) (p len : ℕ) → p ≤ length s → len ≤ length s - p → take (p + len - p) (drop p s) ≡ record_words s p len
unfolding record_words
record_in s p len h l = rw (le-leb (p + len) (length s) (omega arith), record_words) (ap (λ k. take k (drop p s)) (add-sub_cancel_left p len))

pub record_long : (s : Words) (p len : ℕ) → p ≤ length s → length s - p < len → [] ≡ record_words s p len
unfolding record_words
record_long s p len h l = rw (lt-leb (p + len) (length s) (omega arith), record_words)

pub record_past : (s : Words) (p len : ℕ) → length s < p → [] ≡ record_words s p len
unfolding record_words
record_past s p len h = rw (lt-leb (p + len) (length s) (omega arith), record_words)

-- A walk along a chain, with `left` records at most still to go, towards the record that a chain has at a position: how it begins, ends and goes on.
pub walk_start : (s : Words) (h id : ℕ) → at (chain_of (length s) s h) id ≡ at (chain s h) id
unfolding chain
walk_start s h id = refl

module _ (s : Words) (x : ℕ) where
  pub walk_spent : (left i k : ℕ) → left ≡ 0 → at (chain_of left s i) k ≡ x → 0 ≡ x
  unfolding chain_of
  walk_spent left i k e v = sym (ap (λ n. at (chain_of n s i) k) e) ∙ v

  pub walk_end : (left i k : ℕ) → i ≡ 0 → at (chain_of left s i) k ≡ x → 0 ≡ x
  unfolding chain_of
  walk_end zero i k e v = v
  walk_end (suc left) i k e v = sym (ap (λ n. at (chain_of (suc left) s n) k) e) ∙ v

  pub walk_here : (left i k : ℕ) → left ≢ 0 → i ≢ 0 → k ≡ 0 → at (chain_of left s i) k ≡ x → i ≡ x
  unfolding chain_of
  walk_here zero i k hl hi e v = absurd (hl refl)
  walk_here (suc left) zero k hl hi e v = absurd (hi refl)
  walk_here (suc left) (suc i) k hl hi e v = sym (ap (λ n. at (chain_of (suc left) s (suc i)) n) e) ∙ v

  pub walk_on : (left i k j : ℕ) → left ≢ 0 → i ≢ 0 → k ≢ 0 → j ≡ at s i → at (chain_of left s i) k ≡ x → at (chain_of (left - 1) s j) (k - 1) ≡ x
  unfolding chain_of
  walk_on zero i k j hl hi hk e v = absurd (hl refl)
  walk_on (suc left) zero k j hl hi hk e v = absurd (hi refl)
  walk_on (suc left) (suc i) zero j hl hi hk e v = absurd (hk refl)
  walk_on (suc left) (suc i) (suc k) j hl hi hk e v = (λ t. at (chain_of ((suc-sub-suc left 0 ∙ sub-zero left) t) s (e t)) ((suc-sub-suc k 0 ∙ sub-zero k) t)) ∙ v

-- A count of the records of a chain: n of them are passed, and at most N are counted.
pub count_start : (s : Words) (h : ℕ) → 0 + length (chain_of (length s - 0) s h) ≡ length (chain s h)
unfolding chain
count_start s h = omega (arith, ap (λ n. length (chain_of n s h)) (sub-zero (length s)))

module _ (s : Words) (x N : ℕ) where
  pub count_end : (n i : ℕ) → i ≡ 0 → n + length (chain_of (N - n) s i) ≡ x → n ≡ x
  unfolding chain_of
  count_end n i e v = go (N - n) (ap (λ j. length (chain_of (N - n) s j)) e)
    where
      go : (k : ℕ) → length (chain_of (N - n) s i) ≡ length (chain_of k s 0) → n ≡ x
      go zero q = omega arith
      go (suc k) q = omega arith

  pub count_on : (n i j : ℕ) → n < N → i ≢ 0 → j ≡ at s i → n + length (chain_of (N - n) s i) ≡ x → n + 1 + length (chain_of (N - (n + 1)) s j) ≡ x
  unfolding chain_of
  count_on n zero j h hi e v = absurd (hi refl)
  count_on n (suc i) j h hi e v = omega (arith, ap (λ k. length (chain_of k s (suc i))) (let q : N - n ≡ suc (N - (n + 1)) = omega arith in q), ap (λ k. length (chain_of (N - (n + 1)) s k)) e)

  pub count_full : (n i : ℕ) → N ≤ n → n + length (chain_of (N - n) s i) ≡ x → n ≡ x
  unfolding chain_of
  count_full n i h v = omega (arith, ap (λ k. length (chain_of k s i)) (let q : N - n ≡ 0 = omega arith in q))
