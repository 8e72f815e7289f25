-- Little-endian words from bytes.
use Rattle.std.specs.Prelude.{ℕ, zero, suc, ◌+◌, ◌*◌, ◌/◌, ◌%◌, ◌≤◌, ◌<◌, ◌≡◌, refl, [], ◌∷◌, ◌++◌, ◌≢◌, length, take, drop, set, get_or, List}
use Rattle.std.proofs.Common.{sym, ◌∙◌, ap, ap₂, append_assoc, add-one, arith, drop_of_length-le, drop-cons, take-suc-set}
use Rattle.std.specs.Int.{w32, from_le_bytes}
use Rattle.std.specs.Simd.{first_chunks}
use Rattle.std.proofs.Common.{subst, get_or-drop, drop-drop}
use Rattle.std.proofs.lemmas.List.{get_or-take}
use Rattle.std.proofs.Math.Option.{Option, none, some}
use Rattle.rules.specs.Lists.{Words}
use Rattle.rules.specs.Sheet.{at}
use Rattle.rules.specs.Listing.{words_of_bytes}

-- The word of the four bytes at a place.
unfoldable pub little_endian : Words → ℕ → ℕ
little_endian bs i = at bs i + 256 * (at bs (i + 1) + 256 * (at bs (i + 2) + 256 * at bs (i + 3)))

pub little_endian_is : (bs : Words) (i a b c d : ℕ) → a ≡ at bs i → b ≡ at bs (i + 1) → c ≡ at bs (i + 2) → d ≡ at bs (i + 3) → a + 256 * (b + 256 * (c + 256 * d)) ≡ little_endian bs i
unfolding little_endian
little_endian_is bs i a b c d e f g h = ap₂ (λ x y. x + 256 * y) e (ap₂ (λ x y. x + 256 * y) f (ap₂ (λ x y. x + 256 * y) g h))

-- So is the word of chunk k, of four bytes each.
chunk_at : (n k : ℕ) (bs : Words) (d : Words) → k < n → get_or (first_chunks 4 n bs) k d ≡ take 4 (drop (4 * k) bs)
chunk_at zero k bs d h = absurd (omega arith)
chunk_at (suc n) zero bs d h = refl
chunk_at (suc n) (suc k) bs d h = chunk_at n k (drop 4 bs) d (omega arith) ∙ ap (take 4) (drop-drop (4 * k) 4 bs ∙ ap (λ i. drop i bs) (let e : 4 + 4 * k ≡ 4 * suc k = omega arith in e))

four_bytes : (ys : Words) → from_le_bytes w32 ys ≡ get_or ys 0 0 + 256 * (get_or ys 1 0 + 256 * (get_or ys 2 0 + 256 * get_or ys 3 0))
four_bytes ys = let e : from_le_bytes w32 ys ≡ get_or ys 0 0 + get_or ys 1 0 * 256 + get_or ys 2 0 * 65536 + get_or ys 3 0 * 16777216 = refl in omega (arith, e)

pub chunk_word : (bs d : Words) (front : List Words) (n k w : ℕ) → front ≡ first_chunks 4 n bs → k < n → w ≡ from_le_bytes w32 (get_or front k d) → w ≡ little_endian bs (4 * k)
unfolding little_endian
chunk_word bs d front n k w e h f =
    f ∙ ap (from_le_bytes w32) (ap (λ l. get_or l k d) e ∙ chunk_at n k bs d h) ∙ four_bytes (take 4 (drop (4 * k) bs)) ∙ (omega (arith, byte 0 (omega arith) ∙ ap (at bs) (let z : 4 * k + 0 ≡ 4 * k = omega arith in z), byte 1 (omega arith), byte 2 (omega arith), byte 3 (omega arith)))
  where
    byte : (i : ℕ) → i < 4 → get_or (take 4 (drop (4 * k) bs)) i 0 ≡ at bs (4 * k + i)
    byte i l = get_or-take 4 (drop (4 * k) bs) i 0 l ∙ get_or-drop (4 * k) bs i 0

-- The first words are these, and then come others, if what is left is whole words.
unfoldable pub behind : Words → Option Words → Option Words
behind xs none = none
behind xs (some ws) = some (xs ++ ws)

behind_on : (xs ys : Words) (o : Option Words) → behind xs (behind ys o) ≡ behind (xs ++ ys) o
unfolding behind
behind_on xs ys none = refl
behind_on xs ys (some ws) = ap some (sym (append_assoc xs ys ws))

first_word : (a b c d : ℕ) (bs : Words) → words_of_bytes (a ∷ (b ∷ (c ∷ (d ∷ bs)))) ≡ behind ((a + 256 * (b + 256 * (c + 256 * d))) ∷ []) (words_of_bytes bs)
unfolding words_of_bytes behind
first_word a b c d bs = go (words_of_bytes bs) refl
  where
    w : ℕ
    w = a + 256 * (b + 256 * (c + 256 * d))

    go : (o : Option Words) → words_of_bytes bs ≡ o → words_of_bytes (a ∷ (b ∷ (c ∷ (d ∷ bs)))) ≡ behind (w ∷ []) o
    go none e = rw (e, words_of_bytes) refl
    go (some ws) e = rw (e, words_of_bytes) refl

-- So many words are read.
pub record Reading (bs us : Words) (k : ℕ) : Type 0 where
  pub so_far : words_of_bytes bs ≡ behind (take k us) (words_of_bytes (drop (4 * k) bs))

-- All are.
pub record ReadsWords (bs us : Words) (r : ℕ) : Type 0 where
  pub words : words_of_bytes bs ≡ some (take r us)

pub reading_start : (bs us : Words) → Reading bs us 0
unfolding behind
reading_start bs us = record { so_far = go (words_of_bytes bs) }
  where
    go : (o : Option Words) → o ≡ behind [] o
    go none = refl
    go (some ws) = refl

four : (bs : Words) (k : ℕ) → 4 * k + 4 ≤ length bs → drop (4 * k) bs ≡ at bs (4 * k) ∷ (at bs (4 * k + 1) ∷ (at bs (4 * k + 2) ∷ (at bs (4 * k + 3) ∷ drop (4 * (k + 1)) bs)))
four bs k h =
    drop-cons bs (4 * k) 0 (omega arith)
    ∙ ap (λ (l : Words). at bs (4 * k) ∷ l) (ap (λ n. drop n bs) (let e : suc (4 * k) ≡ 4 * k + 1 = omega arith in e) ∙ drop-cons bs (4 * k + 1) 0 (omega arith)
    ∙ ap (λ (l : Words). at bs (4 * k + 1) ∷ l) (ap (λ n. drop n bs) (let e : suc (4 * k + 1) ≡ 4 * k + 2 = omega arith in e) ∙ drop-cons bs (4 * k + 2) 0 (omega arith)
    ∙ ap (λ (l : Words). at bs (4 * k + 2) ∷ l) (ap (λ n. drop n bs) (let e : suc (4 * k + 2) ≡ 4 * k + 3 = omega arith in e) ∙ drop-cons bs (4 * k + 3) 0 (omega arith)
    ∙ ap (λ (l : Words). at bs (4 * k + 3) ∷ l) (ap (λ n. drop n bs) (let e : suc (4 * k + 3) ≡ 4 * (k + 1) = omega arith in e)))))

pub reading_more : (bs us : Words) (k w : ℕ) → k < length bs / 4 → k < length us → w ≡ little_endian bs (4 * k) → Reading bs us k → Reading bs (set us k w) (k + 1)
unfolding little_endian
reading_more bs us k w h l e r = record {
  so_far =
      r.so_far ∙ ap (λ z. behind (take k us) (words_of_bytes z)) (four bs k (omega arith))
      ∙ ap (behind (take k us)) (first_word (at bs (4 * k)) (at bs (4 * k + 1)) (at bs (4 * k + 2)) (at bs (4 * k + 3)) (drop (4 * (k + 1)) bs))
      ∙ behind_on (take k us) (little_endian bs (4 * k) ∷ []) (words_of_bytes (drop (4 * (k + 1)) bs))
      ∙ ap (λ z. behind z (words_of_bytes (drop (4 * (k + 1)) bs))) (ap (λ (c : ℕ). take k us ++ (c ∷ [])) (sym e) ∙ sym (take-suc-set us k w l) ∙ ap (λ n. take n (set us k w)) (sym (add-one k)));
}

append_nil : (xs : Words) → xs ++ [] ≡ xs
append_nil [] = refl
append_nil (x ∷ xs) = ap (λ (l : Words). x ∷ l) (append_nil xs)

pub reading_done : (bs us : Words) (k : ℕ) → length bs % 4 ≡ 0 → length bs / 4 ≤ k → Reading bs us k → ReadsWords bs us k
unfolding words_of_bytes behind
reading_done bs us k m h r = record { words = r.so_far ∙ ap (λ z. behind (take k us) (words_of_bytes z)) (drop_of_length-le bs {i = 4 * k} (omega arith)) ∙ ap some (append_nil (take k us)) }

pub reading_over : (bs us : Words) (k n : ℕ) → k ≡ n → length bs % 4 ≡ 0 → n ≡ length bs / 4 → Reading bs us k → ReadsWords bs us n
reading_over bs us k n e m h r = subst (λ j. ReadsWords bs us j) e (reading_done bs us k m (omega (arith, e)) r)

-- Bytes that are no whole words are no words.
pub no_words : (bs : Words) → length bs % 4 ≢ 0 → words_of_bytes bs ≡ none
unfolding words_of_bytes
no_words [] h = absurd (h refl)
no_words (a ∷ []) h = refl
no_words (a ∷ (b ∷ [])) h = refl
no_words (a ∷ (b ∷ (c ∷ []))) h = refl
no_words (a ∷ (b ∷ (c ∷ (d ∷ bs)))) h = rw (no_words bs (λ e. h (omega (arith, e))), words_of_bytes) refl
