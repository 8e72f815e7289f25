-- Two lent slices and which of them is meant; what a buffer holds after clearing and copying, with the laws that the loops cite.
use Rattle.std.specs.Prelude.{ℕ, zero, suc, ◌+◌, ◌≤◌, ◌<◌, ◌≡◌, refl, Bool, true, false, [], ◌∷◌, ◌++◌, length, get_or, set, take, drop, replicate, min}
use Rattle.std.proofs.Common.{sym, ◌∙◌, ap, le_of_suc-le-suc, not-suc-le-zero, add-one, arith}
use Rattle.std.proofs.Math.Nat.{suc-min-suc}
use native.Mathlib.Numerals.{unary_clauses}
use Rattle.rules.specs.Lists.{Words}
use Rattle.rules.specs.Sheet.{record_words}

-- The sheet, or the question where the type is asked for.
abbrev pub holder : Bool → Words → Words → Words
holder true s q = q
holder false s q = s

pub from_question : (b : Bool) (s q r : Words) (p n : ℕ) → b ≡ true → r ≡ record_words q p n → r ≡ record_words (holder b s q) p n
from_question b s q r p n e h = h ∙ ap (λ x. record_words (holder x s q) p n) (sym e)

pub from_sheet : (b : Bool) (s q r : Words) (p n : ℕ) → b ≡ false → r ≡ record_words s p n → r ≡ record_words (holder b s q) p n
from_sheet b s q r p n e h = h ∙ ap (λ x. record_words (holder x s q) p n) (sym e)

-- The first n words zero, the rest as it was.
unfoldable pub cleared : ℕ → Words → Words
cleared zero ws = ws
cleared (suc n) [] = []
cleared (suc n) (w ∷ ws) = 0 ∷ cleared n ws

-- The first n words of one buffer over those of another, as far as both go.
unfoldable pub copied : ℕ → Words → Words → Words
copied zero from to = to
copied (suc n) [] to = to
copied (suc n) (x ∷ xs) [] = []
copied (suc n) (x ∷ xs) (y ∷ ys) = x ∷ copied n xs ys

-- A buffer of at least n words, cleared, is n zeros and what stood behind them.
pub cleared_front : (n : ℕ) (ws : Words) → n ≤ length ws → cleared n ws ≡ replicate n 0 ++ drop n ws
unfolding cleared
cleared_front zero ws h = refl
cleared_front (suc n) [] h = absurd (not-suc-le-zero h)
cleared_front (suc n) (w ∷ ws) h = ap (λ (l : Words). 0 ∷ l) (cleared_front n ws (le_of_suc-le-suc h))

pub cleared-none : (ws : Words) → ws ≡ cleared 0 ws
unfolding cleared
cleared-none ws = refl

pub cleared-length : (n : ℕ) (ws : Words) → length (cleared n ws) ≡ length ws
unfolding cleared
cleared-length zero ws = refl
cleared-length (suc n) [] = refl
cleared-length (suc n) (w ∷ ws) = ap suc (cleared-length n ws)

cleared_step : (i : ℕ) (ws : Words) → i < length ws → set (cleared i ws) i 0 ≡ cleared (suc i) ws
unfolding cleared
cleared_step zero [] h = absurd (not-suc-le-zero h)
cleared_step zero (w ∷ ws) h = refl
cleared_step (suc i) [] h = absurd (not-suc-le-zero h)
cleared_step (suc i) (w ∷ ws) h = ap (λ (l : Words). 0 ∷ l) (cleared_step i ws (le_of_suc-le-suc h))

-- One word more.
pub cleared_more : (i : ℕ) (us ws : Words) → us ≡ cleared i ws → i < length us → set us i 0 ≡ cleared (i + 1) ws
cleared_more i us ws e h = ap (λ (l : Words). set l i 0) e ∙ cleared_step i ws (omega (arith, ap length e, cleared-length i ws)) ∙ ap (λ k. cleared k ws) (sym (add-one i))

-- Past the end nothing more is cleared.
pub cleared-all : (i n : ℕ) (us ws : Words) → us ≡ cleared i ws → length us ≤ i → i ≤ n → us ≡ cleared n ws
unfolding cleared
cleared-all i n us ws e h l = e ∙ go i n ws (omega (arith, ap length e, cleared-length i ws)) l
  where
    go : (i n : ℕ) (ws : Words) → length ws ≤ i → i ≤ n → cleared i ws ≡ cleared n ws
    go zero zero ws h l = refl
    go zero (suc n) [] h l = refl
    go zero (suc n) (w ∷ ws) h l = absurd (not-suc-le-zero h)
    go (suc i) zero ws h l = absurd (not-suc-le-zero l)
    go (suc i) (suc n) [] h l = refl
    go (suc i) (suc n) (w ∷ ws) h l = ap (λ (us : Words). 0 ∷ us) (go i n ws (le_of_suc-le-suc h) (le_of_suc-le-suc l))

-- All n are cleared.
pub cleared_done : (i n : ℕ) (us ws : Words) → us ≡ cleared i ws → i ≤ n → n ≤ i → us ≡ cleared n ws
cleared_done i n us ws e h l = e ∙ ap (λ k. cleared k ws) (omega arith)

-- So many zeros, and what stands behind them.
pub cleared_part : (n m : ℕ) (us ws : Words) → m ≡ min n (length ws) → us ≡ replicate m 0 → us ++ drop m ws ≡ cleared n ws
unfolding cleared
cleared_part n m us ws e h = ap (λ (l : Words). l ++ drop m ws) h ∙ ap (λ k. replicate k 0 ++ drop k ws) e ∙ go n ws
  where
    go : (n : ℕ) (ws : Words) → replicate (min n (length ws)) 0 ++ drop (min n (length ws)) ws ≡ cleared n ws
    go zero ws = simp unary_clauses
    go (suc n) [] = simp unary_clauses
    go (suc n) (w ∷ ws) = rw (suc-min-suc n (length ws)) (ap (λ (l : Words). 0 ∷ l) (go n ws))

pub copied_none : (from to : Words) → to ≡ copied 0 from to
unfolding copied
copied_none from to = refl

pub copied-length : (n : ℕ) (from to : Words) → length (copied n from to) ≡ length to
unfolding copied
copied-length zero from to = refl
copied-length (suc n) [] to = refl
copied-length (suc n) (x ∷ xs) [] = refl
copied-length (suc n) (x ∷ xs) (y ∷ ys) = ap suc (copied-length n xs ys)

copied_step : (i : ℕ) (from to : Words) → i < length from → i < length to → set (copied i from to) i (get_or from i 0) ≡ copied (suc i) from to
unfolding copied
copied_step zero [] to h k = absurd (not-suc-le-zero h)
copied_step zero (x ∷ xs) [] h k = absurd (not-suc-le-zero k)
copied_step zero (x ∷ xs) (y ∷ ys) h k = refl
copied_step (suc i) [] to h k = absurd (not-suc-le-zero h)
copied_step (suc i) (x ∷ xs) [] h k = absurd (not-suc-le-zero k)
copied_step (suc i) (x ∷ xs) (y ∷ ys) h k = ap (λ (l : Words). x ∷ l) (copied_step i xs ys (le_of_suc-le-suc h) (le_of_suc-le-suc k))

-- One word more.
pub copied_more : (i : ℕ) (us from to : Words) → us ≡ copied i from to → i < length from → i < length us → set us i (get_or from i 0) ≡ copied (i + 1) from to
copied_more i us from to e h k = ap (λ (l : Words). set l i (get_or from i 0)) e ∙ copied_step i from to h (omega (arith, ap length e, copied-length i from to)) ∙ ap (λ j. copied j from to) (sym (add-one i))

-- Past the end of either nothing more is copied.
pub copied_all_from : (i n : ℕ) (us from to : Words) → us ≡ copied i from to → length from ≤ i → i ≤ n → us ≡ copied n from to
unfolding copied
copied_all_from i n us from to e h l = e ∙ go i n from to h l
  where
    go : (i n : ℕ) (from to : Words) → length from ≤ i → i ≤ n → copied i from to ≡ copied n from to
    go zero zero from to h l = refl
    go zero (suc n) [] to h l = refl
    go zero (suc n) (x ∷ xs) to h l = absurd (not-suc-le-zero h)
    go (suc i) zero from to h l = absurd (not-suc-le-zero l)
    go (suc i) (suc n) [] to h l = refl
    go (suc i) (suc n) (x ∷ xs) [] h l = refl
    go (suc i) (suc n) (x ∷ xs) (y ∷ ys) h l = ap (λ (us : Words). x ∷ us) (go i n xs ys (le_of_suc-le-suc h) (le_of_suc-le-suc l))

pub copied_all_to : (i n : ℕ) (us from to : Words) → us ≡ copied i from to → length us ≤ i → i ≤ n → us ≡ copied n from to
unfolding copied
copied_all_to i n us from to e h l = e ∙ go i n from to (omega (arith, ap length e, copied-length i from to)) l
  where
    go : (i n : ℕ) (from to : Words) → length to ≤ i → i ≤ n → copied i from to ≡ copied n from to
    go zero zero from to h l = refl
    go zero (suc n) [] to h l = refl
    go zero (suc n) (x ∷ xs) [] h l = refl
    go zero (suc n) (x ∷ xs) (y ∷ ys) h l = absurd (not-suc-le-zero h)
    go (suc i) zero from to h l = absurd (not-suc-le-zero l)
    go (suc i) (suc n) [] to h l = refl
    go (suc i) (suc n) (x ∷ xs) [] h l = refl
    go (suc i) (suc n) (x ∷ xs) (y ∷ ys) h l = ap (λ (us : Words). x ∷ us) (go i n xs ys (le_of_suc-le-suc h) (le_of_suc-le-suc l))

-- All n are copied.
pub copied_done : (i n : ℕ) (us from to : Words) → us ≡ copied i from to → i ≤ n → n ≤ i → us ≡ copied n from to
copied_done i n us from to e h l = e ∙ ap (λ k. copied k from to) (omega arith)

-- So many words, and what stands behind them.
pub copied_part : (n m : ℕ) (us from to : Words) → m ≡ min (min n (length from)) (length to) → us ≡ take m from → us ++ drop m to ≡ copied n from to
unfolding copied
copied_part n m us from to e h = ap (λ (l : Words). l ++ drop m to) h ∙ ap (λ k. take k from ++ drop k to) e ∙ go n from to
  where
    go : (n : ℕ) (from to : Words) → take (min (min n (length from)) (length to)) from ++ drop (min (min n (length from)) (length to)) to ≡ copied n from to
    go zero from to = simp unary_clauses
    go (suc n) [] to = simp unary_clauses
    go (suc n) (x ∷ xs) [] = simp unary_clauses
    go (suc n) (x ∷ xs) (y ∷ ys) = rw (suc-min-suc n (length xs), suc-min-suc (min n (length xs)) (length ys)) (ap (λ (l : Words). x ∷ l) (go n xs ys))
