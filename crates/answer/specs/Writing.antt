-- Words written into a buffer from a place on, part by part, with the laws that put the parts together.
use Rattle.std.specs.Prelude.{ℕ, zero, suc, ◌+◌, ◌-◌, ◌≤◌, ◌<◌, ◌≡◌, refl, List, [], ◌∷◌, ◌++◌, ◌≢◌, length, drop}
use Rattle.std.proofs.Common.{sym, ◌∙◌, ap, ⊎_elim, arith, length-drop, length-append, get_or-append-add, get_or-drop, ext_get_or}
use Rattle.std.proofs.Math.ListN.{get_or-append}
use Rattle.rules.specs.Lists.{Words}
use Rattle.rules.specs.Sheet.{at}
use Rattle.rules.specs.Pigeonholes.{lt_or}
use Rattle.rules.specs.Answer.{head_or_zero}

-- The words xs stand from place p on; all others are as they were.
pub record Wrote (ws us : Words) (p : ℕ) (xs : Words) : Type 0 where
  pub len : length us ≡ length ws
  pub fits : p + length xs ≤ length ws
  pub there : (i : ℕ) → i < length xs → at us (p + i) ≡ at xs i
  pub low : (i : ℕ) → i < p → at us i ≡ at ws i
  pub high : (i : ℕ) → p + length xs ≤ i → at us i ≡ at ws i

-- Part of what is to be written from place p on is: the rest is to come from place q on.
pub record Left (ws us : Words) (p q : ℕ) (all rest : Words) : Type 0 where
  pub whole : (vs : Words) → Wrote us vs q rest → Wrote ws vs p all
  pub far : q + length rest ≡ p + length all

-- A head or a next: the place p, or 0 where nothing is left.
unfoldable pub link_of : ℕ → ℕ → ℕ
link_of zero p = 0
link_of (suc n) p = p

pub link_none : (n p : ℕ) → n ≡ 0 → 0 ≡ link_of n p
unfolding link_of
link_none n p e = sym (ap (λ m. link_of m p) e)

pub link_some : (n p : ℕ) → n ≢ 0 → p ≡ link_of n p
unfolding link_of
link_some zero p e = absurd (e refl)
link_some (suc n) p e = refl

pub link_head : {A : Type 0} (p : ℕ) (xs : List A) (n : ℕ) → n ≡ length xs → link_of n p ≡ head_or_zero p xs
unfolding link_of head_or_zero
link_head p [] n e = ap (λ m. link_of m p) e
link_head p (x ∷ xs) n e = ap (λ m. link_of m p) e

pub wrote_none : (ws : Words) (p : ℕ) → p ≤ length ws → Wrote ws ws p []
wrote_none ws p h = record { len = refl; fits = omega arith; there = λ i l. absurd (omega arith); low = λ i l. refl; high = λ i l. refl }

-- A part, and the next part behind it.
pub wrote_then : (ws us vs : Words) (p q : ℕ) (xs ys : Words) → q ≡ p + length xs → Wrote ws us p xs → Wrote us vs q ys → Wrote ws vs p (xs ++ ys)
wrote_then ws us vs p q xs ys e a b = record {
  len = b.len ∙ a.len;
  fits = omega (arith, length-append xs ys, a.len, b.fits);
  there = λ i l. ⊎_elim (λ h. first i h) (λ h. second i l h) (lt_or i (length xs));
  low = λ i l. b.low i (omega arith) ∙ a.low i l;
  high = λ i l. b.high i (omega (arith, length-append xs ys)) ∙ a.high i (omega (arith, length-append xs ys));
}
  where
    first : (i : ℕ) → i < length xs → at vs (p + i) ≡ at (xs ++ ys) i
    first i h = b.low (p + i) (omega arith) ∙ a.there i h ∙ sym (get_or-append xs ys 0 i h)

    second : (i : ℕ) → i < length (xs ++ ys) → length xs ≤ i → at vs (p + i) ≡ at (xs ++ ys) i
    second i l h = go (i - length xs) (omega arith)
      where
        go : (k : ℕ) → i ≡ length xs + k → at vs (p + i) ≡ at (xs ++ ys) i
        go k f =
            ap (at vs) (let z : p + i ≡ q + k = omega arith in z)
            ∙ b.there k (omega (arith, length-append xs ys))
            ∙ sym (ap (at (xs ++ ys)) f ∙ get_or-append-add xs ys k 0)

-- A part, and then the part before it.
pub wrote_before : (ws us vs : Words) (p q : ℕ) (xs ys : Words) → q ≡ p + length xs → Wrote ws us q ys → Wrote us vs p xs → Wrote ws vs p (xs ++ ys)
wrote_before ws us vs p q xs ys e b a = record {
  len = a.len ∙ b.len;
  fits = omega (arith, length-append xs ys, b.fits);
  there = λ i l. ⊎_elim (λ h. first i h) (λ h. second i l h) (lt_or i (length xs));
  low = λ i l. a.low i l ∙ b.low i (omega arith);
  high = λ i l. a.high i (omega (arith, length-append xs ys)) ∙ b.high i (omega (arith, length-append xs ys));
}
  where
    first : (i : ℕ) → i < length xs → at vs (p + i) ≡ at (xs ++ ys) i
    first i h = a.there i h ∙ sym (get_or-append xs ys 0 i h)

    second : (i : ℕ) → i < length (xs ++ ys) → length xs ≤ i → at vs (p + i) ≡ at (xs ++ ys) i
    second i l h = go (i - length xs) (omega arith)
      where
        go : (k : ℕ) → i ≡ length xs + k → at vs (p + i) ≡ at (xs ++ ys) i
        go k f =
            a.high (p + i) (omega arith)
            ∙ ap (at us) (let z : p + i ≡ q + k = omega arith in z)
            ∙ b.there k (omega (arith, length-append xs ys))
            ∙ sym (ap (at (xs ++ ys)) f ∙ get_or-append-add xs ys k 0)

-- All of a buffer.
pub wrote_whole : (ws us xs : Words) → Wrote ws us 0 xs → us ≡ xs ++ drop (length xs) ws
wrote_whole ws us xs a = ext_get_or 0 us (xs ++ drop (length xs) ws)
    (omega (arith, a.len, a.fits, length-append xs (drop (length xs) ws), length-drop (length xs) ws))
    (λ i l. ⊎_elim (λ h. first i h) (λ h. second i h) (lt_or i (length xs)))
  where
    first : (i : ℕ) → i < length xs → at us i ≡ at (xs ++ drop (length xs) ws) i
    first i h = ap (at us) (let z : i ≡ 0 + i = omega arith in z) ∙ a.there i h ∙ sym (get_or-append xs (drop (length xs) ws) 0 i h)

    second : (i : ℕ) → length xs ≤ i → at us i ≡ at (xs ++ drop (length xs) ws) i
    second i h = go (i - length xs) (omega arith)
      where
        go : (k : ℕ) → i ≡ length xs + k → at us i ≡ at (xs ++ drop (length xs) ws) i
        go k f =
            a.high i (omega arith)
            ∙ ap (at ws) f
            ∙ sym (ap (at (xs ++ drop (length xs) ws)) f ∙ get_or-append-add xs (drop (length xs) ws) k 0 ∙ get_or-drop (length xs) ws k 0)

pub wrote_as : (ws us : Words) (p q : ℕ) (xs ys : Words) → p ≡ q → xs ≡ ys → Wrote ws us p xs → Wrote ws us q ys
wrote_as ws us p q xs ys e f a = rw (← e, ← f) a

-- Part by part: the beginning, a part more, the end.
pub left_start : (ws : Words) (p : ℕ) (all : Words) → Left ws ws p p all all
left_start ws p all = record { whole = λ vs w. w; far = refl }

pub left_more : (ws us vs : Words) (p q r : ℕ) (all part rest : Words) → r ≡ q + length part → Left ws us p q all (part ++ rest) → Wrote us vs q part → Left ws vs p r all rest
left_more ws us vs p q r all part rest e l a = record { whole = λ xs b. l.whole xs (wrote_then us vs xs q r part rest e a b); far = omega (arith, l.far, length-append part rest) }

pub left_done : (ws us : Words) (p q : ℕ) (all : Words) → q ≤ length us → Left ws us p q all [] → Wrote ws us p all
left_done ws us p q all h l = l.whole us (wrote_none us q h)

pub left_as : (ws us : Words) (p q r : ℕ) (all xs ys : Words) → q ≡ r → xs ≡ ys → Left ws us p q all xs → Left ws us p r all ys
left_as ws us p q r all xs ys e f a = rw (← e, ← f) a
