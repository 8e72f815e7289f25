-- The records of a chain one after the other: how the list of those that are left goes on and ends, in the form in which an iterator asks for it.
use Rattle.std.specs.Prelude.{ℕ, zero, suc, ◌-◌, ◌≤◌, ◌≡◌, ◌≢◌, refl, [], ◌∷◌, length}
use Rattle.std.proofs.Common.{sym, ◌∙◌, ap, arith}
use Rattle.rules.specs.Lists.{Words}
use Rattle.rules.specs.Sheet.{at, chain, chain_of}

pub chain_begins : (s : Words) (h : ℕ) → chain_of (length s) s h ≡ chain s h
unfolding chain
chain_begins s h = refl

-- No record is left: so many were passed as the slice has words, or the place is 0.
pub chain_spent : (s : Words) (left i : ℕ) → left ≡ 0 → chain_of left s i ≡ []
unfolding chain_of
chain_spent s left i e = ap (λ n. chain_of n s i) e

pub chain_ends : (s : Words) (left i : ℕ) → i ≡ 0 → chain_of left s i ≡ []
unfolding chain_of
chain_ends s zero i e = refl
chain_ends s (suc left) i e = ap (chain_of (suc left) s) e

pub chain_goes_on : (s : Words) (left i j : ℕ) → left ≢ 0 → i ≢ 0 → j ≡ at s i → chain_of left s i ≡ i ∷ chain_of (left - 1) s j
unfolding chain_of
chain_goes_on s zero i j l h e = absurd (l refl)
chain_goes_on s (suc left) zero j l h e = absurd (h refl)
chain_goes_on s (suc left) (suc i) j l h e = ap (λ k. suc i ∷ chain_of k s (at s (suc i))) (omega arith) ∙ ap (λ k. suc i ∷ chain_of (suc left - 1) s k) (sym e)

-- A chain has no more records than words.
pub chain_fits : (s : Words) (left i : ℕ) → length (chain_of left s i) ≤ left
unfolding chain_of
chain_fits s zero i = omega arith
chain_fits s (suc left) zero = omega arith
chain_fits s (suc left) (suc i) = omega (arith, chain_fits s left (at s (suc i)))

-- So are they all.
pub chain_within : (s : Words) (h : ℕ) → length (chain s h) ≤ length s
unfolding chain
chain_within s h = chain_fits s (length s) h
