-- A walker walks the rules' chain: from record `id` its next is record `id` + 1, and its fields are the rules' fields.
use Rattle.std.specs.Prelude.{ℕ, zero, suc, ◌+◌, ◌<◌, ◌≡◌, refl, ◌≢◌, length}
use Rattle.std.proofs.Common.{◌∙◌, ap, le_of_suc-le-suc, not-suc-le-zero}
use Rattle.rules.specs.Lists.{Words}
use Rattle.rules.specs.Sheet.{at, chain_of, chain, records, field}

first_of : (k : ℕ) (s : Words) (i : ℕ) → i ≡ at (chain_of (suc k) s i) 0
unfolding chain_of
first_of k s zero = refl
first_of k s (suc i) = refl

step_of : (k : ℕ) (s : Words) (i id : ℕ) → suc id < k → at (chain_of k s i) id ≢ 0 → at s (at (chain_of k s i) id) ≡ at (chain_of k s i) (suc id)
unfolding chain_of
step_of zero s i id h n = absurd (not-suc-le-zero h)
step_of (suc k) s zero id h n = absurd (n refl)
step_of (suc zero) s (suc i) zero h n = absurd (not-suc-le-zero (le_of_suc-le-suc h))
step_of (suc (suc k)) s (suc i) zero h n = first_of k s (at s (suc i))
step_of (suc k) s (suc i) (suc id) h n = step_of k s (at s (suc i)) id (le_of_suc-le-suc h) n

-- The first record of a chain is its head,
pub chain_head : (s : Words) (i : ℕ) → 0 < length s → i ≡ at (chain s i) 0
unfolding chain
chain_head s i h = go (length s) h
  where
    go : (k : ℕ) → 0 < k → i ≡ at (chain_of k s i) 0
    go zero l = absurd (not-suc-le-zero l)
    go (suc k) l = first_of k s i

-- and where a walker stands on record `id`, the next of it is record `id` + 1; the chain has no more records than the slice words.
pub chain_next : (s : Words) (i id p q : ℕ) → suc id < length s → p ≡ at (chain s i) id → p ≢ 0 → q ≡ at s p → q ≡ at (chain s i) (suc id)
unfolding chain
chain_next s i id p q h e n x = x ∙ ap (at s) e ∙ step_of (length s) s i id h (λ z. n (e ∙ z))

-- A field of record `id` of a kind is the rules' field.
pub field_is : (s : Words) (h id k p r : ℕ) → p ≡ at (chain s (at s h)) id → r ≡ at s (p + k) → r ≡ field s h id k
unfolding field records
field_is s h id k p r e x = x ∙ ap (λ j. at s (j + k)) e
