-- The decimal digits of a number: the count that bounds them is never used up.
use Rattle.std.specs.Prelude.{ℕ, zero, suc, ◌+◌, ◌/◌, ◌%◌, ◌<◌, ◌≡◌, refl, [], ◌∷◌, ◌++◌}
use Rattle.std.proofs.Common.{ap, ◌∙◌, not-suc-le-zero, arith}
use Rattle.rules.specs.Lists.{Words}
use Rattle.rules.specs.Listing.{decimal_in, decimal}

-- More of the count changes nothing, where it is above the number.
decimal_more : (k n : ℕ) → n < k → decimal_in (suc k) n ≡ decimal_in k n
unfolding decimal_in
decimal_more zero n h = absurd (not-suc-le-zero h)
decimal_more (suc k) n h = go (n / 10) refl (decimal_more k)
  where
    go : (m : ℕ) → n / 10 ≡ m → ((i : ℕ) → i < k → decimal_in (suc k) i ≡ decimal_in k i) → decimal_in (suc (suc k)) n ≡ decimal_in (suc k) n
    go zero e ih = rw (e, decimal_in)
    go (suc m) e ih = rw (e, decimal_in) (ap (λ (ws : Words). ws ++ ((48 + n % 10) ∷ [])) (ih (suc m) (omega arith)))

pub decimal_enough : (m n : ℕ) → decimal_in (m + suc n) n ≡ decimal n
unfolding decimal
decimal_enough zero n = ap (λ k. decimal_in k n) (omega arith)
decimal_enough (suc m) n = ap (λ k. decimal_in k n) (omega arith) ∙ decimal_more (m + suc n) n (omega arith) ∙ decimal_enough m n
