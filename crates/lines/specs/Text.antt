-- Text that is put behind the first bytes of a buffer, and numbers in decimal.
use Rattle.std.specs.Prelude.{ℕ, zero, suc, ◌+◌, ◌-◌, ◌/◌, ◌%◌, ◌≤◌, ◌<◌, ◌≡◌, refl, [], ◌∷◌, ◌++◌, length, take, set}
use Rattle.std.proofs.Common.{sym, ◌∙◌, ap, ap₂, subst, append_assoc, add-one, arith, length-append, take-suc-set}
use Rattle.rules.specs.Lists.{Words}
use Rattle.rules.specs.Listing.{decimal, decimal_in}

-- Behind the first `at` bytes stand some more, and r is where they end.
pub record Puts (xs : Words) (from : ℕ) (ws us : Words) (r : ℕ) : Type 0 where
  pub ends : r ≡ from + length xs
  pub text : take r us ≡ take from ws ++ xs

pub put_one : (b from : ℕ) (ws : Words) → from < length ws → Puts (b ∷ []) from ws (set ws from b) (from + 1)
put_one b from ws h = record { ends = refl; text = ap (λ n. take n (set ws from b)) (add-one from) ∙ take-suc-set ws from b h }

pub puts_none : (from : ℕ) (ws : Words) → Puts [] from ws ws from
puts_none from ws = record { ends = omega arith; text = sym (append_nil (take from ws)) }
  where
    append_nil : (xs : Words) → xs ++ [] ≡ xs
    append_nil [] = refl
    append_nil (x ∷ xs) = ap (λ (l : Words). x ∷ l) (append_nil xs)

pub puts_on : (xs ys : Words) (from r q : ℕ) (ws us vs : Words) → Puts xs from ws us r → Puts ys r us vs q → Puts (xs ++ ys) from ws vs q
puts_on xs ys from r q ws us vs a b = record {
  ends = omega (arith, a.ends, b.ends, length-append xs ys);
  text = b.text ∙ ap (λ (l : Words). l ++ ys) a.text ∙ append_assoc (take from ws) xs ys;
}

-- Decimal digits.
low_in : (k n : ℕ) → n < 10 → decimal_in (suc k) n ≡ (48 + n) ∷ []
unfolding decimal_in
low_in k n h = rw (let e : n / 10 ≡ 0 = omega arith in e, decimal_in) (ap (λ (m : ℕ). (48 + m) ∷ []) (let e : n % 10 ≡ n = omega arith in e))

more_in : (k n : ℕ) → 10 ≤ n → decimal_in (suc k) n ≡ decimal_in k (n / 10) ++ ((48 + n % 10) ∷ [])
unfolding decimal_in
more_in k n h = go (n / 10) refl
  where
    go : (m : ℕ) → n / 10 ≡ m → decimal_in (suc k) n ≡ decimal_in k (n / 10) ++ ((48 + n % 10) ∷ [])
    go zero e = absurd (omega arith)
    go (suc m) e = rw (e, decimal_in) refl

one-digit : (n : ℕ) → n < 10 → decimal n ≡ (48 + n) ∷ []
unfolding decimal
one-digit n h = low_in n n h

two_digits : (n : ℕ) → 10 ≤ n → n < 100 → decimal n ≡ ((48 + n / 10) ∷ []) ++ ((48 + n % 10) ∷ [])
unfolding decimal
two_digits zero l h = absurd (omega arith)
two_digits (suc n) l h = more_in (suc n) (suc n) l ∙ ap (λ (xs : Words). xs ++ ((48 + suc n % 10) ∷ [])) (low_in n (suc n / 10) (omega arith))

three_digits : (n : ℕ) → 100 ≤ n → n < 1000 → decimal n ≡ (((48 + n / 100) ∷ []) ++ ((48 + n / 10 % 10) ∷ [])) ++ ((48 + n % 10) ∷ [])
unfolding decimal
three_digits zero l h = absurd (omega arith)
three_digits (suc zero) l h = absurd (omega arith)
three_digits (suc (suc n)) l h =
    let m : ℕ = suc (suc n) in
    more_in m m (omega arith)
    ∙ ap (λ (xs : Words). xs ++ ((48 + m % 10) ∷ []))
    (more_in (suc n) (m / 10) (omega arith) ∙ ap (λ (xs : Words). xs ++ ((48 + m / 10 % 10) ∷ [])) (low_in n (m / 10 / 10) (omega arith) ∙ ap (λ (k : ℕ). (48 + k) ∷ []) (let e : m / 10 / 10 ≡ m / 100 = omega arith in e)))

pub number-one : (n a from r : ℕ) (ws us : Words) → n < 10 → a ≡ 48 + n → Puts (a ∷ []) from ws us r → Puts (decimal n) from ws us r
number-one n a from r ws us h e p = subst (λ l. Puts l from ws us r) (ap (λ (c : ℕ). c ∷ []) e ∙ sym (one-digit n h)) p

pub number_two : (n a b from r q : ℕ) (ws us vs : Words) → 10 ≤ n → n < 100 → a ≡ 48 + n / 10 → Puts (a ∷ []) from ws us r → b ≡ 48 + n % 10 → Puts (b ∷ []) r us vs q → Puts (decimal n) from ws vs q
number_two n a b from r q ws us vs l h e p f k =
    subst (λ xs. Puts xs from ws vs q) (ap₂ (λ (c d : ℕ). (c ∷ []) ++ (d ∷ [])) e f ∙ sym (two_digits n l h)) (puts_on (a ∷ []) (b ∷ []) from r q ws us vs p k)

pub number_three : (n a b c from r q z : ℕ) (w₀ w₁ w₂ w₃ : Words) → n < 1000 → 100 ≤ n → a ≡ 48 + n / 100 → Puts (a ∷ []) from w₀ w₁ r → b ≡ 48 + n / 10 % 10 → Puts (b ∷ []) r w₁ w₂ q → c ≡ 48 + n % 10 → Puts (c ∷ []) q w₂ w₃ z
    → Puts (decimal n) from w₀ w₃ z
number_three n a b c from r q z w₀ w₁ w₂ w₃ h l e p f k g i =
    subst (λ xs. Puts xs from w₀ w₃ z) (ap₂ (λ (xs : Words) (d : ℕ). xs ++ (d ∷ [])) (ap₂ (λ (s t : ℕ). (s ∷ []) ++ (t ∷ [])) e f) g ∙ sym (three_digits n l h))
    (puts_on ((a ∷ []) ++ (b ∷ [])) (c ∷ []) from q z w₀ w₂ w₃ (puts_on (a ∷ []) (b ∷ []) from r q w₀ w₁ w₂ p k) i)

-- At most three.
pub number_short : (n : ℕ) → n < 1000 → length (decimal n) ≤ 3
number_short n h = go (10 - n) refl (100 - n) refl
  where
    go : (x : ℕ) → 10 - n ≡ x → (y : ℕ) → 100 - n ≡ y → length (decimal n) ≤ 3
    go (suc x) e y f = omega (arith, ap length (one-digit n (omega arith)))
    go zero e (suc y) f = omega (arith, ap length (two_digits n (omega arith) (omega arith)))
    go zero e zero f = omega (arith, ap length (three_digits n (omega arith) h))
