-- What a relation on the numbers below n reaches, by rounds over a list of marks. Components and candidate sets are defined with it; ReachLaws says that it is what paths reach.
use Rattle.std.specs.Prelude.{ℕ, zero, suc, Bool, true, false, ◌||◌, List, [], ◌∷◌, get_or, set, replicate}
use Rattle.rules.specs.Lists.{Words}

-- Marks of some numbers.
abbrev pub Marks : Type 0
Marks = List Bool

-- A number is marked.
abbrev pub marked : Marks → ℕ → Bool
marked ms n = get_or ms n false

-- Some number below n passes the test.
unfoldable pub any_below : ℕ → (ℕ → Bool) → Bool
any_below zero f = false
any_below (suc n) f = let r = any_below n f in f n || r

-- Further marks: those at which a test of the place passes.
unfoldable pub grow : (ℕ → Bool) → ℕ → Marks → Marks
grow f i [] = []
grow f i (m ∷ ms) = (m || f i) ∷ grow f (suc i) ms

module _ (R : ℕ → ℕ → Bool) where
  -- One round: all that a marked place leads to.
  unfoldable pub round : ℕ → Marks → Marks
  round n ms = grow (λ y. any_below n (λ x. elim (marked ms x) [ true ↦ R x y | false ↦ false ])) 0 ms

  -- So many rounds.
  unfoldable pub rounds : ℕ → ℕ → Marks → Marks
  rounds n zero ms = ms
  rounds n (suc k) ms = rounds n k (round n ms)

-- The marks of what the marked places reach, of n places in all.
unfoldable pub closure : ℕ → (ℕ → ℕ → Bool) → Marks → Marks
closure n R ms = rounds R n n ms

-- Further marks, of some places.
unfoldable pub mark_all : Words → Marks → Marks
mark_all [] ms = ms
mark_all (x ∷ xs) ms = mark_all xs (set ms x true)

-- The marks of some places, of n in all.
unfoldable pub marks_of : ℕ → Words → Marks
marks_of n xs = mark_all xs (replicate n false)

-- Place x reaches place y.
unfoldable pub reach : ℕ → (ℕ → ℕ → Bool) → ℕ → ℕ → Bool
reach n R x y = marked (closure n R (marks_of n (x ∷ []))) y
