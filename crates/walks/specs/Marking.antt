-- Marks of nodes, a word for each: marked where it is not 0.
use Rattle.std.specs.Prelude.{ℕ, zero, suc, ◌<◌, ◌≡◌, refl, Bool, true, false, not, [], ◌∷◌, ◌⊎◌, eqb, set}
use Rattle.std.proofs.Common.{sym, ◌∙◌, ap, inl, inr, le_of_suc-le-suc, not-suc-le-zero, get_or-set_other}
use Rattle.std.proofs.Math.Decide.{ℕ_discrete}
use Rattle.rules.specs.Lists.{Words}
use Rattle.rules.specs.Sheet.{at}
use Rattle.words.specs.Buffers.{cleared}

unfoldable pub is_marked : Words → ℕ → Bool
is_marked ms n = not (eqb (at ms n) 0)

unfoldable pub with_mark : Words → ℕ → Words
with_mark ms n = set ms n 1

pub marked_word : (ms : Words) (n w x : ℕ) → w ≡ n → x ≡ at ms w → not (eqb x 0) ≡ is_marked ms n
unfolding is_marked
marked_word ms n w x e q = ap (λ y. not (eqb y 0)) (q ∙ ap (at ms) e)

pub marks_word : (ms : Words) (n w : ℕ) → w ≡ n → set ms w 1 ≡ with_mark ms n
unfolding with_mark
marks_word ms n w e = ap (λ k. set ms k 1) e

-- What is marked was marked, or is the node just marked.
pub newly_marked : (ms : Words) (n m : ℕ) → is_marked (with_mark ms n) m ≡ true → (m ≡ n) ⊎ (is_marked ms m ≡ true)
unfolding is_marked with_mark
newly_marked ms n m e = elim (ℕ_discrete m n) [ yes q ↦ inl q | no q ↦ inr (sym (ap (λ y. not (eqb y 0)) (get_or-set_other ms n m 1 0 q)) ∙ e) ]

-- None of those cleared is marked.
pub cleared-none : (n m : ℕ) (ms : Words) → m < n → is_marked (cleared n ms) m ≡ false
unfolding is_marked cleared
cleared-none zero m ms h = absurd (not-suc-le-zero h)
cleared-none (suc n) m [] h = refl
cleared-none (suc n) zero (x ∷ ms) h = refl
cleared-none (suc n) (suc m) (x ∷ ms) h = cleared-none n m ms (le_of_suc-le-suc h)
