-- Laws of the list of checks: the first that refuses decides, and with what numbers entry (1 to 5) and the checks between entry and search (6 to 13) refuse.
use Rattle.std.specs.Prelude.{ℕ, ◌≡◌, refl, Bool, true, false, [], ◌∷◌, ◌++◌}
use Rattle.std.proofs.Common.{subst, arith}
use Rattle.std.proofs.Math.Option.{none, some, some-injective, some-ne-none, none-ne-some}
use Rattle.rules.specs.Lists.{Words}
use Rattle.rules.specs.RunLaws.{Between}
use Rattle.rules.specs.Search.{Finder}
use Rattle.rules.specs.Check.{Checks, refusal, of_length, entry, of_sheet, of_ids, of_impl_question, of_flex_question, impl_checks, flex_checks}

-- Checks that refuse leave nothing to those after them.
pub refusal_front : (xs ys : Checks) (n : ℕ) → refusal xs ≡ some n → refusal (xs ++ ys) ≡ some n
unfolding refusal
refusal_front [] ys n e = absurd (none-ne-some n e)
refusal_front (x ∷ xs) ys n e = go x.1 e (refusal_front xs ys n)
  where
    go : (b : Bool) → refusal ((x.0, b) ∷ xs) ≡ some n → (refusal xs ≡ some n → refusal (xs ++ ys) ≡ some n) → refusal ((x.0, b) ∷ (xs ++ ys)) ≡ some n
    go true k ih = k
    go false k ih = ih k

-- Checks that refuse nothing leave the word to those after them.
pub refusal-after : (xs ys : Checks) → refusal xs ≡ none → refusal (xs ++ ys) ≡ refusal ys
unfolding refusal
refusal-after [] ys e = refl
refusal-after (x ∷ xs) ys e = go x.1 e (refusal-after xs ys)
  where
    go : (b : Bool) → refusal ((x.0, b) ∷ xs) ≡ none → (refusal xs ≡ none → refusal (xs ++ ys) ≡ refusal ys) → refusal ((x.0, b) ∷ (xs ++ ys)) ≡ refusal ys
    go true k ih = absurd (some-ne-none x.0 k)
    go false k ih = ih k

-- A refusal has the number of one of the checks.
abbrev Numbers : (ℕ → Type 0) → Checks → Type 0
Numbers P [] = Unit {0}
Numbers P (c ∷ cs) = P c.0 × Numbers P cs

numbered : (P : ℕ → Type 0) (cs : Checks) → Numbers P cs → (n : ℕ) → refusal cs ≡ some n → P n
unfolding refusal
numbered P [] h n e = absurd (none-ne-some n e)
numbered P (c ∷ cs) h n e = go c.1 e (numbered P cs h.1 n)
  where
    go : (b : Bool) → refusal ((c.0, b) ∷ cs) ≡ some n → (refusal cs ≡ some n → P n) → P n
    go true k ih = subst P (some-injective _ _ k) h.0
    go false k ih = ih k

-- The entry refuses with 1 to 5,
pub entry_numbers : (s q : Words) (answer work c n : ℕ) → refusal (entry s q answer work c) ≡ some n → Between 1 5 n
unfolding entry of_length
entry_numbers s q answer work c n e = numbered (Between 1 5) (entry s q answer work c) (omega arith) n e

-- the checks between entry and search with 6 to 13.
pub impl_check_numbers : (a : Finder) (basic : ℕ) (q : Words) (n : ℕ) → refusal (impl_checks a basic q) ≡ some n → Between 6 13 n
unfolding impl_checks of_sheet of_ids of_impl_question
impl_check_numbers a basic q n e = numbered (Between 6 13) (impl_checks a basic q) (omega arith) n e

pub flex_check_numbers : (a : Finder) (q : Words) (n : ℕ) → refusal (flex_checks a q) ≡ some n → Between 6 13 n
unfolding flex_checks of_sheet of_ids of_flex_question
flex_check_numbers a q n e = numbered (Between 6 13) (flex_checks a q) (omega arith) n e
