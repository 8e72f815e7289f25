-- Laws of the flex call's four questions in turn: the count runs on from one to the next, a step limit that is not passed changes nothing,
-- one that is passed ends no question with a number, and 18 and 19 don't come out.
use Rattle.std.specs.Prelude.{ℕ, ◌+◌, ◌≤◌, ◌≡◌, Bool, true, false, List, [], ◌∷◌, T, eqb, ltb}
use Rattle.std.proofs.Math.Path.{refl}
use Rattle.std.proofs.Common.{sym, ap, subst, add-zero, le_refl}
use Rattle.std.proofs.Math.Nat.{add_assoc}
use native.Mathlib.Omega.{arith}
use Rattle.std.proofs.Math.Dec.{eqb_refl}
use Rattle.rules.specs.Run.{Run, Out, got, refused, free, asked, within}
use Rattle.rules.specs.RunLaws.{got_not_refused, freely, Alike, equal_alike, made_alike, Between, Stops, Refuses}
use Rattle.rules.specs.Stops.{In_search}
use Rattle.rules.specs.Search.{Result}
use Rattle.rules.specs.Calls.{or_nothing, with_first, onward, in_turn, plainly}

-- How many questions searches in turn ask: those of the first and, unless it ends at 14 to 17, those of the others.
unfoldable pub asked_in_turn : List (Run (List Result)) → ℕ
asked_in_turn [] = 0
asked_in_turn (r ∷ rs) = asked r + elim (or_nothing (free r)) as (λ o. ℕ) [ got fs ↦ asked_in_turn rs | refused n ↦ 0 ]

-- What they come to without a step limit, and the count after.
abbrev pub freely_in_turn : List (Run (List Result)) → ℕ → Out (List (List Result)) × ℕ
freely_in_turn rs c = ((in_turn plainly rs tt).0, c + asked_in_turn rs)

abbrev pub Reading : Type 0
Reading = Out (List (List Result)) × ℕ

pub onward_rises : (rest : ℕ → Reading) → ((d : ℕ) → d ≤ (rest d).1) → (o : Out (List Result) × ℕ) → o.1 ≤ (onward rest o).1
unfolding onward
onward_rises rest h o = go (or_nothing o.0) refl
  where
    go : (w : Out (List Result)) → or_nothing o.0 ≡ w → o.1 ≤ (onward rest o).1
    go (got fs) e = rw (e, onward) (h o.1)
    go (refused n) e = rw (e, onward) (le_refl o.1)

module _ (L : ℕ) (r : Run (List Result)) (rs : List (Run (List Result))) where
  unfoldable pub rest : ℕ → Reading
  rest = in_turn (within (ltb L)) rs

  -- After a first search that is as without a step limit.
  pub after_first : (c : ℕ) → Alike L (rest (c + asked r)) (freely_in_turn rs (c + asked r)) → Alike L (onward rest (freely r c)) (freely_in_turn (r ∷ rs) c)
  unfolding onward in_turn asked_in_turn
  after_first c h = go (or_nothing (free r)) refl
    where
      go : (w : Out (List Result)) → or_nothing (free r) ≡ w → Alike L (onward rest (freely r c)) (freely_in_turn (r ∷ rs) c)
      go (got fs) e = rw (e, onward, in_turn, asked_in_turn, ← add_assoc c (asked r) (asked_in_turn rs)) (made_alike L (with_first fs) h)
      go (refused n) e = rw (e, onward, in_turn, asked_in_turn) (equal_alike L (ap (λ k. (refused n, c + k)) (sym (add-zero (asked r)))))

  pub first_low : (c : ℕ) → c + asked r ≤ (freely_in_turn (r ∷ rs) c).1
  unfolding asked_in_turn
  first_low c = omega arith

-- Each of some searches asks a question.
abbrev pub All_ask : List (Run (List Result)) → Type 0
All_ask [] = Unit {0}
All_ask (r ∷ rs) = (1 ≤ asked r) × All_ask rs

pub with_first_refused : (fs : List Result) (o : Out (List (List Result))) (n : ℕ) → with_first fs o ≡ refused n → o ≡ refused n
with_first_refused fs (got gs) n e = absurd (got_not_refused (fs ∷ gs) n e)
with_first_refused fs (refused m) n e = e

-- "There 18 and 19 count as nothing found; 14 to 17 don't."
or_nothing_stops : (o : Out (List Result)) → Refuses In_search o → Refuses (Between 14 17) (or_nothing o)
unfolding or_nothing
or_nothing_stops (got fs) h = tt
or_nothing_stops (refused n) h = go (eqb n 18) refl (eqb n 19) refl
  where
    other : (k : ℕ) → eqb n k ≡ false → n ≡ k → ⊥
    other k e p = subst T e (subst (λ m. T (eqb n m)) p (eqb_refl n))

    go : (b : Bool) → eqb n 18 ≡ b → (c : Bool) → eqb n 19 ≡ c → Refuses (Between 14 17) (or_nothing (refused n))
    go true e c f = rw (e, or_nothing) tt
    go false e true f = rw (e, f, or_nothing) tt
    go false e false f = rw (e, f, or_nothing) (omega (arith, other 18 e, other 19 f))

with_first_stops : (P : ℕ → Type 0) (fs : List Result) (o : Out (List (List Result))) → Refuses P o → Refuses P (with_first fs o)
with_first_stops P fs (got gs) h = tt
with_first_stops P fs (refused n) h = h

abbrev pub All_stop : List (Run (List Result)) → Type 0
All_stop [] = Unit {0}
All_stop (r ∷ rs) = Stops In_search r × All_stop rs

-- However they are read, searches in turn that stop with 14 to 19 come to 14 to 17.
pub turn_stops : {C : Type 0} (read : Run (List Result) → C → Out (List Result) × C) → ((r : Run (List Result)) (c : C) → Stops In_search r → Refuses In_search (read r c).0) → (rs : List (Run (List Result))) (c : C) → All_stop rs → Refuses (Between 14 17) (in_turn read rs c).0
unfolding in_turn onward
turn_stops read k [] c h = tt
turn_stops {C} read k (r ∷ rs) c h = go (or_nothing (read r c).0) refl (or_nothing_stops _ (k r c h.0)) (λ d. turn_stops read k rs d h.1)
  where
    go : (w : Out (List Result)) → or_nothing (read r c).0 ≡ w → Refuses (Between 14 17) (or_nothing (read r c).0) → ((d : C) → Refuses (Between 14 17) (in_turn read rs d).0) → Refuses (Between 14 17) (onward (λ d. in_turn read rs d) (read r c)).0
    go (got fs) e l ih = rw (e, onward) (with_first_stops (Between 14 17) fs (in_turn read rs (read r c).1).0 (ih (read r c).1))
    go (refused n) e l ih = rw (e, onward) (rw e at l)
