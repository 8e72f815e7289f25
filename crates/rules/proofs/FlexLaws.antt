-- Laws of the flex call's four questions in turn: the count runs on from one to the next, a step limit that is not passed changes nothing,
-- one that is passed ends no question with a number, and 18 and 19 don't come out.
use Rattle.std.specs.Prelude.{ℕ, suc, ◌+◌, ◌≤◌, ◌<◌, max, ◌≡◌, Bool, true, false, List, [], ◌∷◌, ltb, length}
use Rattle.std.proofs.Math.Path.{refl}
use Rattle.std.proofs.Common.{sym, ◌∙◌, ap, add-zero, le_refl, le_trans}
use native.Mathlib.Omega.{arith}
use Rattle.rules.specs.Run.{Run, Out, got, refused, asked, within}
use Rattle.rules.specs.RunLaws.{got_not_refused, freely, above, at_most, Alike, equal_alike}
use Rattle.rules.proofs.RunLaws.{rises, rises_asking, rises_to, passes, run_alike}
use Rattle.rules.specs.Search.{Result}
use Rattle.rules.specs.Calls.{or_nothing, onward, in_turn}
use Rattle.rules.specs.FlexLaws.{asked_in_turn, freely_in_turn, Reading, onward_rises, rest, after_first, first_low, All_ask, with_first_refused}

-- The count never falls.
pub turn_rises : (over : ℕ → Bool) (rs : List (Run (List Result))) (c : ℕ) → c ≤ (in_turn (within over) rs c).1
unfolding in_turn
turn_rises over [] c = le_refl c
turn_rises over (r ∷ rs) c = le_trans (rises over r c) (onward_rises (in_turn (within over) rs) (turn_rises over rs) (within over r c))

-- Under the step limit L they are read as without one, where either ends at L or below.
pub turn_alike : (L : ℕ) (rs : List (Run (List Result))) (c : ℕ) → Alike L (in_turn (within (ltb L)) rs c) (freely_in_turn rs c)
unfolding in_turn asked_in_turn rest
turn_alike L [] c = equal_alike L (λ i. (got [], sym (add-zero c) i))
turn_alike L (r ∷ rs) c = go (turn_alike L rs (c + asked r))
  where
    first : Alike L (within (ltb L) r c) (freely r c)
    first = run_alike L r c

    go : Alike L (rest L r rs (c + asked r)) (freely_in_turn rs (c + asked r)) → Alike L (onward (rest L r rs) (within (ltb L) r c)) (freely_in_turn (r ∷ rs) c)
    go h = record {
      run_low = λ l.
          let e = ap (onward (rest L r rs)) (first.run_low (le_trans (onward_rises (rest L r rs) (turn_rises (ltb L) rs) (within (ltb L) r c)) l)) in
          e ∙ (after_first L r rs c h).run_low (rw e at l);
      free_low = λ l. ap (onward (rest L r rs)) (first.free_low (le_trans (first_low L r rs c) l)) ∙ (after_first L r rs c h).free_low l;
    }

-- The count rises where the first asks a question,
pub turn_asking : (over : ℕ → Bool) (r : Run (List Result)) (rs : List (Run (List Result))) (c : ℕ) → 1 ≤ asked r → c < (in_turn (within over) (r ∷ rs) c).1
unfolding in_turn
turn_asking over r rs c h = le_trans (rises_asking over r c h) (onward_rises (in_turn (within over) rs) (turn_rises over rs) (within over r c))

-- at most by 1 above the limit, or above the start where that is higher, for each search.
pub turn_to : (L : ℕ) (rs : List (Run (List Result))) (c : ℕ) → (in_turn (within (ltb L)) rs c).1 ≤ max L c + length rs
unfolding in_turn onward
turn_to L [] c = omega arith
turn_to L (r ∷ rs) c = go (or_nothing (within (ltb L) r c).0) refl (turn_to L rs (within (ltb L) r c).1)
  where
    d : ℕ
    d = (within (ltb L) r c).1

    go : (w : Out (List Result)) → or_nothing (within (ltb L) r c).0 ≡ w → (in_turn (within (ltb L)) rs d).1 ≤ max L d + length rs → (onward (λ d. in_turn (within (ltb L)) rs d) (within (ltb L) r c)).1 ≤ max L c + suc (length rs)
    go (got fs) e ih = rw (e, onward) (omega (arith, rises_to L r c))
    go (refused n) e ih = rw (e, onward) (omega (arith, rises_to L r c))

-- A number comes out of them only with the count at the limit or below: one whose count passes it is 18, and so "nothing found".
pub turn_refused : (L : ℕ) (rs : List (Run (List Result))) (c : ℕ) → All_ask rs → (n : ℕ) → (in_turn (within (ltb L)) rs c).0 ≡ refused n → (in_turn (within (ltb L)) rs c).1 ≤ L
unfolding in_turn onward or_nothing
turn_refused L [] c h n e = absurd (got_not_refused [] n e)
turn_refused L (r ∷ rs) c h n e = go (ltb L (within (ltb L) r c).1) refl (or_nothing (within (ltb L) r c).0) refl (λ d. turn_refused L rs d h.1 n) e
  where
    rest' : ℕ → Reading
    rest' d = in_turn (within (ltb L)) rs d

    nothing : L < (within (ltb L) r c).1 → or_nothing (within (ltb L) r c).0 ≡ got []
    nothing l = ap (λ o. or_nothing o.0) (passes L r c h.0 l)

    go : (b : Bool) → ltb L (within (ltb L) r c).1 ≡ b → (w : Out (List Result)) → or_nothing (within (ltb L) r c).0 ≡ w → ((d : ℕ) → (rest' d).0 ≡ refused n → (rest' d).1 ≤ L) → (onward rest' (within (ltb L) r c)).0 ≡ refused n → (onward rest' (within (ltb L) r c)).1 ≤ L
    go b u (got fs) f ih k = rw (f, onward) (ih (within (ltb L) r c).1 (with_first_refused fs _ n (rw (f, onward) at k)))
    go true u (refused m) f ih k = absurd (got_not_refused [] m (sym (nothing (above L _ u)) ∙ f))
    go false u (refused m) f ih k = rw (f, onward) (at_most L _ u)
