-- Laws of `Run`: one thing after another under a step limit, how far a count rises, a step limit that is not passed changes nothing, one that is passed is 18,
-- and the numbers with which a run stops.
use Prim.Native.Nat.{ℕ, suc, ◌+◌, ◌≤◌, ◌<◌, max}
use Rattle.std.proofs.Math.Path.{◌≡◌, refl, sym, ap}
use Rattle.std.proofs.Common.{◌∙◌, true≢false, add-zero, not-suc-le-zero, lt_of_not-le}
use Rattle.std.specs.Prelude.{Bool}
use Rattle.std.proofs.Math.Bool.{true, false}
use Rattle.std.proofs.Math.Nat.{add-suc, suc-add, le_refl}
use native.Mathlib.Omega.{arith}
use Rattle.std.proofs.Math.Dec.{ltb}
use Rattle.rules.specs.Run.{Run, done, stop, asks, ◌>>=◌, Out, got, refused, free, asked, within}
use Rattle.rules.specs.RunLaws.{after, freely, not_above, above, at_most, Alike, Stops, Refuses}

-- One thing after another, read under a step limit: the second is read from the count at which the first ends.
pub within_bind : {A B : Type 0} (over : ℕ → Bool) (m : Run A) (f : A → Run B) (c : ℕ) → within over (m >>= f) c ≡ after (λ a d. within over (f a) d) (within over m c)
unfolding within ◌>>=◌
within_bind over (done a) f c = refl
within_bind over (stop n) f c = refl
within_bind over (asks r) f c = go (over (suc c)) refl (within_bind over r f (suc c))
  where
    go : (b : Bool) → over (suc c) ≡ b → within over (r >>= f) (suc c) ≡ after (λ a d. within over (f a) d) (within over r (suc c)) →
        within over (asks r >>= f) c ≡ after (λ a d. within over (f a) d) (within over (asks r) c)
    go true e ih = rw (e, within)
    go false e ih = rw (e, within) ih

module _ {A : Type 0} (over : ℕ → Bool) where
  -- A count never falls.
  pub rises : (r : Run A) (c : ℕ) → c ≤ (within over r c).1
  unfolding within
  rises (done a) c = le_refl c
  rises (stop n) c = le_refl c
  rises (asks r) c = go (over (suc c)) refl (rises r (suc c))
    where
      go : (b : Bool) → over (suc c) ≡ b → suc c ≤ (within over r (suc c)).1 → c ≤ (within over (asks r) c).1
      go true e ih = rw (e, within) (omega arith)
      go false e ih = rw (e, within) (omega arith)

  -- Where a question is asked, it rises.
  pub rises_asking : (r : Run A) (c : ℕ) → 1 ≤ asked r → c < (within over r c).1
  unfolding within asked
  rises_asking (done a) c h = absurd (not-suc-le-zero h)
  rises_asking (stop n) c h = absurd (not-suc-le-zero h)
  rises_asking (asks r) c h = go (over (suc c)) refl
    where
      go : (b : Bool) → over (suc c) ≡ b → c < (within over (asks r) c).1
      go true e = rw (e, within) (le_refl (suc c))
      go false e = rw (e, within) (rises r (suc c))

  step : (r : Run A) (c : ℕ) → freely r (suc c) ≡ freely (asks r) c
  unfolding free asked
  step r c = λ i. (free r, (suc-add c (asked r) ∙ sym (add-suc c (asked r))) i)

  -- A run that ends at a count that is not over is the run without a step limit.
  pub agrees : (r : Run A) (c : ℕ) → over (within over r c).1 ≡ false → within over r c ≡ freely r c
  unfolding within free asked
  agrees (done a) c h = λ i. (got a, sym (add-zero c) i)
  agrees (stop n) c h = λ i. (refused n, sym (add-zero c) i)
  agrees (asks r) c h = go (over (suc c)) refl (agrees r (suc c)) h
    where
      go : (b : Bool) → over (suc c) ≡ b → (over (within over r (suc c)).1 ≡ false → within over r (suc c) ≡ freely r (suc c)) → over (within over (asks r) c).1 ≡ false → within over (asks r) c ≡ freely (asks r) c
      go true e ih h = absurd (true≢false (sym e ∙ rw (e, within) at h))
      go false e ih h = rw (e, within) (ih (rw (e, within) at h) ∙ step r c)

  -- So is one all of whose questions find a count that is not over.
  pub enough : (r : Run A) (c : ℕ) → ((n : ℕ) → c < n → n ≤ c + asked r → over n ≡ false) → within over r c ≡ freely r c
  unfolding within free asked
  enough (done a) c h = λ i. (got a, sym (add-zero c) i)
  enough (stop n) c h = λ i. (refused n, sym (add-zero c) i)
  enough (asks r) c h =
      rw (h (suc c) (omega arith) (omega (arith, add-suc c (asked r))), within)
      (enough r (suc c) (λ n lo hi. h n (omega arith) (omega (arith, suc-add c (asked r), add-suc c (asked r)))) ∙ step r c)

-- Every run is so read.
pub run_alike : {A : Type 0} (L : ℕ) (r : Run A) (c : ℕ) → Alike L (within (ltb L) r c) (freely r c)
run_alike L r c = record {
  run_low = λ h. agrees (ltb L) r c (not_above L _ h);
  free_low = λ h. enough (ltb L) r c (λ n lo hi. not_above L n (omega arith));
}

module _ {A : Type 0} (L : ℕ) where
  -- A count rises at most to 1 above the limit, or above the start where that is higher.
  pub rises_to : (r : Run A) (c : ℕ) → (within (ltb L) r c).1 ≤ max L c + 1
  unfolding within
  rises_to (done a) c = omega arith
  rises_to (stop n) c = omega arith
  rises_to (asks r) c = go (ltb L (suc c)) refl (rises_to r (suc c))
    where
      go : (b : Bool) → ltb L (suc c) ≡ b → (within (ltb L) r (suc c)).1 ≤ max L (suc c) + 1 → (within (ltb L) (asks r) c).1 ≤ max L c + 1
      go true e ih = rw (e, within) (omega arith)
      go false e ih = rw (e, within) (omega (arith, at_most L (suc c) e))

  -- "Above 2,000 it is 18": a run that asks something and more than there is room for ends with 18, at just that count.
  pub runs_out : (r : Run A) (c : ℕ) → 1 ≤ asked r → L < c + asked r → within (ltb L) r c ≡ (refused 18, max L c + 1)
  unfolding within asked
  runs_out (done a) c h l = absurd (not-suc-le-zero h)
  runs_out (stop n) c h l = absurd (not-suc-le-zero h)
  runs_out (asks r) c h l = go (ltb L (suc c)) refl (runs_out r (suc c))
    where
      ends : (m n : ℕ) → m ≡ n → ◌≡◌ {A = Out A × ℕ} (refused 18, m) (refused 18, n)
      ends m n e = ap (λ k. (refused 18, k)) e

      go : (b : Bool) → ltb L (suc c) ≡ b → (1 ≤ asked r → L < suc c + asked r → within (ltb L) r (suc c) ≡ (refused 18, max L (suc c) + 1)) → within (ltb L) (asks r) c ≡ (refused 18, max L c + 1)
      go true e ih = rw (e, within) (ends (suc c) (max L c + 1) (omega (arith, above L (suc c) e)))
      go false e ih = rw (e, within) (ih (omega (arith, at_most L (suc c) e)) (omega arith) ∙ ends (max L (suc c) + 1) (max L c + 1) (omega (arith, at_most L (suc c) e)))

  -- So does one that asks something and ends above the limit.
  pub passes : (r : Run A) (c : ℕ) → 1 ≤ asked r → L < (within (ltb L) r c).1 → within (ltb L) r c ≡ (refused 18, max L c + 1)
  passes r c h l = runs_out r c h (lt_of_not-le (λ k. omega (arith, ap (λ o. o.1) ((run_alike L r c).free_low k))))

pub within_stops : {A : Type 0} (P : ℕ → Type 0) → P 18 → (over : ℕ → Bool) (r : Run A) (c : ℕ) → Stops P r → Refuses P (within over r c).0
unfolding within
within_stops P p over (done a) c h = tt
within_stops P p over (stop n) c h = h
within_stops P p over (asks r) c h = go (over (suc c)) refl (within_stops P p over r (suc c) h)
  where
    go : (b : Bool) → over (suc c) ≡ b → Refuses P (within over r (suc c)).0 → Refuses P (within over (asks r) c).0
    go true e ih = rw (e, within) p
    go false e ih = rw (e, within) ih
