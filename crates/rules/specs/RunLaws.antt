-- Laws of `Run`: one thing after another under a step limit, how far a count rises, a step limit that is not passed changes nothing, one that is passed is 18,
-- and the numbers with which a run stops.
use Prim.Native.Nat.{ℕ, ◌+◌, ◌≤◌, ◌<◌}
use Rattle.std.proofs.Math.Path.{◌≡◌, refl, sym, ap}
use Rattle.std.proofs.Common.{subst, ltb→lt, nltb→le}
use Rattle.std.specs.Prelude.{Bool, not, T}
use Rattle.std.proofs.Math.Bool.{true, false}
use native.Mathlib.Omega.{arith}
use Rattle.std.proofs.Math.Dec.{ltb}
use Rattle.rules.specs.Run.{Run, done, stop, asks, ◌>>=◌, Out, got, refused, free, asked}

-- A value is no refusal, and a refusal has one number.
pub got_not_refused : {A : Type 0} (a : A) (n : ℕ) → got a ≡ refused n → ⊥
got_not_refused a n e = omega (arith, no e)
  where
    no : got a ≡ refused n → ◌≡◌ {A = ℕ} 0 1
    no e = cc

pub same_number : {A : Type 0} (m n : ℕ) → ◌≡◌ {A = Out A} (refused m) (refused n) → m ≡ n
same_number m n e = cc

-- What follows a reading that came to a value; a refusal ends it.
abbrev pub after : {A B : Type 0} → (A → ℕ → Out B × ℕ) → Out A × ℕ → Out B × ℕ
after f o = elim o.0 [ got a ↦ f a o.1 | refused n ↦ (refused n, o.1) ]

-- A run read without a step limit, from a count: what it comes to, and the count after the questions that it asks.
abbrev pub freely : {A : Type 0} → Run A → ℕ → Out A × ℕ
freely r c = (free r, c + asked r)

-- The test for "above the limit".
pub not_above : (L n : ℕ) → n ≤ L → ltb L n ≡ false
not_above L n h = go (ltb L n) refl
  where
    go : (b : Bool) → ltb L n ≡ b → ltb L n ≡ false
    go true e = absurd (omega (arith, ltb→lt L n (subst T (sym e) tt)))
    go false e = e

pub above : (L n : ℕ) → ltb L n ≡ true → L < n
above L n e = ltb→lt L n (subst T (sym e) tt)

pub at_most : (L n : ℕ) → ltb L n ≡ false → n ≤ L
at_most L n e = nltb→le L n (subst (λ b. T (not b)) (sym e) tt)

-- A reading under the step limit L and one without: where either ends at L or below, they are the same.
pub record Alike {A : Type 0} (L : ℕ) (run free : Out A × ℕ) : Type 0 where
  pub run_low : run.1 ≤ L → run ≡ free
  pub free_low : free.1 ≤ L → run ≡ free

-- Equal readings are so, and what is made of a reading alone stays so.
pub equal_alike : {A : Type 0} (L : ℕ) {run free : Out A × ℕ} → run ≡ free → Alike L run free
equal_alike L e = record { run_low = λ h. e; free_low = λ h. e }

pub made_alike : {A B : Type 0} (L : ℕ) (f : Out A → Out B) {run free : Out A × ℕ} → Alike L run free → Alike L (f run.0, run.1) (f free.0, free.1)
made_alike L f h = record {
  run_low = λ l. ap (λ o. (f o.0, o.1)) (h.run_low l);
  free_low = λ l. ap (λ o. (f o.0, o.1)) (h.free_low l);
}

-- The number n is one of lo to hi.
pub record Between (lo hi n : ℕ) : Type 0 where
  pub least : lo ≤ n
  pub most : n ≤ hi

-- P holds of the number of every stop of a run.
abbrev pub Stops : {A : Type 0} → (ℕ → Type 0) → Run A → Type 0
Stops P (done a) = Unit {0}
Stops P (stop n) = P n
Stops P (asks r) = Stops P r

pub bind_stops : {A B : Type 0} (P : ℕ → Type 0) (r : Run A) (f : A → Run B) → Stops P r → ((a : A) → Stops P (f a)) → Stops P (r >>= f)
unfolding ◌>>=◌
bind_stops P (done a) f l h = h a
bind_stops P (stop n) f l h = l
bind_stops P (asks r) f l h = bind_stops P r f l h

-- P holds of a refusal's number, Q of a value.
abbrev pub Says : {A : Type 0} → (ℕ → Type 0) → (A → Type 0) → Out A → Type 0
Says P Q (got a) = Q a
Says P Q (refused n) = P n

pub said : {A : Type 0} (P : ℕ → Type 0) (Q : A → Type 0) (o : Out A) → Says P Q o → (n : ℕ) → o ≡ refused n → P n
said P Q o h n e = subst (Says P Q) e h

abbrev pub Refuses : {A : Type 0} → (ℕ → Type 0) → Out A → Type 0
Refuses P o = Says P (λ a. Unit {0}) o

-- So every reading refuses, without a step limit and, if P holds of 18, with one.
pub free_stops : {A : Type 0} (P : ℕ → Type 0) (r : Run A) → Stops P r → Refuses P (free r)
unfolding free
free_stops P (done a) h = tt
free_stops P (stop n) h = h
free_stops P (asks r) h = free_stops P r h
