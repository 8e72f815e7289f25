-- Rounds over marks come to rest, and mark what paths reach.
use Prim.Native.Nat.{ℕ, zero, suc, ◌+◌, ◌≤◌, ◌<◌, suc-le-suc}
use Rattle.std.specs.Prelude.{◌≡◌, Bool, ◌||◌, [], ◌∷◌, ◌⊎◌, ◌↔◌, length, set, replicate}
use Rattle.std.proofs.Math.Path.{refl, sym, ap, subst}
use Rattle.std.proofs.Common.{◌∙◌, inl, inr, ⊎_elim, add-zero, add-suc, le_refl, le_of_suc-le-suc, not-suc-le-zero, zero-lt-suc, eq-or-lt_of_le, arith, length-set}
use Rattle.std.proofs.Math.Bool.{true, false}
use Rattle.std.proofs.Math.Nat.{zero-add, suc-add}
use Rattle.std.proofs.Math.Dec.{T}
use Rattle.std.proofs.lemmas.List.{length-replicate}
use Rattle.rules.specs.Lists.{Words}
use Rattle.rules.specs.Reach.{Marks, marked, any_below, grow, round, rounds, closure, mark_all, marks_of}
use Rattle.rules.specs.Members.{In, first, later, in_cases, in_empty}

-- A path of a relation, of zero or more steps, from a marked place.
pub data From (R : ℕ → ℕ → Bool) (ms : Marks) : ℕ → Type 0 where
  here : {x : ℕ} → T (marked ms x) → From R ms x
  then : {y z : ℕ} → From R ms y → T (R y z) → From R ms z

-- How many places are marked.
unfoldable pub count : Marks → ℕ
count [] = 0
count (true ∷ ms) = suc (count ms)
count (false ∷ ms) = count ms

-- At most all.
pub count_le : (ms : Marks) → count ms ≤ length ms
unfolding count
count_le [] = le_refl 0
count_le (true ∷ ms) = omega (arith, count_le ms)
count_le (false ∷ ms) = omega (arith, count_le ms)

-- Further marks change no length.
pub grow-length : (f : ℕ → Bool) (i : ℕ) (ms : Marks) → length (grow f i ms) ≡ length ms
unfolding grow
grow-length f i [] = refl
grow-length f i (m ∷ ms) = ap suc (grow-length f (suc i) ms)

grow-count : (f : ℕ → Bool) (i : ℕ) (ms : Marks) → count ms ≤ count (grow f i ms)
unfolding grow count
grow-count f i [] = le_refl 0
grow-count f i (true ∷ ms) = omega (arith, grow-count f (suc i) ms)
grow-count f i (false ∷ ms) = go (f i) (grow-count f (suc i) ms)
  where
    go : (b : Bool) → count ms ≤ count (grow f (suc i) ms) → count ms ≤ count (b ∷ grow f (suc i) ms)
    go true h = omega arith
    go false h = h

-- A round that changes anything adds to the count.
grow_cases : (f : ℕ → Bool) (i : ℕ) (ms : Marks) → (grow f i ms ≡ ms) ⊎ (count ms < count (grow f i ms))
unfolding grow count
grow_cases f i [] = inl refl
grow_cases f i (true ∷ ms) = go (grow_cases f (suc i) ms)
  where
    go : (grow f (suc i) ms ≡ ms) ⊎ (count ms < count (grow f (suc i) ms)) → (grow f i (true ∷ ms) ≡ true ∷ ms) ⊎ (count (true ∷ ms) < count (grow f i (true ∷ ms)))
    go (inl e) = inl (ap (λ l. true ∷ l) e)
    go (inr h) = inr (omega arith)
grow_cases f i (false ∷ ms) = go (f i) (grow_cases f (suc i) ms)
  where
    go : (b : Bool) → (grow f (suc i) ms ≡ ms) ⊎ (count ms < count (grow f (suc i) ms)) → (b ∷ grow f (suc i) ms ≡ false ∷ ms) ⊎ (count ms < count (b ∷ grow f (suc i) ms))
    go true h = inr (omega (arith, grow-count f (suc i) ms))
    go false (inl e) = inl (ap (λ l. false ∷ l) e)
    go false (inr h) = inr h

-- Where all is marked, nothing changes.
grow_full : (f : ℕ → Bool) (i : ℕ) (ms : Marks) → length ms ≤ count ms → grow f i ms ≡ ms
unfolding grow count
grow_full f i [] h = refl
grow_full f i (true ∷ ms) h = ap (λ l. true ∷ l) (grow_full f (suc i) ms (le_of_suc-le-suc h))
grow_full f i (false ∷ ms) h = absurd (omega (arith, count_le ms))

module _ (R : ℕ → ℕ → Bool) (n : ℕ) where
  rounds_fixed : (k : ℕ) (ms : Marks) → round R n ms ≡ ms → rounds R n k ms ≡ ms
  unfolding rounds
  rounds_fixed zero ms e = refl
  rounds_fixed (suc k) ms e = ap (rounds R n k) e ∙ rounds_fixed k ms e

  -- Enough rounds come to rest: the count of marks rises or nothing changes.
  rest : (k : ℕ) (ms : Marks) → length ms ≤ k + count ms → round R n (rounds R n k ms) ≡ rounds R n k ms
  unfolding rounds round
  rest zero ms h = grow_full _ 0 ms (rw zero-add at h)
  rest (suc k) ms h = go (grow_cases _ 0 ms) (rest k (round R n ms))
    where
      go : (round R n ms ≡ ms) ⊎ (count ms < count (round R n ms)) → (length (round R n ms) ≤ k + count (round R n ms) → round R n (rounds R n k (round R n ms)) ≡ rounds R n k (round R n ms)) → round R n (rounds R n k (round R n ms)) ≡ rounds R n k (round R n ms)
      go (inl e) ih = let p = ap (rounds R n k) e ∙ rounds_fixed k ms e in ap (round R n) p ∙ e ∙ sym p
      go (inr l) ih = ih (omega (arith, grow-length (λ y. any_below n (λ x. elim (marked ms x) [ true ↦ R x y | false ↦ false ])) 0 ms, suc-add k (count ms)))

-- The rounds of `closure` come to rest: one more changes nothing.
pub closure_rests : (n : ℕ) (R : ℕ → ℕ → Bool) (ms : Marks) → length ms ≡ n → round R n (closure n R ms) ≡ closure n R ms
unfolding closure
closure_rests n R ms e = rest R n n ms (omega (arith, e))

rounds_add : (R : ℕ → ℕ → Bool) (n j k : ℕ) (ms : Marks) → rounds R n (j + k) ms ≡ rounds R n k (rounds R n j ms)
unfolding rounds
rounds_add R n zero k ms = ap (λ m. rounds R n m ms) (zero-add k)
rounds_add R n (suc j) k ms = ap (λ m. rounds R n m ms) (suc-add j k) ∙ rounds_add R n j k (round R n ms)

-- Nor do any number more.
pub closure_enough : (n k : ℕ) (R : ℕ → ℕ → Bool) (ms : Marks) → length ms ≡ n → rounds R n (n + k) ms ≡ closure n R ms
unfolding closure
closure_enough n k R ms e = rounds_add R n n k ms ∙ rounds_fixed R n k (rounds R n n ms) (rest R n n ms (omega (arith, e)))

-- A mark after a round was there, or something led to it.
or_cases : (a b : Bool) → T (a || b) → T a ⊎ T b
or_cases true b h = inl tt
or_cases false b h = inr h

or_left : (a b : Bool) → T a → T (a || b)
or_left true b h = tt
or_left false b h = absurd h

or_right : (a b : Bool) → T b → T (a || b)
or_right true b h = tt
or_right false b h = h

-- What is marked once marks have grown was marked, or passes the test.
pub grow_from : (f : ℕ → Bool) (i : ℕ) (ms : Marks) (k : ℕ) → T (marked (grow f i ms) k) → T (marked ms k) ⊎ T (f (i + k))
unfolding grow
grow_from f i [] k h = inl h
grow_from f i (m ∷ ms) zero h = rw add-zero (or_cases m (f i) h)
grow_from f i (m ∷ ms) (suc k) h = rw (add-suc i k, ← suc-add i k) (grow_from f (suc i) ms k h)

grow_keeps : (f : ℕ → Bool) (i : ℕ) (ms : Marks) (k : ℕ) → T (marked ms k) → T (marked (grow f i ms) k)
unfolding grow
grow_keeps f i [] k h = h
grow_keeps f i (m ∷ ms) zero h = or_left m (f i) h
grow_keeps f i (m ∷ ms) (suc k) h = grow_keeps f (suc i) ms k h

-- What passes the test is marked.
pub grow_new : (f : ℕ → Bool) (i : ℕ) (ms : Marks) (k : ℕ) → k < length ms → T (f (i + k)) → T (marked (grow f i ms) k)
unfolding grow
grow_new f i [] k l h = absurd (not-suc-le-zero l)
grow_new f i (m ∷ ms) zero l h = or_right m (f i) (rw add-zero at h)
grow_new f i (m ∷ ms) (suc k) l h = grow_new f (suc i) ms k (le_of_suc-le-suc l) (rw (add-suc i k, ← suc-add i k) at h)

any_intro : (n : ℕ) (f : ℕ → Bool) (x : ℕ) → x < n → T (f x) → T (any_below n f)
unfolding any_below
any_intro zero f x l h = absurd (not-suc-le-zero l)
any_intro (suc n) f x l h = go (eq-or-lt_of_le (le_of_suc-le-suc l)) (λ k. any_intro n f x k h)
  where
    go : (x ≡ n) ⊎ (x < n) → (x < n → T (any_below n f)) → T (f n || any_below n f)
    go (inl e) ih = or_left (f n) (any_below n f) (subst (λ y. T (f y)) e h)
    go (inr k) ih = or_right (f n) (any_below n f) (ih k)

any_elim : (n : ℕ) (f : ℕ → Bool) → T (any_below n f) → (x : ℕ) × (x < n) × T (f x)
unfolding any_below
any_elim zero f h = absurd h
any_elim (suc n) f h = go (or_cases (f n) (any_below n f) h) (any_elim n f)
  where
    go : T (f n) ⊎ T (any_below n f) → (T (any_below n f) → (x : ℕ) × (x < n) × T (f x)) → (x : ℕ) × (x < suc n) × T (f x)
    go (inl a) ih = (n, le_refl (suc n), a)
    go (inr b) ih = let r = ih b in (r.0, omega (arith, r.1), r.2)

-- What stands marked after a round is led to from what stood marked.
led_cases : (m r : Bool) → T (elim m as (λ b. Bool) [ true ↦ r | false ↦ false ]) → T m × T r
led_cases true r h = (tt, h)
led_cases false r h = absurd h

led : (m r : Bool) → T m → T r → T (elim m as (λ b. Bool) [ true ↦ r | false ↦ false ])
led true r a b = b
led false r a b = absurd a

-- Marks stand at places of the list.
pub marked_below : (ms : Marks) (y : ℕ) → T (marked ms y) → y < length ms
marked_below [] y t = absurd t
marked_below (m ∷ ms) zero t = zero-lt-suc (length ms)
marked_below (m ∷ ms) (suc y) t = omega (arith, marked_below ms y t)

module _ (R : ℕ → ℕ → Bool) (n : ℕ) (m₀ : Marks) where
  abbrev Led : Marks → Type 0
  Led ms = (y : ℕ) → T (marked ms y) → From R m₀ y

  round_led : (ms : Marks) → Led ms → Led (round R n ms)
  unfolding round
  round_led ms h y t = go (grow_from _ 0 ms y t)
    where
      go : T (marked ms y) ⊎ T (any_below n (λ z. elim (marked ms z) [ true ↦ R z (0 + y) | false ↦ false ])) → From R m₀ y
      go (inl a) = h y a
      go (inr b) =
          let e = any_elim n _ b in
          let l = led_cases (marked ms e.0) (R e.0 (0 + y)) e.2 in
          then (h e.0 l.0) (subst (λ k. T (R e.0 k)) (zero-add y) l.1)

  rounds_led : (k : ℕ) (ms : Marks) → Led ms → Led (rounds R n k ms)
  unfolding rounds
  rounds_led zero ms h = h
  rounds_led (suc k) ms h = rounds_led k (round R n ms) (round_led ms h)

  rounds_keep : (k : ℕ) (ms : Marks) (y : ℕ) → T (marked ms y) → T (marked (rounds R n k ms) y)
  unfolding rounds round
  rounds_keep zero ms y h = h
  rounds_keep (suc k) ms y h = rounds_keep k (round R n ms) y (grow_keeps _ 0 ms y h)

  -- Rounds change no length.
  pub rounds-length : (k : ℕ) (ms : Marks) → length (rounds R n k ms) ≡ length ms
  unfolding rounds round
  rounds-length zero ms = refl
  rounds-length (suc k) ms = rounds-length k (round R n ms) ∙ grow-length _ 0 ms

  -- Marks at rest hold what they lead to.
  closed : (ms : Marks) → round R n ms ≡ ms → (y z : ℕ) → y < n → z < length ms → T (marked ms y) → T (R y z) → T (marked ms z)
  unfolding round
  closed ms e y z ly lz t r = subst (λ us. T (marked us z)) e (grow_new _ 0 ms z lz (any_intro n _ y ly (led (marked ms y) (R y (0 + z)) t (subst (λ k. T (R y k)) (sym (zero-add z)) r))))

  -- What is marked in the end is what a path from a marked place reaches, where the relation leads to places alone.
  pub closure_paths : length m₀ ≡ n → ((y z : ℕ) → T (R y z) → z < n) → (y : ℕ) → T (marked (closure n R m₀) y) ↔ From R m₀ y
  unfolding closure
  closure_paths ln bound y = (rounds_led n m₀ (λ z t. here t) y, λ p. (on y p).1)
    where
      end : Marks
      end = rounds R n n m₀

      still : round R n end ≡ end
      still = rest R n n m₀ (omega (arith, ln))

      inside : (z : ℕ) → T (marked m₀ z) → z < n
      inside z t = rw (← ln) (marked_below m₀ z t)

      on : (z : ℕ) → From R m₀ z → (z < n) × T (marked end z)
      on z (here t) = (inside z t, rounds_keep n m₀ z t)
      on z (then {y} p r) =
          let q = on y p in
          (bound y z r, closed end still y z q.0 (rw (rounds-length n m₀, ln) (bound y z r)) q.1 r)

-- What stands marked once some places are: what stood marked, and those places.
set_there : (ms : Marks) (x y : ℕ) → T (marked (set ms x true) y) → T (marked ms y) ⊎ ((y ≡ x) × (y < length ms))
set_there [] x y t = inl t
set_there (m ∷ ms) zero zero t = inr (refl, zero-lt-suc (length ms))
set_there (m ∷ ms) zero (suc y) t = inl t
set_there (m ∷ ms) (suc x) zero t = inl t
set_there (m ∷ ms) (suc x) (suc y) t = ⊎_elim inl (λ r. inr (ap suc r.0, suc-le-suc r.1)) (set_there ms x y t)

set_back : (ms : Marks) (x y : ℕ) → T (marked ms y) ⊎ ((y ≡ x) × (y < length ms)) → T (marked (set ms x true) y)
set_back [] x y (inl t) = t
set_back [] x y (inr r) = absurd (not-suc-le-zero r.1)
set_back (m ∷ ms) zero zero h = tt
set_back (m ∷ ms) zero (suc y) (inl t) = t
set_back (m ∷ ms) zero (suc y) (inr r) = absurd (omega (arith, r.0))
set_back (m ∷ ms) (suc x) zero (inl t) = t
set_back (m ∷ ms) (suc x) zero (inr r) = absurd (omega (arith, r.0))
set_back (m ∷ ms) (suc x) (suc y) (inl t) = set_back ms x y (inl t)
set_back (m ∷ ms) (suc x) (suc y) (inr r) = set_back ms x y (inr (omega (arith, r.0), le_of_suc-le-suc r.1))

mark_all-length : (xs : Words) (ms : Marks) → length (mark_all xs ms) ≡ length ms
unfolding mark_all
mark_all-length [] ms = refl
mark_all-length (x ∷ xs) ms = mark_all-length xs (set ms x true) ∙ length-set ms x true

mark_all_there : (xs : Words) (ms : Marks) (y : ℕ) → T (marked (mark_all xs ms) y) → T (marked ms y) ⊎ (In y xs × (y < length ms))
unfolding mark_all
mark_all_there [] ms y t = inl t
mark_all_there (x ∷ xs) ms y t = go (mark_all_there xs (set ms x true) y t)
  where
    go : T (marked (set ms x true) y) ⊎ (In y xs × (y < length (set ms x true))) → T (marked ms y) ⊎ (In y (x ∷ xs) × (y < length ms))
    go (inl u) = ⊎_elim inl (λ r. inr (subst (λ z. In y (z ∷ xs)) r.0 first, r.1)) (set_there ms x y u)
    go (inr r) = inr (later r.0, subst (λ k. y < k) (length-set ms x true) r.1)

mark_all-back : (xs : Words) (ms : Marks) (y : ℕ) → T (marked ms y) ⊎ (In y xs × (y < length ms)) → T (marked (mark_all xs ms) y)
unfolding mark_all
mark_all-back [] ms y (inl t) = t
mark_all-back [] ms y (inr r) = absurd (in_empty r.0)
mark_all-back (x ∷ xs) ms y (inl t) = mark_all-back xs (set ms x true) y (inl (set_back ms x y (inl t)))
mark_all-back (x ∷ xs) ms y (inr r) = go (in_cases r.0) (mark_all-back xs (set ms x true) y)
  where
    go : (y ≡ x) ⊎ In y xs → (T (marked (set ms x true) y) ⊎ (In y xs × (y < length (set ms x true))) → T (marked (mark_all xs (set ms x true)) y)) → T (marked (mark_all xs (set ms x true)) y)
    go (inl e) ih = ih (inl (set_back ms x y (inr (e, r.1))))
    go (inr i) ih = ih (inr (i, subst (λ k. y < k) (sym (length-set ms x true)) r.1))

pub none-marked : (n y : ℕ) → T (marked (replicate n false) y) → ⊥
none-marked zero y t = t
none-marked (suc n) zero t = t
none-marked (suc n) (suc y) t = none-marked n y t

-- `marks_of n xs` is of n places.
pub marks_length : (n : ℕ) (xs : Words) → length (marks_of n xs) ≡ n
unfolding marks_of
marks_length n xs = mark_all-length xs (replicate n false) ∙ length-replicate n false

-- It marks the numbers in xs that are below n.
pub marks_in : (n : ℕ) (xs : Words) (y : ℕ) → T (marked (marks_of n xs) y) ↔ (In y xs × (y < n))
unfolding marks_of
marks_in n xs y = (there, λ r. mark_all-back xs (replicate n false) y (inr (r.0, subst (λ k. y < k) (sym (length-replicate n false)) r.1)))
  where
    there : T (marked (mark_all xs (replicate n false)) y) → In y xs × (y < n)
    there t = ⊎_elim (λ u. absurd (none-marked n y u)) (λ r. (r.0, subst (λ k. y < k) (length-replicate n false) r.1)) (mark_all_there xs (replicate n false) y t)

-- So `closure` from the marks of some places comes to rest, whatever the relation: any number of further rounds change nothing.
pub marks_rest : (n k : ℕ) (R : ℕ → ℕ → Bool) (xs : Words) → rounds R n (n + k) (marks_of n xs) ≡ closure n R (marks_of n xs)
marks_rest n k R xs = closure_enough n k R (marks_of n xs) (marks_length n xs)
