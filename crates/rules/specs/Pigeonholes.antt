-- Marks of places, counted: what is marked anew adds one, and no more are marked than there are. A walk over n places that does not end within n steps comes back to where it was.
use Rattle.std.specs.Prelude.{ℕ, zero, suc, ◌+◌, ◌-◌, ◌≤◌, ◌<◌, ◌≡◌, refl, Bool, true, false, not, [], ◌∷◌, ◌⊎◌, T, ltb, length, set, replicate}
use Rattle.std.proofs.Common.{sym, ◌∙◌, ap, subst, inl, inr, ⊎_elim, le_of_suc-le-suc, not-suc-le-zero, zero-add, suc-add, add-zero, add-suc, le_refl, eq-or-lt_of_le, sub-add_cancel, arith, ltb→lt, nltb→le, length-set, get_or-set_other}
use Rattle.std.proofs.Math.Decide.{ℕ_discrete}
use Rattle.std.proofs.lemmas.List.{length-replicate}
use Rattle.rules.specs.Reach.{Marks, marked}
use Rattle.rules.specs.ReachLaws.{count, count_le, none-marked}

pub lt_or : (m n : ℕ) → (m < n) ⊎ (n ≤ m)
lt_or m n = go (ltb m n) refl
  where
    go : (b : Bool) → ltb m n ≡ b → (m < n) ⊎ (n ≤ m)
    go true e = inl (ltb→lt m n (subst T (sym e) tt))
    go false e = inr (nltb→le m n (subst (λ b. T (not b)) (sym e) tt))

-- A place marked anew adds one.
pub count_set : (ms : Marks) (x : ℕ) → x < length ms → ¬ T (marked ms x) → count (set ms x true) ≡ suc (count ms)
unfolding count
count_set [] x h d = absurd (not-suc-le-zero h)
count_set (true ∷ ms) zero h d = absurd (d tt)
count_set (false ∷ ms) zero h d = refl
count_set (true ∷ ms) (suc x) h d = ap suc (count_set ms x (le_of_suc-le-suc h) d)
count_set (false ∷ ms) (suc x) h d = count_set ms x (le_of_suc-le-suc h) d

-- What is marked then was marked before, or is that place.
pub marked-set : (ms : Marks) (x r : ℕ) → T (marked (set ms x true) r) → (r ≡ x) ⊎ T (marked ms r)
marked-set ms x r t = go (ℕ_discrete r x)
  where
    go : Dec (r ≡ x) → (r ≡ x) ⊎ T (marked ms r)
    go (yes e) = inl e
    go (no d) = inr (subst T (get_or-set_other ms x r true false d) t)

-- What holds step by step from k on holds at every distance.
pub steady : {A : Type 0} (f : ℕ → A) (k : ℕ) → ((m : ℕ) → f (m + k) ≡ f (suc (m + k))) → (m : ℕ) → f (m + k) ≡ f k
steady f k h zero = ap f (zero-add k)
steady f k h (suc m) = ap f (suc-add m k) ∙ sym (h m) ∙ steady f k h m

-- G k n is what a walk from place n comes to with fuel k: z with none; else it is decided at n, or the walk goes on at a place that n determines.
module _ {A : Type 0} (G : ℕ → ℕ → A) (z : A) (N : ℕ) (spent : (n : ℕ) → G 0 n ≡ z) (step : (n : ℕ) → n < N → ((a : A) × ((k : ℕ) → G (suc k) n ≡ a)) ⊎ ((u : ℕ) × (u < N) × ((k : ℕ) → G (suc k) n ≡ G k u))) where
  -- From x the walk comes to y in d steps.
  record Way (d x y : ℕ) : Type 0 where
    on : (k : ℕ) → G (k + d) x ≡ G k y
    under : (k : ℕ) → k ≤ d → G k x ≡ z

  one_step : (x u : ℕ) → ((k : ℕ) → G (suc k) x ≡ G k u) → Way 1 x u
  one_step x u e = record { on = λ k. ap (λ i. G i x) (add-suc k 0 ∙ ap suc (add-zero k)) ∙ e k; under = low }
    where
      low : (k : ℕ) → k ≤ 1 → G k x ≡ z
      low zero h = spent x
      low (suc zero) h = e 0 ∙ spent u
      low (suc (suc k)) h = absurd (not-suc-le-zero (le_of_suc-le-suc h))

  further : (d x y u : ℕ) → Way d x y → ((k : ℕ) → G (suc k) y ≡ G k u) → Way (suc d) x u
  further d x y u w e = record { on = λ k. ap (λ i. G i x) (add-suc k d ∙ sym (suc-add k d)) ∙ w.on (suc k) ∙ e k; under = λ k h. low k (eq-or-lt_of_le h) }
    where
      low : (k : ℕ) → (k ≡ suc d) ⊎ (k < suc d) → G k x ≡ z
      low k (inl q) = ap (λ i. G i x) (q ∙ ap suc (sym (zero-add d)) ∙ sym (suc-add 0 d)) ∙ w.on 1 ∙ e 0 ∙ spent u
      low k (inr l) = w.under k (le_of_suc-le-suc l)

  -- A walk that comes back goes on for ever.
  returns : (d x : ℕ) → Way (suc d) x x → (b k : ℕ) → k < b → G k x ≡ z
  returns d x w zero k h = absurd (not-suc-le-zero h)
  returns d x w (suc b) k h = ⊎_elim
      (λ l. w.under k (omega arith))
      (λ l. ap (λ i. G i x) (sym (sub-add_cancel {n = k} {m = suc d} l)) ∙ w.on (k - suc d) ∙ returns d x w b (k - suc d) (omega (arith, sub-add_cancel {n = k} {m = suc d} l)))
      (lt_or k (suc d))

  -- Marked are places from which the walk came to n; with as much fuel as there are places not yet marked, one more changes nothing.
  walk_next : (k n : ℕ) → n < N → (ms : Marks) → length ms ≡ N → ((r : ℕ) → T (marked ms r) → (d : ℕ) × Way (suc d) r n) → N < k + count ms → G k n ≡ G (suc k) n
  walk_next zero n h ms len from l = absurd (omega (arith, count_le ms))
  walk_next (suc k) n h ms len from l = go (marked ms n) refl (step n h) (walk_next k)
    where
      go : (b : Bool) → marked ms n ≡ b → ((a : A) × ((i : ℕ) → G (suc i) n ≡ a)) ⊎ ((u : ℕ) × (u < N) × ((i : ℕ) → G (suc i) n ≡ G i u)) → ((m : ℕ) → m < N → (us : Marks) → length us ≡ N → ((r : ℕ) → T (marked us r) → (d : ℕ) × Way (suc d) r m) → N < k + count us → G k m ≡ G (suc k) m) → G (suc k) n ≡ G (suc (suc k)) n
      go true e st ih = let w = from n (subst T (sym e) tt) in returns w.0 n w.1 (suc (suc k)) (suc k) (le_refl _) ∙ sym (returns w.0 n w.1 (suc (suc (suc k))) (suc (suc k)) (le_refl _))
      go false e (inl a) ih = a.1 k ∙ sym (a.1 (suc k))
      go false e (inr u) ih = u.2 k ∙ ih u.0 u.1 (set ms n true) (length-set ms n true ∙ len) (λ r t. from' r (marked-set ms n r t)) (omega (arith, l, count_set ms n (subst (λ m. n < m) (sym len) h) (λ t. subst T e t))) ∙ sym (u.2 (suc k))
        where
          from' : (r : ℕ) → (r ≡ n) ⊎ T (marked ms r) → (d : ℕ) × Way (suc d) r u.0
          from' r (inl q) = (0, subst (λ m. Way 1 m u.0) (sym q) (one_step n u.0 u.2))
          from' r (inr t) = let w = from r t in (suc w.0, further (suc w.0) r n u.0 w.1 u.2)

  -- With more fuel than there are places, more changes nothing.
  pub walk_enough : (n : ℕ) → n < N → (m : ℕ) → G (m + suc N) n ≡ G (suc N) n
  walk_enough n h = steady (λ k. G k n) (suc N) (λ m. walk_next (m + suc N) n h (replicate N false) (length-replicate N false) (λ r t. absurd (none-marked N r t)) (omega arith))
