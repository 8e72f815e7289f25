-- 9 and 13 check what document 01 says: a table passes if and only if no type of it reaches itself. Code shows that one passes by any rank that falls.
use Prim.Native.Nat.{ℕ, zero, suc, ◌≤◌, ◌<◌}
use Rattle.std.specs.Prelude.{◌≡◌, refl, Bool, true, List, [], ◌∷◌, ◌↔◌, eqb, get_or, replicate}
use Rattle.std.proofs.Math.Path.{sym, subst}
use Rattle.std.proofs.Common.{◌∙◌, zero-add, le_of_suc-le-suc, not-suc-le-zero, arith, eqb→eq}
use Rattle.std.proofs.Math.Bool.{false}
use Rattle.std.proofs.Math.Logic.{⊎_elim}
use Rattle.std.proofs.Math.Nat.{max-le}
use Rattle.std.proofs.Math.Dec.{T, eqb_refl, ltb, lt→ltb}
use Rattle.std.proofs.Math.ListN.{length, length-replicate}
use Rattle.std.proofs.lemmas.List.{get_or-replicate}
use Rattle.rules.specs.Lists.{Words, all, any}
use Rattle.rules.specs.Reach.{Marks, marked, grow, closure}
use Rattle.rules.specs.ReachLaws.{count, count_le, From, here, then, closure_paths, grow-length, grow_from, grow_new, rounds-length, none-marked}
use Rattle.rules.specs.Sheet.{at}
use Rattle.rules.specs.Types.{Ty, Types}
use Rattle.rules.specs.Acyclic.{above, heights, acyclic}
use Rattle.rules.specs.AcyclicLaws.{children_at, child, lt_or, past_end, heights-length, height_step, Down, one, on, none_returns}

above_le : (hs : Words) (cs : List Ty) (m : ℕ) → ((j : ℕ) → j < length cs → get_or hs (get_or cs j (false, 0)).1 0 < m) → above hs cs ≤ m
unfolding above
above_le hs [] m h = omega arith
above_le hs (c ∷ cs) m h = max-le (h 0 (omega arith)) (above_le hs cs m (λ j l. h (suc j) (omega arith)))

all_intro : (f : ℕ → Bool) (l : Words) → ((n : ℕ) → n < length l → T (f (get_or l n 0))) → T (all f l)
unfolding all
all_intro f [] h = tt
all_intro f (x ∷ l) h = go (f x) refl (h 0 (omega arith)) (all_intro f l (λ n k. h (suc n) (omega arith)))
  where
    go : (b : Bool) → f x ≡ b → T (f x) → T (all f l) → T (all f (x ∷ l))
    go true e t u = rw (e, all) u
    go false e t u = absurd (rw e at t)

zeros : (N n : ℕ) → at (replicate N 0) n ≡ 0
zeros N n = ⊎_elim (λ l. get_or-replicate {A = ℕ} N n 0 0 l) (λ l. past_end (replicate N 0) n 0 (subst (λ m. m ≤ n) (sym (length-replicate {A = ℕ} N 0)) l)) (lt_or n N)

module _ (ts : Types) (r : ℕ → ℕ) (falls : (n j : ℕ) → j < length (children_at ts n) → r (child ts n j) < r n) where
  height_le : (k n : ℕ) → get_or (heights k ts) n 0 ≤ r n
  unfolding heights child
  height_le zero n = subst (λ m. m ≤ r n) (sym (zeros (length ts) n)) (omega arith)
  height_le (suc k) n = subst (λ m. m ≤ r n) (sym (height_step k ts n)) (above_le (heights k ts) (children_at ts n) (r n) (λ j l. omega (arith, height_le k (get_or (children_at ts n) j (false, 0)).1, falls n j l)))

  -- A table is acyclic if any rank falls from each node to its children, and is less than the count of nodes.
  pub acyclic_by_rank : ((n : ℕ) → n < length ts → r n < length ts) → T (acyclic ts)
  unfolding acyclic
  acyclic_by_rank low = all_intro (λ h. ltb h (length ts)) (heights (length ts) ts) (λ n l. lt→ltb _ (length ts) (omega (arith, height_le (length ts) n, low n (subst (λ m. n < m) (heights-length (length ts) ts) l))))

-- One count of marks under another.
count_miss : (ms : Marks) (n : ℕ) → n < length ms → (T (marked ms n) → ⊥) → count ms < length ms
unfolding count
count_miss [] n h f = absurd (not-suc-le-zero h)
count_miss (true ∷ ms) zero h f = absurd (f tt)
count_miss (true ∷ ms) (suc n) h f = omega (arith, count_miss ms n (le_of_suc-le-suc h) f)
count_miss (false ∷ ms) n h f = omega (arith, count_le ms)

count_up : (ms us : Marks) → length ms ≡ length us → ((y : ℕ) → T (marked ms y) → T (marked us y)) → count ms ≤ count us
unfolding count
count_up [] us e h = omega arith
count_up (m ∷ ms) [] e h = absurd (omega arith)
count_up (true ∷ ms) (true ∷ us) e h = omega (arith, count_up ms us (omega arith) (λ y. h (suc y)))
count_up (true ∷ ms) (false ∷ us) e h = absurd (h 0 tt)
count_up (false ∷ ms) (true ∷ us) e h = omega (arith, count_up ms us (omega arith) (λ y. h (suc y)))
count_up (false ∷ ms) (false ∷ us) e h = count_up ms us (omega arith) (λ y. h (suc y))

count_more : (ms us : Marks) → length ms ≡ length us → ((y : ℕ) → T (marked ms y) → T (marked us y)) → (c : ℕ) → T (marked us c) → (T (marked ms c) → ⊥) → count ms < count us
unfolding count
count_more [] [] e h c t f = absurd t
count_more [] (u ∷ us) e h c t f = absurd (omega arith)
count_more (m ∷ ms) [] e h c t f = absurd (omega arith)
count_more (true ∷ ms) (true ∷ us) e h zero t f = absurd (f tt)
count_more (true ∷ ms) (true ∷ us) e h (suc c) t f = omega (arith, count_more ms us (omega arith) (λ y. h (suc y)) c t f)
count_more (true ∷ ms) (false ∷ us) e h c t f = absurd (h 0 tt)
count_more (false ∷ ms) (true ∷ us) e h c t f = omega (arith, count_up ms us (omega arith) (λ y. h (suc y)))
count_more (false ∷ ms) (false ∷ us) e h zero t f = absurd t
count_more (false ∷ ms) (false ∷ us) e h (suc c) t f = count_more ms us (omega arith) (λ y. h (suc y)) c t f

-- A node leads to a node.
unfoldable leads : Types → ℕ → ℕ → Bool
leads ts x y = any (λ c. eqb c.1 y) (children_at ts x)

any_kid : (cs : List Ty) (y : ℕ) → T (any (λ c. eqb c.1 y) cs) → (j : ℕ) × (j < length cs) × ((get_or cs j (false, 0)).1 ≡ y)
unfolding any
any_kid [] y t = absurd t
any_kid (c ∷ cs) y t = go (eqb c.1 y) refl t (any_kid cs y)
  where
    go : (b : Bool) → eqb c.1 y ≡ b → T (any (λ c. eqb c.1 y) (c ∷ cs)) → (T (any (λ c. eqb c.1 y) cs) → (j : ℕ) × (j < length cs) × ((get_or cs j (false, 0)).1 ≡ y)) → (j : ℕ) × (j < suc (length cs)) × ((get_or (c ∷ cs) j (false, 0)).1 ≡ y)
    go true e u ih = (0, omega arith, eqb→eq c.1 y (subst T (sym e) tt))
    go false e u ih = let k = ih (rw (e, any) at u) in (suc k.0, omega (arith, k.1), k.2)

kid_any : (cs : List Ty) (j : ℕ) → j < length cs → T (any (λ c. eqb c.1 (get_or cs j (false, 0)).1) cs)
unfolding any
kid_any [] j h = absurd (not-suc-le-zero h)
kid_any (c ∷ cs) zero h = go (eqb c.1 c.1) refl (eqb_refl c.1)
  where
    go : (b : Bool) → eqb c.1 c.1 ≡ b → T (eqb c.1 c.1) → T (any (λ d. eqb d.1 c.1) (c ∷ cs))
    go true e t = rw (e, any) tt
    go false e t = absurd (rw e at t)
kid_any (c ∷ cs) (suc j) h = go (eqb c.1 (get_or cs j (false, 0)).1) refl (kid_any cs j (le_of_suc-le-suc h))
  where
    go : (b : Bool) → eqb c.1 (get_or cs j (false, 0)).1 ≡ b → T (any (λ c. eqb c.1 (get_or cs j (false, 0)).1) cs) → T (any (λ d. eqb d.1 (get_or cs j (false, 0)).1) (c ∷ cs))
    go true e t = rw (e, any) tt
    go false e t = rw (e, any) t

module _ (ts : Types) (inside : (n j : ℕ) → j < length (children_at ts n) → child ts n j < length ts) where
  R : ℕ → ℕ → Bool
  R = leads ts

  bound : (y z : ℕ) → T (R y z) → z < length ts
  unfolding R leads child
  bound y z t = let k = any_kid (children_at ts y) z t in subst (λ m. m < length ts) k.2 (inside y k.0 k.1)

  -- What node n leads to, and what that reaches.
  starts : ℕ → Marks
  starts n = grow (R n) 0 (replicate (length ts) false)

  starts_length : (n : ℕ) → length (starts n) ≡ length ts
  unfolding starts
  starts_length n = grow-length (R n) 0 (replicate (length ts) false) ∙ length-replicate {A = Bool} (length ts) false

  reached : ℕ → Marks
  reached n = closure (length ts) R (starts n)

  reached_length : (n : ℕ) → length (reached n) ≡ length ts
  unfolding reached closure
  reached_length n = rounds-length R (length ts) (starts n) (length ts) (starts n) ∙ starts_length n

  paths : (n y : ℕ) → T (marked (reached n) y) ↔ From R (starts n) y
  unfolding reached
  paths n y = closure_paths R (length ts) (starts n) (starts_length n) bound y

  start_leads : (n y : ℕ) → T (marked (starts n) y) → T (R n y)
  unfolding starts
  start_leads n y t = ⊎_elim (λ k. absurd (none-marked (length ts) y k)) (λ k. subst (λ m. T (R n m)) (zero-add y) k) (grow_from (R n) 0 (replicate (length ts) false) y t)

  leads_start : (n y : ℕ) → T (R n y) → T (marked (starts n) y)
  unfolding starts
  leads_start n y t = grow_new (R n) 0 (replicate (length ts) false) y (subst (λ m. y < m) (sym (length-replicate {A = Bool} (length ts) false)) (bound n y t)) (subst (λ m. T (R n m)) (sym (zero-add y)) t)

  -- Paths are ways down.
  step : (x y : ℕ) → T (R x y) → (j : ℕ) × (j < length (children_at ts x)) × (child ts x j ≡ y)
  unfolding R leads child
  step x y t = any_kid (children_at ts x) y t

  down : (n y : ℕ) → From R (starts n) y → Down ts n y
  down n y (here t) = let k = step n y (start_leads n y t) in subst (Down ts n) k.2 (one k.0 k.1)
  down n z (then {y} p t) = let k = step y z t in subst (Down ts n) k.2 (on (down n y p) k.0 k.1)

  onward : (n c y : ℕ) → T (R n c) → From R (starts c) y → From R (starts n) y
  onward n c y l (here t) = then (here (leads_start n c l)) (start_leads c y t)
  onward n c z l (then {y} p t) = then (onward n c y l p) t

  module _ (none : (n : ℕ) → Down ts n n → ⊥) where
    -- Where no type reaches itself, how many each reaches is a rank.
    pub acyclic_if_none : T (acyclic ts)
    unfolding R leads child
    acyclic_if_none = acyclic_by_rank ts (λ n. count (reached n))
        (λ n j l.
        let c = child ts n j in
        let r : T (R n c) = kid_any (children_at ts n) j l in
        count_more (reached c) (reached n) (reached_length c ∙ sym (reached_length n)) (λ y t. (paths n y).1 (onward n c y r ((paths c y).0 t))) c
        ((paths n c).1 (here (leads_start n c r))) (λ t. none c (down c c ((paths c c).0 t))))
        (λ n l. subst (λ m. count (reached n) < m) (reached_length n) (count_miss (reached n) n (subst (λ m. n < m) (sym (reached_length n)) l) (λ t. none n (down n n ((paths n n).0 t)))))

  -- 9 and 13: a table whose children are nodes of it passes if and only if no type reaches itself.
  pub acyclic_iff : T (acyclic ts) ↔ ((n : ℕ) → Down ts n n → ⊥)
  acyclic_iff = (none_returns ts, acyclic_if_none)
