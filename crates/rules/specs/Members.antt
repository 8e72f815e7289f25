-- What stands in a list, and lists that rise: what the tests and the selections of Lists say of them.
use Rattle.std.specs.Prelude.{ℕ, zero, suc, ◌+◌, ◌≤◌, ◌<◌, ◌≡◌, Bool, not, ◌&&◌, ◌⊎◌, ◌↔◌, eqb, length, get_or}
use Rattle.std.proofs.Math.Path.{refl, subst}
use Rattle.std.proofs.Common.{sym, ap₂, inl, inr, ⊎_elim, not-suc-le-zero, le_of_suc-le-suc, eq-or-lt_of_le, arith, eqb→eq}
use Rattle.std.proofs.Math.Bool.{true, false}
use mathlib.Core.List.{List, [], ◌∷◌}
use Rattle.std.proofs.Math.Dec.{T, eqb_refl}
use Rattle.rules.specs.Lists.{Words, any, all, select, range, is_in}

-- Tests that hold alike are equal.
pub same_test : (a b : Bool) → T a ↔ T b → a ≡ b
same_test true true h = refl
same_test true false h = absurd (h.0 tt)
same_test false true h = absurd (h.1 tt)
same_test false false h = refl

-- Two tests hold together.
pub and_iff : (a b : Bool) → T (a && b) ↔ (T a × T b)
and_iff true b = (λ h. (tt, h), λ h. h.1)
and_iff false b = (λ h. absurd h, λ h. h.0)

-- A test does not hold.
pub not_iff : (b : Bool) → T (not b) ↔ (b ≡ false)
not_iff true = (λ t. absurd t, λ e. subst (λ b. T (not b)) (sym e) tt)
not_iff false = (λ t. refl, λ e. tt)

module _ {A : Type 0} where
  -- x stands in a list.
  pub data In (x : A) : List A → Type 0 where
    first : {xs : List A} → In x (x ∷ xs)
    later : {y : A} {xs : List A} → In x xs → In x (y ∷ xs)

  -- In y ∷ ys stands y, or what stands in ys.
  pub in_cases : {x y : A} {ys : List A} → In x (y ∷ ys) → (x ≡ y) ⊎ In x ys
  in_cases first = inl refl
  in_cases (later h) = inr h

  abbrev Some : List A → Type 0
  Some [] = ⊥
  Some (x ∷ xs) = Unit {0}

  -- Nothing stands in the empty list.
  pub in_empty : {x : A} → In x [] → ⊥
  in_empty h = elim h as (λ l i. Some l) [ first ↦ tt | later _ ↦ tt ]

  any_there : (p : A → Bool) (xs : List A) → T (any p xs) → (x : A) × In x xs × T (p x)
  unfolding any
  any_there p [] t = absurd t
  any_there p (x ∷ xs) t = go (p x) refl t (any_there p xs)
    where
      go : (b : Bool) → p x ≡ b → T (any p (x ∷ xs)) → (T (any p xs) → (y : A) × In y xs × T (p y)) → (y : A) × In y (x ∷ xs) × T (p y)
      go true e u ih = (x, first, subst T (sym e) tt)
      go false e u ih = let r = ih (rw (e, any) at u) in (r.0, later r.1, r.2)

  any_cons : (p : A → Bool) (x : A) (xs : List A) → T (p x) ⊎ T (any p xs) → T (any p (x ∷ xs))
  unfolding any
  any_cons p x xs h = go (p x) refl h
    where
      go : (b : Bool) → p x ≡ b → T (p x) ⊎ T (any p xs) → T (any p (x ∷ xs))
      go true e k = rw (e, any) tt
      go false e (inl t) = absurd (subst T e t)
      go false e (inr t) = rw (e, any) t

  any_back : (p : A → Bool) (x : A) (xs : List A) → In x xs → T (p x) → T (any p xs)
  any_back p x xs (first {xs = ys}) t = any_cons p x ys (inl t)
  any_back p x xs (later {y} {xs = ys} h) t = any_cons p y ys (inr (any_back p x ys h t))

  -- `any`: some element passes the test.
  pub any_in : (p : A → Bool) (xs : List A) → T (any p xs) ↔ ((x : A) × In x xs × T (p x))
  any_in p xs = (any_there p xs, λ r. any_back p r.0 xs r.1 r.2)

  -- `all`: the first element passes the test, and all the others do.
  pub all_cons : (p : A → Bool) (x : A) (xs : List A) → T (all p (x ∷ xs)) ↔ (T (p x) × T (all p xs))
  unfolding all
  all_cons p x xs = go (p x) refl
    where
      go : (b : Bool) → p x ≡ b → T (all p (x ∷ xs)) ↔ (T (p x) × T (all p xs))
      go true e = rw (e, all) (λ t. (tt, t), λ r. r.1)
      go false e = rw (e, all) (λ t. absurd t, λ r. r.0)

  -- So every element does.
  pub all_in : (p : A → Bool) (xs : List A) → T (all p xs) → (x : A) → In x xs → T (p x)
  all_in p xs t x h = go x xs h t
    where
      go : (x : A) (xs : List A) → In x xs → T (all p xs) → T (p x)
      go x xs (first {xs = ys}) t = ((all_cons p x ys).0 t).0
      go x xs (later {y} {xs = ys} h) t = go x ys h ((all_cons p y ys).0 t).1

  -- Element n, where there is one, stands in the list.
  pub in_at : (xs : List A) (n : ℕ) (a : A) → n < length xs → In (get_or xs n a) xs
  in_at [] n a h = absurd (not-suc-le-zero h)
  in_at (x ∷ xs) zero a h = first
  in_at (x ∷ xs) (suc n) a h = later (in_at xs n a (le_of_suc-le-suc h))

  -- So it passes a test that all pass.
  pub all_get : (p : A → Bool) (xs : List A) (n : ℕ) (a : A) → T (all p xs) → n < length xs → T (p (get_or xs n a))
  all_get p xs n a t h = all_in p xs t (get_or xs n a) (in_at xs n a h)

  select_there : (p : A → Bool) (xs : List A) (x : A) → In x (select p xs) → In x xs × T (p x)
  unfolding select
  select_there p [] x h = absurd (in_empty h)
  select_there p (y ∷ ys) x h = go (p y) refl h (select_there p ys x)
    where
      go : (b : Bool) → p y ≡ b → In x (select p (y ∷ ys)) → (In x (select p ys) → In x ys × T (p x)) → In x (y ∷ ys) × T (p x)
      go true e u ih = at_head (in_cases (rw (e, select) at u))
        where
          at_head : (x ≡ y) ⊎ In x (select p ys) → In x (y ∷ ys) × T (p x)
          at_head (inl q) = (subst (λ z. In x (z ∷ ys)) q first, subst (λ z. T (p z)) (sym q) (subst T (sym e) tt))
          at_head (inr k) = let r = ih k in (later r.0, r.1)
      go false e u ih = let r = ih (rw (e, select) at u) in (later r.0, r.1)

  select_first : (p : A → Bool) (x : A) (xs : List A) → T (p x) → In x (select p (x ∷ xs))
  unfolding select
  select_first p x xs t = go (p x) refl
    where
      go : (b : Bool) → p x ≡ b → In x (select p (x ∷ xs))
      go true e = rw (e, select) first
      go false e = absurd (subst T e t)

  select_later : (p : A → Bool) (x y : A) (ys : List A) → In x (select p ys) → In x (select p (y ∷ ys))
  unfolding select
  select_later p x y ys h = go (p y) refl
    where
      go : (b : Bool) → p y ≡ b → In x (select p (y ∷ ys))
      go true e = rw (e, select) (later h)
      go false e = rw (e, select) h

  select_back : (p : A → Bool) (x : A) (xs : List A) → In x xs → T (p x) → In x (select p xs)
  select_back p x xs (first {xs = ys}) t = select_first p x ys t
  select_back p x xs (later {y} {xs = ys} h) t = select_later p x y ys (select_back p x ys h t)

  -- `select`: the elements that pass the test.
  pub select_in : (p : A → Bool) (xs : List A) (x : A) → In x (select p xs) ↔ (In x xs × T (p x))
  select_in p xs x = (select_there p xs x, λ r. select_back p x xs r.0 r.1)

-- `is_in`: a number stands in a list.
pub is_in_in : (x : ℕ) (xs : Words) → T (is_in x xs) ↔ In x xs
unfolding is_in
is_in_in x xs =
    let a = any_in (λ y. eqb x y) xs in
    (λ t. let r = a.0 t in subst (λ y. In y xs) (sym (eqb→eq x r.0 r.2)) r.1, λ h. a.1 (x, h, eqb_refl x))

range_there : (i n x : ℕ) → In x (range i n) → (i ≤ x) × (x < i + n)
unfolding range
range_there i zero x h = absurd (in_empty h)
range_there i (suc n) x h = go (in_cases h) (range_there (suc i) n x)
  where
    go : (x ≡ i) ⊎ In x (range (suc i) n) → (In x (range (suc i) n) → (suc i ≤ x) × (x < suc i + n)) → (i ≤ x) × (x < i + suc n)
    go (inl e) ih = (omega arith, omega arith)
    go (inr k) ih = let r = ih k in (omega arith, omega arith)

range_back : (i n x : ℕ) → i ≤ x → x < i + n → In x (range i n)
unfolding range
range_back i zero x l h = absurd (omega arith)
range_back i (suc n) x l h = go (eq-or-lt_of_le l) (range_back (suc i) n x)
  where
    go : (i ≡ x) ⊎ (i < x) → (suc i ≤ x → x < suc i + n → In x (range (suc i) n)) → In x (i ∷ range (suc i) n)
    go (inl e) ih = subst (λ y. In y (i ∷ range (suc i) n)) e first
    go (inr k) ih = later (ih k (omega arith))

-- `range i n`: the numbers from i on, below i + n.
pub range_in : (i n x : ℕ) → In x (range i n) ↔ ((i ≤ x) × (x < i + n))
range_in i n x = (range_there i n x, λ r. range_back i n x r.0 r.1)

-- A list rises: each number in it is below all that follow.
abbrev pub Rising : Words → Type 0
Rising [] = Unit {0}
Rising (x ∷ xs) = ((y : ℕ) → In y xs → x < y) × Rising xs

-- `range` rises.
pub range_rising : (i n : ℕ) → Rising (range i n)
unfolding range
range_rising i zero = tt
range_rising i (suc n) = (λ y h. (range_there (suc i) n y h).0, range_rising (suc i) n)

-- What is selected from a list that rises does.
pub select_rising : (p : ℕ → Bool) (xs : Words) → Rising xs → Rising (select p xs)
unfolding select
select_rising p [] r = tt
select_rising p (x ∷ xs) r = go (p x) refl (select_rising p xs r.1)
  where
    go : (b : Bool) → p x ≡ b → Rising (select p xs) → Rising (select p (x ∷ xs))
    go true e ih = rw (e, select) (λ y h. r.0 y (select_there p xs y h).0, ih)
    go false e ih = rw (e, select) ih

-- Lists that rise and hold the same are equal: a set by id is one list.
pub rising_unique : (xs ys : Words) → Rising xs → Rising ys → ((x : ℕ) → In x xs ↔ In x ys) → xs ≡ ys
rising_unique [] [] r q h = refl
rising_unique [] (y ∷ ys) r q h = absurd (in_empty ((h y).1 first))
rising_unique (x ∷ xs) [] r q h = absurd (in_empty ((h x).0 first))
rising_unique (x ∷ xs) (y ∷ ys) r q h = ap₂ (λ z zs. z ∷ zs) e (rising_unique xs ys r.1 q.1 (λ z. (there z, back z)))
  where
    e : x ≡ y
    e = go (in_cases ((h x).0 first)) (in_cases ((h y).1 first))
      where
        go : (x ≡ y) ⊎ In x ys → (y ≡ x) ⊎ In y xs → x ≡ y
        go (inl a) b = a
        go (inr a) (inl b) = sym b
        go (inr a) (inr b) = absurd (omega (arith, q.0 x a, r.0 y b))

    there : (z : ℕ) → In z xs → In z ys
    there z i = ⊎_elim (λ a. absurd (omega (arith, r.0 z i, e))) (λ b. b) (in_cases ((h z).0 (later i)))

    back : (z : ℕ) → In z ys → In z xs
    back z i = ⊎_elim (λ a. absurd (omega (arith, q.0 z i, e))) (λ b. b) (in_cases ((h z).1 (later i)))
