-- What holds of every element of a list, of whatever a run comes to, and of what a call hands back.
use Rattle.std.specs.Prelude.{ℕ, zero, suc, ◌≡◌, Bool, get_or, set}
use Rattle.std.proofs.Math.Path.{refl}
use Rattle.std.proofs.Common.{sym, ap, subst}
use Rattle.std.proofs.Math.Bool.{true, false}
use mathlib.Core.List.{List, [], ◌∷◌, ◌++◌, map}
use Rattle.std.proofs.Math.Dec.{T}
use Rattle.rules.specs.Lists.{all, select}
use Rattle.rules.specs.Run.{Run, done, stop, asks, Out, got, refused, ◌>>=◌, free}

module _ {A : Type 0} where
  -- It holds of every element.
  abbrev pub Every : (A → Type 0) → List A → Type 0
  Every P [] = Unit {0}
  Every P (x ∷ xs) = P x × Every P xs

  module _ (P : A → Type 0) where
    -- How that goes on: for lists in a row, a place changed, an element or what stands for it past the end, and some of them.
    pub every_append : (xs ys : List A) → Every P xs → Every P ys → Every P (xs ++ ys)
    every_append [] ys h k = k
    every_append (x ∷ xs) ys h k = (h.0, every_append xs ys h.1 k)

    pub every_set : (xs : List A) (n : ℕ) (x : A) → Every P xs → P x → Every P (set xs n x)
    every_set [] n x h k = tt
    every_set (y ∷ xs) zero x h k = (k, h.1)
    every_set (y ∷ xs) (suc n) x h k = (h.0, every_set xs n x h.1 k)

    pub every_at : (xs : List A) (n : ℕ) (d : A) → Every P xs → P d → P (get_or xs n d)
    every_at [] n d h k = k
    every_at (x ∷ xs) zero d h k = h.0
    every_at (x ∷ xs) (suc n) d h k = every_at xs n d h.1 k

    pub every_select : (p : A → Bool) (xs : List A) → Every P xs → Every P (select p xs)
    unfolding select
    every_select p [] h = tt
    every_select p (x ∷ xs) h = go (p x) refl (every_select p xs h.1)
      where
        go : (b : Bool) → p x ≡ b → Every P (select p xs) → Every P (select p (x ∷ xs))
        go true e r = rw (e, select) (h.0, r)
        go false e r = rw (e, select) r

  -- What a test says of all.
  pub every_all : (p : A → Bool) (xs : List A) → T (all p xs) → Every (λ x. T (p x)) xs
  unfolding all
  every_all p [] t = tt
  every_all p (x ∷ xs) t = go (p x) refl t (every_all p xs)
    where
      go : (b : Bool) → p x ≡ b → T (all p (x ∷ xs)) → (T (all p xs) → Every (λ y. T (p y)) xs) → Every (λ y. T (p y)) (x ∷ xs)
      go true e u ih = (subst T (sym e) tt, ih (rw (e, all) at u))
      go false e u ih = absurd (rw (e, all) at u)

  -- What follows for each, and what holds of the image of each.
  pub every_weaken : (P Q : A → Type 0) → ((x : A) → P x → Q x) → (xs : List A) → Every P xs → Every Q xs
  every_weaken P Q f [] h = tt
  every_weaken P Q f (x ∷ xs) h = (f x h.0, every_weaken P Q f xs h.1)

pub every_map : {A B : Type 0} (P : A → Type 0) (Q : B → Type 0) (f : A → B) → ((x : A) → P x → Q (f x)) → (xs : List A) → Every P xs → Every Q (map f xs)
every_map P Q f g [] h = tt
every_map P Q f g (x ∷ xs) h = (g x h.0, every_map P Q f g xs h.1)

-- Whatever the run comes to without a limit, it holds of that.
abbrev pub Yields : {A : Type 0} → (A → Type 0) → Run A → Type 0
Yields P (done a) = P a
Yields P (stop n) = Unit {0}
Yields P (asks r) = Yields P r

-- It holds of what was got, if anything was.
abbrev pub Comes : {A : Type 0} → (A → Type 0) → Out A → Type 0
Comes P (got a) = P a
Comes P (refused n) = Unit {0}

-- One thing after another; two properties; none.
pub yields_bind : {A B : Type 0} (P : A → Type 0) (Q : B → Type 0) (r : Run A) (f : A → Run B) → Yields P r → ((a : A) → P a → Yields Q (f a)) → Yields Q (r >>= f)
unfolding ◌>>=◌
yields_bind P Q (done a) f h k = k a h
yields_bind P Q (stop n) f h k = tt
yields_bind P Q (asks r) f h k = yields_bind P Q r f h k

pub yields_both : {A : Type 0} (P Q : A → Type 0) (r : Run A) → Yields P r → Yields Q r → Yields (λ (a : A). P a × Q a) r
yields_both P Q (done a) h k = (h, k)
yields_both P Q (stop n) h k = tt
yields_both P Q (asks r) h k = yields_both P Q r h k

-- Two ways to go on that agree on all that a run can come to.
pub bind_same : {A B : Type 0} (P : A → Type 0) (r : Run A) (f g : A → Run B) → Yields P r → ((a : A) → P a → f a ≡ g a) → (r >>= f) ≡ (r >>= g)
unfolding ◌>>=◌
bind_same P (done a) f g h k = k a h
bind_same P (stop n) f g h k = refl
bind_same P (asks r) f g h k = ap asks (bind_same P r f g h k)

pub yields_any : {A : Type 0} (r : Run A) → Yields (λ (a : A). Unit {0}) r
yields_any (done a) = tt
yields_any (stop n) = tt
yields_any (asks r) = yields_any r

-- It is read so with no step limit and with any.
pub yields_free : {A : Type 0} (P : A → Type 0) (r : Run A) → Yields P r → Comes P (free r)
unfolding free
yields_free P (done a) h = h
yields_free P (stop n) h = tt
yields_free P (asks r) h = yields_free P r h

-- What is got has it.
pub came : {A : Type 0} (P : A → Type 0) (o : Out A) (a : A) → Comes P o → o ≡ got a → P a
came P o a h e = subst (Comes P) e h
