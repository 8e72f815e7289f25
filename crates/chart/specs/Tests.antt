-- The rules' tests of a list are the library's.
use Rattle.std.specs.Prelude.{ℕ, ◌≡◌, Bool, true, false, List, [], ◌∷◌, ◌||◌, ◌&&◌, eqb}
use Rattle.std.specs.List.{list_any, list_all}
use Rattle.std.proofs.Common.{refl, ◌∙◌, ap}
use Rattle.rules.specs.Lists.{Words, any, all, is_in}

module _ {A : Type 0} (p : A → Bool) where
  -- Some element passes the test.
  pub any_listed : (xs : List A) → list_any p xs ≡ any p xs
  unfolding any
  any_listed [] = refl
  any_listed (x ∷ xs) = ap (λ b. p x || b) (any_listed xs) ∙ go (p x)
    where
      go : (b : Bool) → (b || any p xs) ≡ elim b as (λ y. Bool) [ true ↦ true | false ↦ any p xs ]
      go true = refl
      go false = refl

  -- Every element passes the test.
  pub all_listed : (xs : List A) → list_all p xs ≡ all p xs
  unfolding all
  all_listed [] = refl
  all_listed (x ∷ xs) = ap (λ b. p x && b) (all_listed xs) ∙ go (p x)
    where
      go : (b : Bool) → (b && all p xs) ≡ elim b as (λ y. Bool) [ true ↦ all p xs | false ↦ false ]
      go true = refl
      go false = refl

-- A number stands in a list.
pub in_listed : (a : ℕ) (xs : Words) → list_any (λ x. eqb a x) xs ≡ is_in a xs
unfolding is_in
in_listed a xs = any_listed (λ x. eqb a x) xs
