-- Lists and tests that the rules are written with. Assumes nothing.
use Rattle.std.specs.Prelude.{ℕ, zero, suc, Bool, true, false, List, [], ◌∷◌, ◌++◌, eqb}
use Rattle.std.proofs.Math.Option.{Option, none, some}

-- Words of a slice: u32 numbers.
abbrev pub Words : Type 0
Words = List ℕ

module _ {A : Type 0} where
  -- Some element passes the test.
  unfoldable pub any : (A → Bool) → List A → Bool
  any p [] = false
  any p (x ∷ xs) = elim (p x) [ true ↦ true | false ↦ any p xs ]

  -- Every element passes the test.
  unfoldable pub all : (A → Bool) → List A → Bool
  all p [] = true
  all p (x ∷ xs) = elim (p x) [ true ↦ all p xs | false ↦ false ]

  -- The elements that pass the test, in their order.
  unfoldable pub select : (A → Bool) → List A → List A
  select p [] = []
  select p (x ∷ xs) = elim (p x) [ true ↦ x ∷ select p xs | false ↦ select p xs ]

  -- What a function gives for each element, one after the other.
  unfoldable pub concat_map : {B : Type 0} → (A → List B) → List A → List B
  concat_map f [] = []
  concat_map f (x ∷ xs) = f x ++ concat_map f xs

-- i, i + 1, .. : n of them.
unfoldable pub range : ℕ → ℕ → Words
range i zero = []
range i (suc n) = i ∷ range (suc i) n

-- "?": 0 for none, id plus 1 otherwise.
unfoldable pub optional : ℕ → Option ℕ
optional zero = none
optional (suc i) = some i

-- The same, as a list of none or one.
unfoldable pub optional_list : ℕ → Words
optional_list zero = []
optional_list (suc i) = i ∷ []

-- A number stands in a list.
unfoldable pub is_in : ℕ → Words → Bool
is_in x xs = any (λ y. eqb x y) xs

-- All of some tests hold.
unfoldable pub holds : List Bool → Bool
holds [] = true
holds (b ∷ bs) = elim b [ true ↦ holds bs | false ↦ false ]

-- A flag as a word.
abbrev pub bit : Bool → ℕ
bit true = 1
bit false = 0
