-- Tests together, as the code that makes them asks for them.
use Rattle.std.specs.Prelude.{◌≡◌, refl, Bool, true, false, ◌||◌, ◌&&◌, List, [], ◌∷◌, ℕ, ◌<◌, ◌≤◌, eqb, ltb}
use Rattle.std.specs.List.{list_all}
use Rattle.std.proofs.Common.{◌∙◌, ap, lt-ltb, le-ltb}
use Rattle.rules.specs.Lists.{holds}

-- All of some tests hold.
pub holds_listed : (bs : List Bool) → list_all (λ b. b) bs ≡ holds bs
unfolding holds
holds_listed [] = refl
holds_listed (b ∷ bs) = ap (λ c. b && c) (holds_listed bs) ∙ go b
  where
    go : (b : Bool) → (b && holds bs) ≡ elim b as (λ c. Bool) [ true ↦ holds bs | false ↦ false ]
    go true = refl
    go false = refl

-- An unknown is not inverted.
pub known_either : (k inv : ℕ) → 0 < k → true ≡ (ltb 0 k || eqb inv 0)
known_either k inv h = rw (lt-ltb 0 k h) refl

-- Of an unknown the inversion decides.
pub unknown_upright : (k inv : ℕ) → k ≤ 0 → eqb inv 0 ≡ (ltb 0 k || eqb inv 0)
unknown_upright k inv h = rw (le-ltb 0 k h) refl
