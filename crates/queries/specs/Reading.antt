-- Questions read from the chains of a slice.
use Rattle.std.specs.Prelude.{ℕ, zero, suc, ◌+◌, ◌≤◌, ◌≡◌, refl, List, [], ◌∷◌, map, length, take}
use Rattle.std.proofs.Common.{sym, ◌∙◌, ap, le_of_suc-le-suc, not-suc-le-zero, arith}
use Rattle.std.proofs.lemmas.List.{length-map}
use Rattle.rules.specs.Lists.{Words}
use Rattle.rules.specs.Layout.{cell_type}
use Rattle.rules.specs.Sheet.{at, chain, chain_of}
use Rattle.rules.specs.Types.{Ty}
use Rattle.rules.specs.Transfer.{type_of_word, cell_types}
use Rattle.queries.specs.Queries.{query_of}

-- As many types as cells.
pub cells-many : (s : Words) (h : ℕ) → length (cell_types s h) ≡ length (chain s h)
unfolding cell_types
cells-many s h = length-map (chain s h) (λ c. type_of_word (at s (c + cell_type)))

-- The places that m steps along a chain pass, whether it has ended or not.
unfoldable steps : ℕ → Words → ℕ → Words
steps zero s i = []
steps (suc m) s i = i ∷ steps m s (at s i)

-- The records of a chain that has at most m are the first of them.
chain_steps : (k : ℕ) (s : Words) (i m : ℕ) → length (chain_of k s i) ≤ m → chain_of k s i ≡ take (length (chain_of k s i)) (steps m s i)
unfolding chain_of steps
chain_steps zero s i m h = refl
chain_steps (suc k) s zero m h = refl
chain_steps (suc k) s (suc i) zero h = absurd (not-suc-le-zero h)
chain_steps (suc k) s (suc i) (suc m) h = ap (λ (l : Words). suc i ∷ l) (chain_steps k s (at s (suc i)) m (le_of_suc-le-suc h))

pub map-take : {A B : Type 0} (f : A → B) (n : ℕ) (xs : List A) → map f (take n xs) ≡ take n (map f xs)
map-take f zero xs = refl
map-take f (suc n) [] = refl
map-take f (suc n) (x ∷ xs) = ap (λ (l : List _). f x ∷ l) (map-take f n xs)

-- Four steps along a chain of at most four cells, with the type word at each, are the question.
pub query_read : (s : Words) (tr h n b c d x y z w : ℕ) → length (cell_types s h) ≤ 4 → n ≡ length (chain s h) → b ≡ at s h → c ≡ at s b → d ≡ at s c →
    x ≡ at s (h + 1) → y ≡ at s (b + 1) → z ≡ at s (c + 1) → w ≡ at s (d + 1) →
    query_of (record { tr = tr; n = n; args = x ∷ y ∷ z ∷ w ∷ [] }) ≡ (tr, cell_types s h)
unfolding query_of cell_types chain steps
query_read s tr h n b c d x y z w few e eb ec ed ex ey ez ew = ap (λ (l : List Ty). (tr, l)) (sym there)
  where
    g : ℕ → ℕ
    g p = at s (p + cell_type)

    third : c ≡ at s (at s h)
    third = ec ∙ ap (λ i. at s i) eb

    read : x ∷ y ∷ z ∷ w ∷ [] ≡ map g (steps 4 s h)
    read t = ex t ∷ (ey ∙ ap g eb) t ∷ (ez ∙ ap g third) t ∷ (ew ∙ ap g (ed ∙ ap (λ i. at s i) third)) t ∷ []

    there : map (λ p. type_of_word (g p)) (chain s h) ≡ map type_of_word (take n (x ∷ y ∷ z ∷ w ∷ []))
    there =
        ap (λ (l : Words). map (λ p. type_of_word (g p)) l) (chain_steps (length s) s h 4 (omega (arith, cells-many s h)))
        ∙ map-take (λ p. type_of_word (g p)) (length (chain s h)) (steps 4 s h)
        ∙ ap (λ k. take k (map (λ p. type_of_word (g p)) (steps 4 s h))) (sym e)
        ∙ ap (λ (l : Words). take n (map type_of_word l)) (sym read)
        ∙ sym (map-take type_of_word n (x ∷ y ∷ z ∷ w ∷ []))

pub query_few : (s : Words) (h n : ℕ) → length (cell_types s h) ≤ 4 → n ≡ length (chain s h) → n ≤ 4
query_few s h n few e = omega (arith, cells-many s h)
