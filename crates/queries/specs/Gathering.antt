-- Up to four questions put together, and the impl parameters of generics so read.
use Rattle.std.specs.Prelude.{ℕ, zero, suc, ◌+◌, ◌≤◌, ◌<◌, ◌≡◌, refl, List, [], ◌∷◌, map, length}
use Rattle.std.proofs.Math.Path.{sym, ap}
use Rattle.std.proofs.Common.{◌∙◌, ap₂, subst, not-suc-le-zero, arith}
use Rattle.std.proofs.Math.ListN.{take, length-map}
use Rattle.rules.specs.Lists.{Words}
use Rattle.rules.specs.Layout.{header_generics, generics_impl_params, impl_param_trait, impl_param_args}
use Rattle.rules.specs.Sheet.{at, chain, field, impl_param_records}
use Rattle.rules.specs.Types.{ImplType}
use Rattle.rules.specs.Transfer.{cell_types}
use Rattle.rules.specs.Search.{impl_params}
use Rattle.table.specs.Packing.{up_to}
use Rattle.queries.specs.declared.Query.{Query}
use Rattle.queries.specs.declared.Queries.{Queries}
use Rattle.queries.specs.Queries.{query_of, query_in, queries_of}
use Rattle.queries.specs.Few.{Few, map_at}

-- At most four, with at most four type words each.
pub record WithinFour (qs : Queries) : Type 0 where
  pub many : qs.n ≤ 4
  pub each : (k : ℕ) → k < 4 → (query_in qs k).n ≤ 4

-- The first n of four questions.
abbrev pub gathered : ℕ → Query → Query → Query → Query → Queries
gathered n a b c d = record { n = n; items = a ∷ b ∷ c ∷ d ∷ [] }

up_to-four : {A : Type 0} (f : ℕ → A) (n : ℕ) → n ≤ 4 → up_to f n ≡ take n (f 0 ∷ f 1 ∷ f 2 ∷ f 3 ∷ [])
unfolding up_to
up_to-four f zero h = refl
up_to-four f (suc zero) h = refl
up_to-four f (suc (suc zero)) h = refl
up_to-four f (suc (suc (suc zero))) h = refl
up_to-four f (suc (suc (suc (suc zero)))) h = refl
up_to-four f (suc (suc (suc (suc (suc n))))) h = absurd (not-suc-le-zero {n = 0} (omega arith))

-- At most four are the first of four.
pub queries_four : (qs : Queries) → qs.n ≤ 4 → queries_of qs ≡ take qs.n (query_of (query_in qs 0) ∷ query_of (query_in qs 1) ∷ query_of (query_in qs 2) ∷ query_of (query_in qs 3) ∷ [])
unfolding queries_of
queries_four qs h = up_to-four (λ k. query_of (query_in qs k)) qs.n h

pub queries_gathered : (n : ℕ) (a b c d : Query) → n ≤ 4 → queries_of (gathered n a b c d) ≡ take n (query_of a ∷ query_of b ∷ query_of c ∷ query_of d ∷ [])
unfolding query_of
queries_gathered n a b c d h = queries_four (gathered n a b c d) h

pub within-gathered : (n : ℕ) (a b c d : Query) → n ≤ 4 → a.n ≤ 4 → b.n ≤ 4 → c.n ≤ 4 → d.n ≤ 4 → WithinFour (gathered n a b c d)
within-gathered n a b c d h ha hb hc hd = record { many = h; each = go }
  where
    go : (k : ℕ) → k < 4 → (query_in (gathered n a b c d) k).n ≤ 4
    go zero l = ha
    go (suc zero) l = hb
    go (suc (suc zero)) l = hc
    go (suc (suc (suc zero))) l = hd
    go (suc (suc (suc (suc k)))) l = absurd (not-suc-le-zero {n = 0} (omega arith))

-- The impl parameter at a place, and those in the records of a chain.
unfoldable pub param_of : Words → ℕ → ImplType
param_of s p = (at s (p + impl_param_trait), cell_types s (at s (p + impl_param_args)))

unfoldable pub params_from : Words → ℕ → List ImplType
params_from s h = map (param_of s) (chain s h)

-- Those of generics.
pub params_of_generics : (s : Words) (g h : ℕ) → h ≡ field s header_generics g generics_impl_params → (impl_params s g).1 ≡ params_from s h
unfolding impl_params impl_param_records params_from param_of
params_of_generics s g h e = ap (λ i. params_from s i) (sym e)

-- What is read of parameter k: where there is one it is that.
pub record ParamRead (s : Words) (h k : ℕ) (r : Query) : Type 0 where
  pub is : k < length (chain s h) → query_of r ≡ param_of s (at (chain s h) k)
  pub few : r.n ≤ 4

pub few_generics : (s : Words) (g h : ℕ) → h ≡ field s header_generics g generics_impl_params → Few (impl_params s g).1 → Few (params_from s h)
few_generics s g h e f = subst Few (params_of_generics s g h e) f

-- A parameter that is there has few arguments.
pub param_few : (s : Words) (h n k p i : ℕ) → Few (params_from s h) → n ≡ length (chain s h) → k < n → p ≡ at (chain s h) k → i ≡ at s (p + impl_param_args) → length (cell_types s i) ≤ 4
unfolding params_from param_of
param_few s h n k p i f e l ep ei =
    let m : k < length (chain s h) = omega arith in
    subst (λ j. length (cell_types s j) ≤ 4) (sym (ei ∙ ap (λ j. at s (j + impl_param_args)) ep))
    (subst (λ (x : ImplType). length x.1 ≤ 4) (map_at (param_of s) (0, []) (chain s h) k m) (f.each k (omega (arith, length-map (chain s h) (param_of s)))))

pub param_read : (s : Words) (h k p t i : ℕ) (r : Query) → p ≡ at (chain s h) k → t ≡ at s (p + impl_param_trait) → i ≡ at s (p + impl_param_args) → query_of r ≡ (t, cell_types s i) → r.n ≤ 4 → ParamRead s h k r
unfolding param_of
param_read s h k p t i r ep et ei e l = record {
  is = λ m. e ∙ ap₂ {C = ImplType} (λ x y. (x, cell_types s y)) (et ∙ ap (λ j. at s (j + impl_param_trait)) ep) (ei ∙ ap (λ j. at s (j + impl_param_args)) ep);
  few = l;
}

pub param-none : (s : Words) (h n k : ℕ) → n ≡ length (chain s h) → n ≤ k → ParamRead s h k (record { tr = 0; n = 0; args = 0 ∷ 0 ∷ 0 ∷ 0 ∷ [] })
param-none s h n k e l = record { is = λ m. absurd (not-suc-le-zero {n = 0} (omega arith)); few = omega arith }

-- Four things of which the first n are what a function gives for the elements of a list.
first_four : {A : Type 0} (f : ℕ → A) (xs : Words) (x y z w : A) → length xs ≤ 4 → (0 < length xs → x ≡ f (at xs 0)) → (1 < length xs → y ≡ f (at xs 1)) → (2 < length xs → z ≡ f (at xs 2)) → (3 < length xs → w ≡ f (at xs 3)) → take (length xs) (x ∷ y ∷ z ∷ w ∷ []) ≡ map f xs
first_four f [] x y z w h hx hy hz hw = refl
first_four f (a ∷ []) x y z w h hx hy hz hw = λ t. hx (omega arith) t ∷ []
first_four f (a ∷ b ∷ []) x y z w h hx hy hz hw = λ t. hx (omega arith) t ∷ hy (omega arith) t ∷ []
first_four f (a ∷ b ∷ c ∷ []) x y z w h hx hy hz hw = λ t. hx (omega arith) t ∷ hy (omega arith) t ∷ hz (omega arith) t ∷ []
first_four f (a ∷ b ∷ c ∷ d ∷ []) x y z w h hx hy hz hw = λ t. hx (omega arith) t ∷ hy (omega arith) t ∷ hz (omega arith) t ∷ hw (omega arith) t ∷ []
first_four f (a ∷ b ∷ c ∷ d ∷ e ∷ xs) x y z w h hx hy hz hw = absurd (not-suc-le-zero {n = 0} (omega arith))

module _ (s : Words) (g h n : ℕ) (a b c d : Query) (e : h ≡ field s header_generics g generics_impl_params) (f : Few (impl_params s g).1) (l : n ≡ length (chain s h)) where
  pub params-many : n ≤ 4
  unfolding params_from
  params-many = omega (arith, (few_generics s g h e f).many, length-map (chain s h) (param_of s))

  module _ (ra : ParamRead s h 0 a) (rb : ParamRead s h 1 b) (rc : ParamRead s h 2 c) (rd : ParamRead s h 3 d) where
    pub params_read : queries_of (gathered n a b c d) ≡ (impl_params s g).1
    unfolding params_from
    params_read =
        queries_gathered n a b c d params-many
        ∙ ap (λ k. take k (query_of a ∷ query_of b ∷ query_of c ∷ query_of d ∷ [])) l
        ∙ first_four (param_of s) (chain s h) (query_of a) (query_of b) (query_of c) (query_of d) (omega (arith, params-many)) ra.is rb.is rc.is rd.is
        ∙ sym (params_of_generics s g h e)

    pub params-within : WithinFour (gathered n a b c d)
    params-within = within-gathered n a b c d params-many ra.few rb.few rc.few rd.few
