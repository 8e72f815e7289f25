-- How many nodes a table of a checked sheet or question has at most: its records are of five words, each past the one before it.
use Prim.Native.Nat.{ℕ, zero, suc, ◌+◌, ◌*◌, ◌≤◌, ◌<◌}
use Rattle.std.specs.Prelude.{◌≡◌, Bool, true, false, ◌⊎◌, [], ◌∷◌, T}
use Rattle.std.proofs.Math.Path.{refl, ap}
use Rattle.std.proofs.Common.{inl, inr, not-suc-le-zero, zero-lt-suc, lit<}
use native.Mathlib.Omega.{arith}
use Rattle.std.proofs.Math.ListN.{length}
use Rattle.rules.specs.Lists.{Words}
use Rattle.rules.specs.Layout.{header_length, header_generics, header_impls, generics_length, generics_table_word, generics_impl_params, impl_length, impl_table_word, impl_args_word, node_length}
use Rattle.rules.specs.Sheet.{at, chain, chain_of, records, many, field}
use Rattle.rules.specs.Members.{in_at}
use Rattle.rules.specs.Chains.{zero_or_from, chain_keeps, head_keeps, cells_keep, nodes_keep, impl_params_keep, generics_keep, impls_keep, sheet_keeps}
use Rattle.rules.specs.CheckLaws.{both, part}
use Rattle.rules.specs.ChainLaws.{Keeps, at_end, at_record, chain_rule, keeps_heads}

-- Such records fit into a slice a fifth as often as it has words.
module _ (s : Words) (heads : ℕ → Bool) where
  walk-zero : (k : ℕ) → length (chain_of k s 0) ≡ 0
  unfolding chain_of
  walk-zero zero = refl
  walk-zero (suc k) = refl

  walk_more : (k i : ℕ) → 0 < i → length (chain_of (suc k) s i) ≡ suc (length (chain_of k s (at s i)))
  unfolding chain_of
  walk_more k zero h = absurd (not-suc-le-zero h)
  walk_more k (suc i) h = refl

  walk_few : {i : ℕ} → Keeps s 5 heads i → (k : ℕ) → 0 < i → i + 5 * length (chain_of k s i) ≤ length s
  unfolding chain_of
  walk_few at_end k h = absurd (not-suc-le-zero h)
  walk_few (at_record h l n t r) zero p = omega arith
  walk_few (at_record {i} h l (inl e) t r) (suc k) p = omega (arith, walk_more k i h, ap (λ j. length (chain_of k s j)) e, walk-zero k)
  walk_few (at_record {i} h l (inr m) t r) (suc k) p = omega (arith, walk_more k i h, walk_few r k (omega arith))

  chain_few : (i : ℕ) → Keeps s 5 heads i → 5 * length (chain s i) ≤ length s
  unfolding chain
  chain_few zero r = omega (arith, walk-zero (length s))
  chain_few (suc i) r = omega (arith, walk_few r (length s) (zero-lt-suc i))

head_chain : (lo : ℕ) (s : Words) (len : ℕ) (heads : ℕ → Bool) (h : ℕ) → T (head_keeps lo s len heads h) → T (chain_keeps s len heads h)
unfolding head_keeps
head_chain lo s len heads h t = go (zero_or_from lo h) t
  where
    go : (b : Bool) → T (elim b as (λ x. Bool) [ true ↦ chain_keeps s len heads h | false ↦ false ]) → T (chain_keeps s len heads h)
    go true u = u
    go false u = absurd u

head_in : (s : Words) (j : ℕ) → (at s j ≡ 0) ⊎ (0 < length s)
head_in [] j = inl refl
head_in (w ∷ s) j = inr (zero-lt-suc (length s))

-- A table whose head, at place j, keeps the rule.
pub nodes_few : (lo : ℕ) (s : Words) (j : ℕ) → T (nodes_keep lo s (at s j)) → 5 * length (chain s (at s j)) ≤ length s
unfolding nodes_keep
nodes_few lo s j t = chain_few s _ (at s j) ((chain_rule s node_length (lit< tt) _ (at s j) (head_in s j)).0 (head_chain lo s node_length _ (at s j) t))

-- The tables of a sheet that passed 7: of generics, and of impls.
module _ (s : Words) (t : T (sheet_keeps s)) where
  pub generics_few : (g : ℕ) → g < many s header_generics → 5 * length (chain s (field s header_generics g generics_table_word)) ≤ length s
  unfolding sheet_keeps generics_keep many records field
  generics_few g h =
      let p = at (chain s (at s header_generics)) g in
      let k = keeps_heads s generics_length (lit< tt) _ (at s header_generics) (head_chain header_length s generics_length _ (at s header_generics) (part _ t 1)) p (in_at (chain s (at s header_generics)) g 0 h) in
      nodes_few header_length s (p + generics_table_word) (both (nodes_keep header_length s (at s (p + generics_table_word))) (impl_params_keep s (at s (p + generics_impl_params))) k).0

  pub impl_few : (i : ℕ) → i < many s header_impls → 5 * length (chain s (field s header_impls i impl_table_word)) ≤ length s
  unfolding sheet_keeps impls_keep many records field
  impl_few i h =
      let p = at (chain s (at s header_impls)) i in
      let k = keeps_heads s impl_length (lit< tt) _ (at s header_impls) (head_chain header_length s impl_length _ (at s header_impls) (part _ t 3)) p (in_at (chain s (at s header_impls)) i 0 h) in
      nodes_few header_length s (p + impl_table_word) (both (nodes_keep header_length s (at s (p + impl_table_word))) (cells_keep header_length s (at s (p + impl_args_word))) k).0
