-- All that is counted in a call.
use Prim.Native.Nat.{ℕ, zero, suc, ◌+◌, ◌*◌, ◌≤◌, ◌<◌}
use Rattle.std.specs.Prelude.{◌≡◌, Bool, true, false, [], ◌∷◌, ◌⊎◌, T}
use Rattle.std.proofs.Math.Path.{refl, ap}
use Rattle.std.proofs.Common.{sym, ◌∙◌, subst, inl, inr, not-suc-le-zero, zero-lt-suc, zero-add, lit<}
use native.Mathlib.Omega.{arith}
use Rattle.std.proofs.Math.ListN.{length}
use Rattle.rules.specs.Lists.{Words}
use Rattle.rules.specs.Layout.{header_length, header_generics, generics_length}
use Rattle.rules.specs.Sheet.{at, chain, chain_of, records, many}
use Rattle.rules.specs.Chains.{zero_or_from, chain_keeps, head_keeps, generics_keep, sheet_keeps}
use Rattle.rules.specs.CheckLaws.{part}
use Rattle.rules.specs.ChainLaws.{Keeps, at_end, at_record, chain_rule}
use Rattle.chart.specs.Index.{Indexed, indexed-many, indexed_record}
use Rattle.queries.specs.Takes.{SignatureTakes, Taken}
use Rattle.reach.specs.Impls.{Called, Checked, Generics, Signatures}
use Rattle.reach.specs.Params.{ParamsPut}

-- Records of four words fit into a slice a fourth as often as it has words.
module _ (s : Words) (heads : ℕ → Bool) where
  walk-zero : (k : ℕ) → length (chain_of k s 0) ≡ 0
  unfolding chain_of
  walk-zero zero = refl
  walk-zero (suc k) = refl

  walk_more : (k i : ℕ) → 0 < i → length (chain_of (suc k) s i) ≡ suc (length (chain_of k s (at s i)))
  unfolding chain_of
  walk_more k zero h = absurd (not-suc-le-zero h)
  walk_more k (suc i) h = refl

  walk_few : {i : ℕ} → Keeps s 4 heads i → (k : ℕ) → 0 < i → i + 4 * length (chain_of k s i) ≤ length s
  unfolding chain_of
  walk_few at_end k h = absurd (not-suc-le-zero h)
  walk_few (at_record h l n t r) zero p = omega arith
  walk_few (at_record {i} h l (inl e) t r) (suc k) p = omega (arith, walk_more k i h, ap (λ j. length (chain_of k s j)) e, walk-zero k)
  walk_few (at_record {i} h l (inr m) t r) (suc k) p = omega (arith, walk_more k i h, walk_few r k (omega arith))

  chain_few : (i : ℕ) → Keeps s 4 heads i → 4 * length (chain s i) ≤ length s
  unfolding chain
  chain_few zero r = omega (arith, walk-zero (length s))
  chain_few (suc i) r = omega (arith, walk_few r (length s) (zero-lt-suc i))

head_chain : (lo : ℕ) (s : Words) (len : ℕ) (heads : ℕ → Bool) (h : ℕ) → T (head_keeps lo s len heads h) → T (chain_keeps s len heads h)
unfolding head_keeps
head_chain lo s len heads h t = go (zero_or_from lo h) t
  where
    go : (b : Bool) → T (elim b as (λ x. Bool) [ true ↦ chain_keeps s len heads h | false ↦ false ]) → T (chain_keeps s len heads h)
    go true u = u
    go false u = absurd u

head_in : (s : Words) (j : ℕ) → (at s j ≡ 0) ⊎ (0 < length s)
head_in [] j = inl refl
head_in (w ∷ s) j = inr (zero-lt-suc (length s))

-- So do the records of generics.
generics_many : (s : Words) → T (sheet_keeps s) → 4 * many s header_generics ≤ length s
unfolding sheet_keeps generics_keep many records
generics_many s t = chain_few s _ (at s header_generics) ((chain_rule s generics_length (lit< tt) _ (at s header_generics) (head_in s header_generics)).0 (head_chain header_length s generics_length _ (at s header_generics) (part _ t 1)))

module _ (s : Words) (g : ℕ) (c : Called s g) where
  pub whole_checked : Checked s
  whole_checked = record { generics = g; called = c }

  pub whole_short : (ps : Words) → length ps ≡ 820 → length s ≤ 5 * length ps
  whole_short ps e = omega (arith, c.ready.short)

  pub whole_room : (ws : Words) → length ws ≡ 1024 → 0 + many s header_generics ≤ length ws
  whole_room ws e = omega (arith, c.ready.short, generics_many s c.ready.chains)

  pub whole_taken : (us vs : Words) → Signatures s us → ParamsPut s g us vs → Taken s g vs
  whole_taken us vs a b = record {
    signatures = λ i h. subst (SignatureTakes s i) (sym (b.low i (omega (arith, c.ready.values.impl_count)))) (a.each i h);
    params = b.each;
  }

-- An index of all records of generics.
pub generics_indexed : (s ws us : Words) (n : ℕ) → Indexed s (at s 2) ws us 0 n → Generics s us
generics_indexed s ws us n x = record { place = λ g h. ap (at us) (sym (zero-add g)) ∙ indexed_record s 2 ws us 0 n x g (omega (arith, indexed-many s 2 ws us 0 n x)) }
