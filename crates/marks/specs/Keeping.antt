-- The chain rule for one record: which of its tests decides.
use Prim.Native.Nat.{ℕ, zero, suc, ◌+◌, ◌-◌, ◌≤◌, ◌<◌}
use Rattle.std.specs.Prelude.{◌≡◌, false, ◌≢◌, eqb, length}
use Rattle.std.proofs.Math.Path.{refl, sym, ap}
use Rattle.std.proofs.Common.{◌∙◌, arith, le-leb}
use Rattle.std.proofs.lemmas.Bool.{lt-leb}
use Rattle.std.proofs.Math.Dec.{leb}
use Rattle.rules.specs.Lists.{Words}
use Rattle.rules.specs.Sheet.{at}
use Rattle.rules.specs.Chains.{zero_or_from, record_keeps}

module _ (s : Words) (len i : ℕ) where
  -- A record keeps the rule or not: it passes the end,
  pub keeps_short : length s < len → false ≡ record_keeps s len i
  unfolding record_keeps
  keeps_short h = rw (lt-leb (i + len) (length s) (omega arith))

  pub keeps_past : len ≤ length s → length s - len < i → false ≡ record_keeps s len i
  unfolding record_keeps
  keeps_past k h = rw (lt-leb (i + len) (length s) (omega arith))

  -- it ends its chain,
  pub keeps_last : (next : ℕ) → next ≡ at s i → len ≤ length s → i ≤ length s - len → next ≡ 0 → eqb next 0 ≡ record_keeps s len i
  unfolding record_keeps zero_or_from
  keeps_last next e k h z = rw (z, le-leb (i + len) (length s) (omega arith), sym e ∙ z)

  -- or its next lies past it.
  pub keeps_next : (next : ℕ) → next ≡ at s i → len ≤ length s → i ≤ length s - len → next ≢ 0 → leb (i + len) next ≡ record_keeps s len i
  unfolding record_keeps zero_or_from
  keeps_next next e k h z = rw (le-leb (i + len) (length s) (omega arith)) (go next z ∙ ap (zero_or_from (i + len)) e)
    where
      go : (n : ℕ) → n ≢ 0 → leb (i + len) n ≡ zero_or_from (i + len) n
      go zero h = absurd (h refl)
      go (suc n) h = refl
