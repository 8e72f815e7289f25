-- A walk along a chain, record by record.
use Prim.Native.Nat.{ℕ, suc, ◌+◌, ◌<◌}
use Rattle.std.specs.Prelude.{◌≡◌, [], ◌∷◌}
use Rattle.std.proofs.Common.{sym, ◌∙◌, zero-add, add-zero}
use Rattle.std.proofs.Math.Path.{ap}
use native.Mathlib.Omega.{arith}
use Rattle.std.proofs.Math.ListN.{length}
use Rattle.rules.specs.Lists.{Words}
use Rattle.rules.specs.Sheet.{at, chain}

-- n records are passed, and those at ps are left.
pub record Stepping (s : Words) (h n : ℕ) (ps : Words) : Type 0 where
  pub count : n + length ps ≡ length (chain s h)
  pub rest : (k : ℕ) → at ps k ≡ at (chain s h) (n + k)

pub step_start : (s : Words) (h : ℕ) (ps : Words) → ps ≡ chain s h → Stepping s h 0 ps
step_start s h ps e = record { count = omega (arith, ap (λ (xs : Words). length xs) e); rest = λ k. (λ t. at (e t) (sym (zero-add k) t)) }

module _ (s : Words) (h n : ℕ) (ps : Words) (t : Stepping s h n ps) where
  -- None is left.
  pub step_end : ps ≡ [] → n ≡ length (chain s h)
  step_end e = omega (arith, t.count, ap (λ (xs : Words). length xs) e)

  -- There is a record at p.
  module _ (p : ℕ) (qs : Words) (e : ps ≡ p ∷ qs) where
    pub step_inside : n < length (chain s h)
    step_inside = omega (arith, t.count, ap (λ (xs : Words). length xs) e)

    pub step_here : p ≡ at (chain s h) n
    step_here = sym (ap (λ (xs : Words). at xs 0) e) ∙ t.rest 0 ∙ ap (at (chain s h)) (add-zero n)

    pub step_on : Stepping s h (n + 1) qs
    step_on = record {
      count = omega (arith, t.count, ap (λ (xs : Words). length xs) e);
      rest = λ k. sym (ap (λ (xs : Words). at xs (suc k)) e) ∙ t.rest (suc k) ∙ ap (at (chain s h)) (let y : n + suc k ≡ n + 1 + k = omega arith in y);
    }
