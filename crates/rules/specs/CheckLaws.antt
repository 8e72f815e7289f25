-- A call that no check refuses: each condition fails. What a sheet that passes 6 to 9 promises, test by test.
use Rattle.std.specs.Prelude.{ℕ, zero, suc, ◌≡◌, Bool, true, false, not, ◌&&◌, List, [], ◌∷◌, T, eqb, get_or}
use Rattle.std.proofs.Math.Option.{none, some-ne-none}
use Rattle.rules.specs.Lists.{Words, holds}
use Rattle.rules.specs.Layout.{header_edition, edition_1}
use Rattle.rules.specs.Sheet.{at}
use Rattle.rules.specs.Chains.{sheet_keeps}
use Rattle.rules.specs.Values.{sheet_values}
use Rattle.rules.specs.Acyclic.{sheet_acyclic}
use Rattle.rules.specs.Check.{Checks, refusal, of_sheet}

-- Where both of two tests pass, each does.
pub both : (a b : Bool) → T (a && b) → T a × T b
both true b t = (tt, t)
both false b t = absurd t

-- Where all of some tests hold, test n holds.
pub part : (bs : List Bool) → T (holds bs) → (n : ℕ) → T (get_or bs n true)
unfolding holds
part [] t n = tt
part (true ∷ bs) t zero = tt
part (true ∷ bs) t (suc n) = part bs t n
part (false ∷ bs) t n = absurd t

-- No check refuses: the condition of check n fails.
pub unrefused : (cs : Checks) → refusal cs ≡ none → (n : ℕ) → T (not (get_or cs n (0, false)).1)
unfolding refusal
unrefused [] e n = tt
unrefused (c ∷ cs) e n = go c.1 e n (unrefused cs)
  where
    go : (b : Bool) → refusal ((c.0, b) ∷ cs) ≡ none → (m : ℕ) → (refusal cs ≡ none → (i : ℕ) → T (not (get_or cs i (0, false)).1)) → T (not (get_or {A = ℕ × Bool} ((c.0, b) ∷ cs) m (0, false)).1)
    go true k m ih = absurd (some-ne-none c.0 k)
    go false k zero ih = tt
    go false k (suc m) ih = ih k m

-- A test does not fail.
pub not_not : (b : Bool) → T (not (not b)) → T b
not_not true t = tt
not_not false t = absurd t

-- A checked sheet: 6 to 9 do not refuse it.
abbrev pub Checked : Words → Type 0
Checked s = refusal (of_sheet s) ≡ none

-- Its edition is 1, its chains keep the rule, its values are in range, and no type reaches itself.
pub record Passed (s : Words) : Type 0 where
  pub edition : T (eqb (at s header_edition) edition_1)
  pub chains : T (sheet_keeps s)
  pub values : T (sheet_values s)
  pub types : T (sheet_acyclic s)
