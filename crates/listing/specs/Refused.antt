-- A sheet that the listing's checks do not refuse, and the numbers of those that they refuse.
use Rattle.std.specs.Prelude.{ℕ, ◌≤◌, ◌<◌, ◌≡◌, refl, Bool, true, false, ◌||◌, ◌≢◌, eqb, length}
use Rattle.std.proofs.Common.{sym, ◌∙◌, ap, arith, ltb-false}
use Rattle.std.proofs.Math.Path.{subst}
use Rattle.std.proofs.Math.Bool.{not}
use mathlib.Core.List.{[], ◌∷◌, ◌++◌}
use Rattle.std.proofs.Math.Dec.{ltb}
use Rattle.rules.specs.Lists.{Words}
use Rattle.rules.specs.Layout.{header_length, header_edition, header_definitions, edition_1}
use Rattle.rules.specs.Limits.{limit_sheet}
use Rattle.rules.specs.Sheet.{at, chain, records, many}
use Rattle.rules.specs.Chains.{sheet_keeps}
use Rattle.rules.specs.Values.{sheet_values}
use Rattle.rules.specs.Acyclic.{sheet_acyclic}
use Rattle.rules.specs.CheckLaws.{Checked}
use Rattle.rules.specs.Check.{Checks, refusal, of_length, of_sheet}
use Rattle.checks.specs.Numbers.{number, number_past, number_here, none_left}

-- Where no number is given, the first condition fails and the others give none.
zero_past : (n : ℕ) (b : Bool) (cs : Checks) → n ≢ 0 → number ((n, b) ∷ cs) ≡ 0 → (b ≡ false) × (number cs ≡ 0)
zero_past n true cs h e = absurd (h (number_here n true cs refl ∙ e))
zero_past n false cs h e = (refl, sym (number_past n false cs refl) ∙ e)

low : (n : ℕ) (b : Bool) (cs : Checks) → n < 1000 → number cs < 1000 → number ((n, b) ∷ cs) < 1000
low n true cs h k = subst (λ m. m < 1000) (number_here n true cs refl) h
low n false cs h k = subst (λ m. m < 1000) (sym (number_past n false cs refl)) k

or_none : (a b : Bool) → (a || b) ≡ false → b ≡ false
or_none true b e = subst (λ c. b ≡ c) e (absurd (subst (λ c. elim c as (λ x. Type 0) [ true ↦ Unit {0} | false ↦ ⊥ ]) e tt))
or_none false b e = e

refusal_past : (n : ℕ) (b : Bool) (cs : Checks) → b ≡ false → refusal ((n, b) ∷ cs) ≡ refusal cs
unfolding refusal
refusal_past n b cs e = rw e

module _ (s : Words) (n : ℕ) (e : n ≡ number (of_length s ++ of_sheet s)) where
  pub number_low : n < 1000
  unfolding of_length of_sheet
  number_low = subst (λ m. m < 1000) (sym e) (low 1 _ _ (omega arith) (low 6 _ _ (omega arith) (low 7 _ _ (omega arith) (low 8 _ _ (omega arith) (low 9 _ [] (omega arith) (subst (λ m. m < 1000) none_left (omega arith)))))))

  module _ (z : n ≡ 0) where
    rest : (ltb (length s) header_length || ltb limit_sheet (length s)) ≡ false × number (of_sheet s) ≡ 0
    unfolding of_length
    rest = zero_past 1 (ltb (length s) header_length || ltb limit_sheet (length s)) (of_sheet s) (λ q. omega (arith, q)) (sym e ∙ z)

    pub listed_short : length s ≤ 4096
    listed_short = ltb-false limit_sheet (length s) (or_none (ltb (length s) header_length) (ltb limit_sheet (length s)) rest.0)

    pub listed_checked : Checked s
    unfolding of_sheet refusal
    listed_checked =
        let types : Checks = (9, not (sheet_acyclic s)) ∷ [] in
        let values : Checks = (8, not (sheet_values s)) ∷ types in
        let chains : Checks = (7, not (sheet_keeps s)) ∷ values in
        let a = zero_past 6 (not (eqb (at s header_edition) edition_1)) chains (λ q. omega (arith, q)) rest.1 in
        let b = zero_past 7 (not (sheet_keeps s)) values (λ q. omega (arith, q)) a.1 in
        let c = zero_past 8 (not (sheet_values s)) types (λ q. omega (arith, q)) b.1 in
        let d = zero_past 9 (not (sheet_acyclic s)) [] (λ q. omega (arith, q)) c.1 in
        refusal_past 6 (not (eqb (at s header_edition) edition_1)) chains a.0 ∙ refusal_past 7 (not (sheet_keeps s)) values b.0 ∙ refusal_past 8 (not (sheet_values s)) types c.0 ∙ refusal_past 9 (not (sheet_acyclic s)) [] d.0

-- A definition below the count of the chain is there.
pub definition_there : (s : Words) (h n d : ℕ) → h ≡ at s 1 → n ≡ length (chain s h) → d < n → d < many s header_definitions
unfolding many records
definition_there s h n d e f l = subst (λ m. d < m) (f ∙ ap (λ i. length (chain s i)) e) l
