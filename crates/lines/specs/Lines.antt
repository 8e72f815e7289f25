-- A line of the listing: what is put for the impls that a set admits, one after the other, and the line as a whole.
use Rattle.std.specs.Prelude.{ℕ, ◌+◌, ◌*◌, ◌≤◌, ◌<◌, ◌≡◌, refl, [], ◌∷◌, ◌++◌, take, max, Option, Some, None}
use Rattle.std.proofs.Common.{sym, ap, subst, ⊎_elim, arith}
use Rattle.std.proofs.Math.Dec.{leb-zero}
use Rattle.rules.specs.Lists.{Words, select, concat_map}
use Rattle.rules.specs.Layout.{header_definitions, header_impls}
use Rattle.rules.specs.Sheet.{many}
use Rattle.rules.specs.Members.{in_cases, in_empty}
use Rattle.rules.specs.CheckLaws.{Checked}
use Rattle.rules.proofs.CheckLaws.{passed}
use Rattle.rules.specs.CheckedSheet.{valid}
use Rattle.rules.specs.Candidates.{node_count, admitted, general_candidates}
use Rattle.rules.specs.Listing.{decimal, line_text}
use Rattle.candidates.specs.Build.{Candidates}
use Rattle.candidates.specs.Find.{from_on, Standing, NextAdmitted, AdmittedFrom}
use Rattle.lines.specs.Text.{Puts, puts_none, puts_on, number_short}

-- A space and a number.
pub entry_puts : (i from r q : ℕ) (ws us vs : Words) → Puts (32 ∷ []) from ws us r → Puts (decimal i) r us vs q → Puts (32 ∷ decimal i) from ws vs q
entry_puts i from r q ws us vs a b = puts_on (32 ∷ []) (decimal i) from r q ws us vs a b

pub entry_short : (i from r q : ℕ) (ws us vs : Words) → i < 1000 → Puts (32 ∷ []) from ws us r → Puts (decimal i) r us vs q → q ≤ from + 4
entry_short i from r q ws us vs h a b = omega (arith, a.ends, b.ends, number_short i h)

-- What is put for some impls.
unfoldable pub entries : Words → Words
entries is = concat_map (λ i. 32 ∷ decimal i) is

-- Those that the set of a node admits, for whatever source the sets stand there.
pub record PutsImpls (s ws : Words) (node from : ℕ) (us vs : Words) (r : ℕ) : Type 0 where
  pub impls : (src : ℕ) → Standing s src ws (node ∷ []) → Puts (entries (admitted s src (node ∷ []))) from us vs r

-- With those from an id on still to come, all are put.
pub record Lining (s ws : Words) (node start : ℕ) (us vs : Words) (from at : ℕ) : Type 0 where
  pub to_come : (src : ℕ) → Standing s src ws (node ∷ []) → (zs : Words) (q : ℕ) → Puts (entries (from_on from (admitted s src (node ∷ [])))) at vs zs q → Puts (entries (admitted s src (node ∷ []))) start us zs q

from_on-all : (xs : Words) → from_on 0 xs ≡ xs
unfolding from_on select
from_on-all [] = refl
from_on-all (x ∷ xs) = rw (leb-zero x, from_on, select) (ap (λ (l : Words). x ∷ l) (from_on-all xs))

pub lining_start : (s ws : Words) (node start : ℕ) (us : Words) → Lining s ws node start us us 0 start
lining_start s ws node start us = record { to_come = λ src d zs q p. subst (λ l. Puts (entries l) start us zs q) (from_on-all (admitted s src (node ∷ []))) p }

pub lining_more : (s ws : Words) (node start n : ℕ) (us vs ys : Words) (from p i q : ℕ) → n ≡ many s header_impls → i < n → NextAdmitted s ws node from i → Puts (32 ∷ decimal i) p vs ys q → Lining s ws node start us vs from p
    → Lining s ws node start us ys (i + 1) q
unfolding entries concat_map
lining_more s ws node start n us vs ys from p i q e h a b l = record {
  to_come = λ src d zs z k.
      let rest : Words = from_on (i + 1) (admitted s src (node ∷ [])) in
      l.to_come src d zs z (subst (λ is. Puts (entries is) p vs zs z) (sym (a.found src d (omega (arith, e)))) (puts_on (32 ∷ decimal i) (entries rest) p q z vs ys zs b k));
}

pub lining_done : (s ws : Words) (node start n : ℕ) (us vs : Words) (from p i : ℕ) → n ≡ many s header_impls → n ≤ i → NextAdmitted s ws node from i → Lining s ws node start us vs from p → PutsImpls s ws node start us vs p
unfolding entries concat_map
lining_done s ws node start n us vs from p i e h a l = record {
  impls = λ src d. l.to_come src d vs p (subst (λ is. Puts (entries is) p vs vs p) (sym (a.none src d (omega (arith, e)))) (puts_none p vs));
}

-- The same where the next is found, or none is.
pub lining_next : (s ws : Words) (node start : ℕ) (us vs ys : Words) (from p i q : ℕ) (o : Option ℕ) → o ≡ Some i → AdmittedFrom s ws node from o → Puts (32 ∷ decimal i) p vs ys q → Lining s ws node start us vs from p → Lining s ws node start us ys (i + 1) q
lining_next s ws node start us vs ys from p i q o e a b l =
    let c : AdmittedFrom s ws node from (Some i) = subst (AdmittedFrom s ws node from) e a in
    lining_more s ws node start (many s header_impls) us vs ys from p i q refl c.impl c.next b l

pub lining_over : (s ws : Words) (node start : ℕ) (us vs : Words) (from p : ℕ) (o : Option ℕ) → o ≡ None → AdmittedFrom s ws node from o → Lining s ws node start us vs from p → PutsImpls s ws node start us vs p
lining_over s ws node start us vs from p o e a l =
    let c : AdmittedFrom s ws node from None = subst (AdmittedFrom s ws node from) e a in
    lining_done s ws node start (many s header_impls) us vs from p (max from (many s header_impls)) refl (omega arith) c.next l

pub impl_there : (s ws : Words) (node from i : ℕ) (o : Option ℕ) → o ≡ Some i → AdmittedFrom s ws node from o → (from ≤ i) × (i < many s header_impls)
impl_there s ws node from i o e a =
    let c : AdmittedFrom s ws node from (Some i) = subst (AdmittedFrom s ws node from) e a in
    (c.next.up, c.impl)

pub impl_low : (s : Words) (n i : ℕ) → n ≡ many s header_impls → many s header_impls ≤ 128 → i < n → i < 128
impl_low s n i e l h = omega (arith, e)

-- So many bytes of a buffer are the line of definition d.
pub record Line (s : Words) (d : ℕ) (us : Words) (r : ℕ) : Type 0 where
  pub line : take r us ≡ line_text (d, general_candidates s d)

standing : (s : Words) (d : ℕ) (ws : Words) → Checked s → d < many s header_definitions → Candidates s d ws → Standing s d ws ((3 * d + 2) ∷ [])
unfolding node_count
standing s d ws c h k = record { checked = c; source = h; sets = k; nodes_in = λ n i. ⊎_elim (λ e. omega (arith, e)) (λ j. absurd (in_empty j)) (in_cases i) }

pub line_done : (s : Words) (d a b e r : ℕ) (ws w₀ w₁ w₂ w₃ w₄ : Words) → Checked s → d < many s header_definitions → Candidates s d ws → Puts (decimal d) 0 w₀ w₁ a → Puts (58 ∷ []) a w₁ w₂ b → PutsImpls s ws (3 * d + 2) b w₂ w₃ e → Puts (10 ∷ []) e w₃ w₄ r
    → Line s d w₄ r
unfolding line_text general_candidates entries
line_done s d a b e r ws w₀ w₁ w₂ w₃ w₄ c h k p q i z =
    let is : Words = entries (admitted s d ((3 * d + 2) ∷ [])) in
    let x = puts_on (decimal d) (58 ∷ []) 0 a b w₀ w₁ w₂ p q in
    let y = puts_on (decimal d ++ (58 ∷ [])) is 0 b e w₀ w₂ w₃ x (i.impls d (standing s d ws c h k)) in
    record { line = (puts_on ((decimal d ++ (58 ∷ [])) ++ is) (10 ∷ []) 0 e r w₀ w₃ w₄ y z).text }

pub source_low : (s : Words) (d : ℕ) → Checked s → d < many s header_definitions → d < 128
source_low s d c h = omega (arith, (valid s (passed s c).values).definition_count)

pub impls_few : (s : Words) → Checked s → many s header_impls ≤ 128
impls_few s c = (valid s (passed s c).values).impl_count
