-- Laws of members and of ancestors, as the code that reads them asks for them.
use Prim.Native.Nat.{ℕ, zero, suc, ◌+◌, ◌-◌, ◌≤◌}
use Rattle.std.specs.Prelude.{◌≡◌, Bool, true, ◌≢◌, Option, Some, None, SomeIff}
use Rattle.std.specs.Option.{option_to_list}
use Rattle.std.proofs.Math.Path.{refl, sym, ap}
use Rattle.std.proofs.Common.{◌∙◌}
use mathlib.Core.List.{[], ◌∷◌}
use Rattle.std.proofs.Math.Option.{none, some}
use native.Mathlib.Omega.{arith}
use Rattle.rules.specs.Lists.{Words, optional, optional_list, is_in}
use Rattle.rules.specs.Layout.{header_definitions, header_imports, definition_parent, import_definition, member_import, member_id}
use Rattle.rules.specs.Sheet.{at, field, many, parent, import_def}
use Rattle.rules.specs.Candidates.{get_member, ancestors_of, ancestors, visible}
use borrow.Author.Tests.{eq-eqb, ne_eqb}

-- "?" as an option, and as a list of none or one.
optional_some : (w : ℕ) (o : Option ℕ) → SomeIff o (1 ≤ w) (w - 1) → optional_list w ≡ option_to_list o
unfolding optional_list
optional_some zero None h = refl
optional_some zero (Some d) h = absurd (omega arith)
optional_some (suc w) None h = absurd (h (omega arith))
optional_some (suc w) (Some d) h = ap (λ x. x ∷ []) (let q : w ≡ d = omega arith in q)

-- A member is a child, or an import, which names a definition where it is resolved.
pub child_member : (s : Words) (m w id : ℕ) → id ≡ at s (m + member_id) → w ≡ at s (m + member_import) → w ≡ 0 → get_member s m ≡ option_to_list (Some id)
unfolding get_member
child_member s m w id e f z = rw (eq-eqb (at s (m + member_import)) 0 (sym f ∙ z), get_member) (ap (λ x. x ∷ []) (sym e))

-- An import names what it is resolved to.
pub import_member : (s : Words) (m w id r : ℕ) (o : Option ℕ) → id ≡ at s (m + member_id) → w ≡ at s (m + member_import) → w ≢ 0 → r ≡ field s header_imports id import_definition → SomeIff o (1 ≤ r) (r - 1) → get_member s m ≡ option_to_list o
unfolding get_member import_def
import_member s m w id r o e f z g h =
    rw (ne_eqb (at s (m + member_import)) 0 (λ q. z (f ∙ q)), get_member) (ap optional_list (ap (λ x. field s header_imports x import_definition) (sym e) ∙ sym g) ∙ optional_some r o h)

-- The ancestors from a definition upwards, where there is one: so many at most.
unfoldable pub upward : ℕ → Words → Option ℕ → Words
upward k s None = []
upward k s (Some d) = ancestors_of k s d

-- They are all of the first one's.
pub upward_from : (s : Words) (src n : ℕ) → n ≡ many s header_definitions → upward n s (Some src) ≡ ancestors s src
unfolding ancestors upward
upward_from s src n e = ap (λ k. ancestors_of k s src) e

-- No more are to come: so many were passed as there are definitions,
pub upward_spent : (s : Words) (left : ℕ) (o : Option ℕ) → left ≡ 0 → upward left s o ≡ []
unfolding upward ancestors_of
upward_spent s left None e = refl
upward_spent s left (Some d) e = ap (λ n. ancestors_of n s d) e

-- or the last has no parent.
pub upward_top : (s : Words) (left : ℕ) (o : Option ℕ) → o ≡ None → upward left s o ≡ []
unfolding upward
upward_top s left o e = ap (upward left s) e

-- A definition comes before its parent.
pub upward_on : (s : Words) (left d p : ℕ) (o r : Option ℕ) → left ≢ 0 → o ≡ Some d → p ≡ field s header_definitions d definition_parent → SomeIff r (1 ≤ p) (p - 1) → upward left s o ≡ d ∷ upward (left - 1) s r
unfolding upward ancestors_of parent optional
upward_on s zero d p o r n e f h = absurd (n refl)
upward_on s (suc left) d p o r n e f h = ap (upward (suc left) s) e ∙ ap (λ x. d ∷ elim (optional x) as (λ o. Words) [ none ↦ [] | some q ↦ ancestors_of left s q ]) (sym f) ∙ ap (λ l. d ∷ l) (go p r h)
  where
    go : (p : ℕ) (r : Option ℕ) → SomeIff r (1 ≤ p) (p - 1) → elim (optional p) as (λ o. Words) [ none ↦ [] | some q ↦ ancestors_of left s q ] ≡ upward (suc left - 1) s r
    go zero None h = refl
    go zero (Some d) h = absurd (omega arith)
    go (suc p) None h = absurd (h (omega arith))
    go (suc p) (Some d) h = λ t. ancestors_of ((let z : left ≡ suc left - 1 = omega arith in z) t) s ((let q : p ≡ d = omega arith in q) t)

-- A vis lets in everyone, or those whose ancestor it names.
pub visible_all : (anc : Words) (vis : ℕ) → vis ≡ 0 → true ≡ visible anc vis
unfolding visible optional
visible_all anc vis e = sym (ap (visible anc) e)

-- It names a definition.
pub visible_in : (anc : Words) (vis : ℕ) (r : Bool) → vis ≢ 0 → r ≡ is_in (vis - 1) anc → r ≡ visible anc vis
unfolding visible optional
visible_in anc zero r h e = absurd (h refl)
visible_in anc (suc d) r h e = e ∙ ap (λ k. is_in k anc) (let q : suc d - 1 ≡ d = omega arith in q)
