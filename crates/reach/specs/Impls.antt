-- The signatures of all impls of a checked sheet.
use Rattle.std.specs.Prelude.{[], ◌∷◌, ℕ, ◌+◌, ◌*◌, ◌≤◌, ◌<◌, ◌≡◌, refl, ◌≢◌, length, set}
use Rattle.std.proofs.Common.{sym, ◌∙◌, ⊎_elim, eq-or-lt_of_le, arith, get_or-set_same, get_or-set_other}
use Rattle.std.proofs.Math.Path.{ap, subst}
use Rattle.std.proofs.Math.Bool.{true}
use Rattle.std.proofs.Math.Option.{some}
use Rattle.rules.specs.Lists.{Words}
use Rattle.rules.specs.Layout.{header_generics, header_impls, impl_table_word}
use Rattle.rules.specs.Sheet.{at, chain, records, many, field, type_params, impl_generics, impl_table, impl_args}
use Rattle.rules.specs.Transfer.{import_impl_type}
use Rattle.rules.specs.Search.{Finder, impl_signature, fresh_params, with_fresh}
use Rattle.rules.specs.CheckedTables.{Ready}
use Rattle.rules.specs.Neat.{impl_generics_in, signature_neat, signature_in, fresh-length}
use Rattle.rules.specs.SearchKeeps.{fresh_count}
use Rattle.rules.specs.CommonTerms.{fresh-most}
use Rattle.queries.specs.Sizes.{impl_few}
use Rattle.queries.specs.Takes.{SignatureTakes}
use Rattle.reach.specs.Counts.{Bounds, Counts}
use Rattle.reach.specs.Steps.{Stepping, step_start, step_end, step_inside, step_here, step_on}

-- The sheet of a call with generics g that passed its checks.
pub record Called (s : Words) (g : ℕ) : Type 0 where
  pub source : ℕ
  pub question : Words
  pub ready : Ready (record { sheet = s; source = source; generics = g }) question

-- The same, whatever its generics.
pub record Checked (s : Words) : Type 0 where
  pub generics : ℕ
  pub called : Called s generics

pub checked_short : (s : Words) → Checked s → length s ≤ 4096
checked_short s k = k.called.ready.short

-- Word g is the place of the record of generics g.
pub record Generics (s gs : Words) : Type 0 where
  pub place : (g : ℕ) → g < many s header_generics → at gs g ≡ at (records s header_generics) g

-- The count of type parameters of the impl whose record is at p.
abbrev pub params_at : Words → Words → ℕ → ℕ
params_at s gs p = at s (at gs (at s (p + 1)) + 1)

pub params_read : (s gs : Words) (p g v a r : ℕ) → g ≡ at s (p + 1) → v ≡ g → a ≡ at gs v → r ≡ at s (a + 1) → r ≡ params_at s gs p
params_read s gs p g v a r eg ev ea er = er ∙ ap (λ x. at s (x + 1)) (ea ∙ ap (at gs) (ev ∙ eg))

-- The head of its table, where the records of that fit into the sheet.
pub head_few : (s : Words) (p head : ℕ) → 5 * length (chain s (at s (p + 4))) ≤ length s → head ≡ at s (p + 4) → 5 * length (chain s head) ≤ length s
head_few s p head h e = subst (λ x. 5 * length (chain s x) ≤ length s) (sym e) h

-- Word i is written, for the impl whose record is at p.
pub record PutsSignature (s gs : Words) (p i : ℕ) (ws us : Words) : Type 0 where
  pub nodes : ℕ
  pub bounds : Bounds s (at s (p + 4)) (at s (p + 5)) true nodes
  pub is : at us i ≡ nodes + params_at s gs p
  pub other : (j : ℕ) → j ≢ i → at us j ≡ at ws j

pub puts_signature : (s gs : Words) (p i : ℕ) (ws : Words) (head args n m : ℕ) → i < length ws → head ≡ at s (p + 4) → args ≡ at s (p + 5) → Counts s head args true n → m ≡ params_at s gs p → PutsSignature s gs p i ws (set ws i (n + m))
puts_signature s gs p i ws head args n m l eh ea c em = record {
  nodes = n;
  bounds = subst (λ a. Bounds s (at s (p + 4)) a true n) ea (subst (λ h. Bounds s h args true n) eh c.bounds);
  is = get_or-set_same ws i (n + m) 0 l ∙ ap (λ k. n + k) em;
  other = λ j d. get_or-set_other ws i j (n + m) 0 d;
}

-- The words of all impls are written.
pub record Signatures (s ts : Words) : Type 0 where
  pub each : (i : ℕ) → i < many s header_impls → SignatureTakes s i (at ts i)

-- Those of the first i are, and the records at ps are left.
pub record Signing (s ts : Words) (i : ℕ) (ps : Words) : Type 0 where
  pub steps : Stepping s (at s 4) i ps
  pub done : (j : ℕ) → j < i → SignatureTakes s j (at ts j)

pub signing_start : (s ts : Words) (h n : ℕ) (ps : Words) → h ≡ at s 4 → n ≡ 0 → ps ≡ chain s h → Signing s ts n ps
signing_start s ts h n ps eh en e = subst (λ x. Signing s ts x ps) (sym en) record { steps = step_start s (at s 4) ps (e ∙ ap (chain s) eh); done = λ j h. absurd (omega arith) }

module _ (s ts : Words) (i : ℕ) (ps : Words) (t : Signing s ts i ps) where
  pub signing_end : ps ≡ [] → Signatures s ts
  unfolding many records
  signing_end e = record { each = λ j h. t.done j (omega (arith, step_end s (at s 4) i ps t.steps e)) }

  module _ (k : Checked s) (p : ℕ) (qs : Words) (e : ps ≡ p ∷ qs) where
    abbrev finder : Finder
    finder = record { sheet = s; source = k.called.source; generics = k.generics }

    abbrev ready : Ready finder k.called.question
    ready = k.called.ready

    inside : i < many s header_impls
    unfolding many records
    inside = step_inside s (at s 4) i ps t.steps p qs e

    word : (n : ℕ) → at s (p + n) ≡ field s header_impls i n
    unfolding field records
    word n = ap (λ x. at s (x + n)) (step_here s (at s 4) i ps t.steps p qs e)

    pub signing_few : 5 * length (chain s (at s (p + 4))) ≤ length s
    signing_few = subst (λ h. 5 * length (chain s h) ≤ length s) (sym (word 4)) (impl_few s ready.chains i inside)

    pub signing_index : (ws : Words) (j : ℕ) → j ≡ i → 132 ≤ length ws → length ts ≡ length ws → j < length ts
    signing_index ws j o h q = omega (arith, inside, ready.values.impl_count)

    module _ (gs : Words) (g : Generics s gs) where
      params_are : params_at s gs p ≡ fresh_count s i
      unfolding type_params impl_generics field
      params_are = ap (λ x. at s (x + 1)) (ap (at gs) (word 1) ∙ g.place (impl_generics s i) (impl_generics_in finder k.called.question ready i inside))

      pub signing_params : params_at s gs p ≤ 8
      signing_params = omega (arith, params_are, fresh-most finder k.called.question ready i inside)

      takes : (n : ℕ) → Bounds s (at s (p + 4)) (at s (p + 5)) true n → SignatureTakes s i (n + params_at s gs p)
      unfolding import_impl_type impl_signature impl_table impl_args
      takes n b =
          let c : Bounds s (field s header_impls i impl_table_word) (at s (p + 5)) true n = subst (λ h. Bounds s h (at s (p + 5)) true n) (word 4) b in
          let d : Bounds s (impl_table s i) (impl_args s i) true n = subst (λ h. Bounds s (impl_table s i) h true n) (word 5) c in
          let m = d (signature_neat finder k.called.question ready i inside).proper.formed (signature_in finder k.called.question ready i inside) in
          record { most = λ us. omega (arith, m.most (some (fresh_params us (fresh_count s i))) (λ e. (fresh_params us (fresh_count s i), refl)) (with_fresh us (fresh_count s i)), fresh-length us (fresh_count s i), params_are) }

      signing_next : (us : Words) → PutsSignature s gs p i ts us → Signing s us (i + 1) qs
      signing_next us w = record {
        steps = step_on s (at s 4) i ps t.steps p qs e;
        done = λ j h. ⊎_elim
            (λ q. subst (λ x. SignatureTakes s x (at us x)) (sym q) (subst (SignatureTakes s i) (sym w.is) (takes w.nodes w.bounds)))
            (λ q. subst (SignatureTakes s j) (sym (w.other j (λ o. absurd (omega arith)))) (t.done j q))
            (eq-or-lt_of_le (let o : j ≤ i = omega arith in o));
      }

      pub signing_on : (us : Words) (j n : ℕ) → j ≡ i → n ≡ i + 1 → PutsSignature s gs p j ts us → Signing s us n qs
      signing_on us j n ej en v = subst (λ x. Signing s us x qs) (sym en) (signing_next us (subst (λ x. PutsSignature s gs p x ts us) ej v))
