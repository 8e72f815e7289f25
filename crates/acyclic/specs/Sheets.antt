-- The tables of a sheet and of a question: those that word k of a chain's records heads, what 8 and 12 promise of them, and what a check leaves of a buffer.
use Rattle.std.specs.Prelude.{ℕ, ◌+◌, ◌-◌, ◌≤◌, ◌<◌, ◌≡◌, Bool, ◌&&◌, T, [], ◌∷◌, length}
use Rattle.std.proofs.Math.Path.{sym, ap}
use Rattle.std.proofs.Common.{◌∙◌, subst, arith, get_or-take, get_or-drop}
use Rattle.std.proofs.Math.Bool.{true, false}
use borrow.Rule.Slice.PartMut.{put_mid, mid_of, mid_len, take_put, drop_put}
use Rattle.rules.specs.Lists.{Words, all}
use Rattle.rules.specs.Layout.{header_generics, header_impls, generics_table_word, impl_table_word, question_table}
use Rattle.rules.specs.Sheet.{at, chain, records}
use Rattle.rules.specs.Transfer.{table}
use Rattle.rules.specs.Values.{generics_ok, impl_ok, sheet_values, impl_question_values, flex_question_values}
use Rattle.rules.specs.Acyclic.{acyclic, sheet_acyclic, question_acyclic}
use Rattle.rules.specs.Members.{In, first, later, all_in}
use Rattle.rules.specs.CheckLaws.{part}
use Rattle.acyclic.specs.Nodes.{Inside, table_inside}

-- The tables that word k of some records heads: no type of any reaches itself.
unfoldable pub all_acyclic : Words → ℕ → Words → Bool
all_acyclic s k ps = all (λ p. acyclic (table s (at s (p + k)))) ps

-- Each cell of each of them names a node of its table.
pub record AllInside (s : Words) (k : ℕ) (ps : Words) : Type 0 where
  pub each : (p : ℕ) → In p ps → Inside s (at s (p + k))

-- On the way along the chain from head h: these records are left.
pub record Along (s : Words) (k h : ℕ) (left : Words) : Type 0 where
  pub inside : AllInside s k left
  pub same : all_acyclic s k left ≡ all_acyclic s k (chain s h)

pub along_start : (s : Words) (k h : ℕ) (left : Words) → left ≡ chain s h → AllInside s k (chain s h) → Along s k h left
along_start s k h left e i = record { inside = subst (AllInside s k) (sym e) i; same = ap (all_acyclic s k) e }

module _ (s : Words) (k h : ℕ) (left : Words) (a : Along s k h left) where
  pub along_end : left ≡ [] → true ≡ all_acyclic s k (chain s h)
  unfolding all_acyclic all
  along_end e = sym (ap (all_acyclic s k) e) ∙ a.same

  module _ (p t : ℕ) (more : Words) (q : left ≡ p ∷ more) (e : t ≡ at s (p + k)) where
    pub along_inside : Inside s t
    along_inside = subst (Inside s) (sym e) (a.inside.each p (subst (In p) (sym q) first))

    step : (r : Bool) → r ≡ acyclic (table s t) → elim r as (λ b. Bool) [ true ↦ all_acyclic s k more | false ↦ false ] ≡ all_acyclic s k (chain s h)
    unfolding all_acyclic all
    step r f = ap (λ b. elim b as (λ x. Bool) [ true ↦ all_acyclic s k more | false ↦ false ]) (f ∙ ap (λ x. acyclic (table s x)) e) ∙ sym (ap (all_acyclic s k) q) ∙ a.same

    pub along_on : (r : Bool) → r ≡ acyclic (table s t) → r ≡ true → Along s k h more
    along_on r f g = record { inside = record { each = λ x i. a.inside.each x (subst (In x) (sym q) (later i)) }; same = step true (sym g ∙ f) }

    pub along_cut : (r : Bool) → r ≡ acyclic (table s t) → r ≡ false → false ≡ all_acyclic s k (chain s h)
    along_cut r f g = step false (sym g ∙ f)

-- What 8 promises of a sheet's tables: those of the generics, and those of the impls.
pub generics_inside : (s : Words) (h : ℕ) → T (sheet_values s) → h ≡ at s header_generics → AllInside s generics_table_word (chain s h)
unfolding sheet_values generics_ok records
generics_inside s h t e = record { each = λ p i. table_inside s s _ (at s (p + generics_table_word)) (part _ (all_in (generics_ok s) (records s header_generics) (part _ t 8) p (subst (λ x. In p (chain s x)) e i)) 1) }

pub impls_inside : (s : Words) (h : ℕ) → T (sheet_values s) → h ≡ at s header_impls → AllInside s impl_table_word (chain s h)
unfolding sheet_values impl_ok records
impls_inside s h t e = record { each = λ p i. table_inside s s _ (at s (p + impl_table_word)) (part _ (all_in (impl_ok s) (records s header_impls) (part _ t 10) p (subst (λ x. In p (chain s x)) e i)) 2) }

-- What 12 promises of a question's table.
pub impl_question_inside : (s : Words) (g : ℕ) (q : Words) → T (impl_question_values s g q) → Inside q (at q question_table)
unfolding impl_question_values
impl_question_inside s g q t = table_inside s q _ (at q question_table) (part _ t 0)

pub flex_question_inside : (s : Words) (g : ℕ) (q : Words) → T (flex_question_values s g q) → Inside q (at q question_table)
unfolding flex_question_values
flex_question_inside s g q t = table_inside s q _ (at q question_table) (part _ t 0)

-- 9: the generics' tables, then the impls'.
module _ (s : Words) (h : ℕ) (r : Bool) (e : h ≡ at s header_generics) (f : r ≡ all_acyclic s generics_table_word (chain s h)) where
  pub generics_cyclic : r ≡ false → false ≡ sheet_acyclic s
  unfolding sheet_acyclic all_acyclic records
  generics_cyclic g = ap (λ b. b && all_acyclic s impl_table_word (records s header_impls)) (sym g ∙ f ∙ ap (λ x. all_acyclic s generics_table_word (chain s x)) e)

  pub sheet_both : (i : ℕ) (q : Bool) → r ≡ true → i ≡ at s header_impls → q ≡ all_acyclic s impl_table_word (chain s i) → q ≡ sheet_acyclic s
  unfolding sheet_acyclic all_acyclic records
  sheet_both i q g j k = k ∙ ap (λ x. all_acyclic s impl_table_word (chain s x)) j ∙ ap (λ b. b && all_acyclic s impl_table_word (records s header_impls)) (sym g ∙ f ∙ ap (λ x. all_acyclic s generics_table_word (chain s x)) e)

-- 13: the question's table.
pub question_inside : (q : Words) (h : ℕ) → Inside q (at q question_table) → h ≡ at q question_table → Inside q h
question_inside q h i e = subst (Inside q) (sym e) i

pub question_table_lem : (q : Words) (h : ℕ) (r : Bool) → h ≡ at q question_table → r ≡ acyclic (table q h) → r ≡ question_acyclic q
unfolding question_acyclic
question_table_lem q h r e f = f ∙ ap (λ x. acyclic (table q x)) e

-- Of a buffer at most the words from b on, len of them, are changed.
pub record Outside (b len : ℕ) (ws out : Words) : Type 0 where
  pub low : (i : ℕ) → i < b → at out i ≡ at ws i
  pub high : (i : ℕ) → b + len ≤ i → at out i ≡ at ws i

-- They were lent and came back.
pub lent_outside : (b len e : ℕ) (ws us : Words) → b + len ≤ length ws → e ≡ b + len → length us ≡ length (mid_of b (e - b) ws) → Outside b len ws (put_mid b (e - b) ws us)
lent_outside b len e ws us l q k = record {
  low = λ i m. sym (get_or-take b (put_mid b (e - b) ws us) i 0 m) ∙ ap (λ (xs : Words). at xs i) (take_put b (e - b) ws us (omega arith)) ∙ get_or-take b ws i 0 m;
  high = λ i m.
      let z : e + (i - e) ≡ i = omega arith in
      ap (at (put_mid b (e - b) ws us)) (sym z) ∙ sym (get_or-drop e (put_mid b (e - b) ws us) (i - e) 0)
      ∙ ap (λ (xs : Words). at xs (i - e)) (drop_put b e ws us (omega arith) (omega arith) (k ∙ mid_len b e ws (omega arith)))
      ∙ get_or-drop e ws (i - e) 0 ∙ ap (at ws) z;
}
