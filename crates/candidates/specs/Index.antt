-- The index of a chain in the workspace: at its base the count of the chain's records, then the place of each.
use Rattle.std.specs.Prelude.{ℕ, ◌+◌, ◌≤◌, ◌<◌, ◌≡◌, refl, Bool, true, false, ◌⊎◌, ltb, length, set}
use Rattle.std.proofs.Common.{sym, ◌∙◌, ap, subst, inl, inr, ⊎_elim, arith, get_or-set_same, get_or-set_other, lt-ltb, le-ltb, ltb-true, ltb-false}
use Rattle.std.proofs.Math.ListN.{get_or-eq_default}
use native.Mathlib.Nat.{ℕ_set}
use Rattle.rules.specs.Lists.{Words}
use Rattle.rules.specs.Layout.{header_definitions, header_traits, header_impls, header_imports}
use Rattle.rules.specs.ChainLaws.{chain_short}
use Rattle.rules.specs.Sheet.{at, chain, records, many, field, trait_def, inherent_params, import_def}
use Rattle.words.specs.Chain.{chain_within}
use Rattle.chart.specs.Index as Index
use Rattle.candidates.specs.Layout.{rows_end, index_definitions, index_impls, index_traits, index_imports, candidates_length}

-- Outside the words that may be written.
abbrev pub Outside : ℕ → ℕ → ℕ → Type 0
Outside base n p = (p < base) ⊎ (base + n ≤ p)

-- All places of a chain are written, r of them.
pub record Places (s : Words) (head base : ℕ) (ws us : Words) (r : ℕ) : Type 0 where
  pub count : r ≡ length (chain s head)
  pub places : (j : ℕ) → j < length (chain s head) → at us (base + j) ≡ at (chain s head) j
  pub others : (p : ℕ) → Outside base (length s) p → at us p ≡ at ws p

-- An index of the chain holds them.
pub indexed_places : (s : Words) (head base : ℕ) (ws us : Words) (r : ℕ) → Index.Indexed s head ws us base r → Places s head base ws us r
indexed_places s head base ws us r x = record {
  count = x.count;
  places = λ j h. x.place j (omega (arith, x.count));
  others = λ p o. ⊎_elim (λ a. x.below p a) (λ a. x.above p (omega (arith, x.count, chain_within s head))) o;
}

-- The index of the chain that header word h heads stands at a base.
pub record Indexed (s : Words) (h base : ℕ) (ws : Words) : Type 0 where
  pub count : at ws base ≡ many s h
  pub places : (id : ℕ) → id < many s h → at ws (base + (id + 1)) ≡ at (records s h) id

-- It was written, and nothing else.
pub record Indexing (s : Words) (h base : ℕ) (ws us : Words) : Type 0 where
  pub indexed : Indexed s h base us
  pub others : (p : ℕ) → Outside base (1 + length s) p → at us p ≡ at ws p

pub count_fits : (s : Words) (head base r : ℕ) (ws us : Words) → length s ≤ 4096 → Places s head base ws us r → r ≤ 4096
count_fits s head base r ws us h p = omega (arith, p.count, chain_short s head)

pub indexing_done : (s : Words) (h head base r : ℕ) (ws us : Words) → head ≡ at s h → base < length us → Places s head (base + 1) ws us r → Indexing s h base ws (set us base r)
unfolding many records
indexing_done s h head base r ws us e l p = record {
  indexed = record {
    count = get_or-set_same us base r 0 l ∙ p.count ∙ ap (λ i. length (chain s i)) e;
    places = λ id k.
        get_or-set_other us base (base + (id + 1)) r 0 (λ q. omega (arith, q)) ∙ ap (at us) (let z : base + (id + 1) ≡ base + 1 + id = omega arith in z)
        ∙ p.places id (subst (λ i. id < length (chain s i)) (sym e) k) ∙ ap (λ i. at (chain s i) id) e;
  };
  others = λ q o. get_or-set_other us base q r 0 (λ z. ⊎_elim (λ a. omega (arith, a, z)) (λ a. omega (arith, a, z)) o) ∙ p.others q (⊎_elim (λ a. inl (omega (arith, a))) (λ a. inr (omega (arith, a))) o);
}

-- The place of record id by the index at a base.
unfoldable pub looked : Words → ℕ → ℕ → ℕ
looked ws base id = elim (ltb id (at ws base)) [ true ↦ at ws (base + (id + 1)) | false ↦ 0 ]

pub look_in : (ws : Words) (base id r q w v : ℕ) → w ≡ at ws base → v ≡ w → id < v → q ≡ at ws (base + (id + 1)) → r ≡ q → r ≡ looked ws base id
unfolding looked
look_in ws base id r q w v e f h d g = rw (lt-ltb id (at ws base) (omega arith), looked) (g ∙ d)

pub look_past : (ws : Words) (base id w v : ℕ) → w ≡ at ws base → v ≡ w → v ≤ id → 0 ≡ looked ws base id
unfolding looked
look_past ws base id w v e f h = rw (le-ltb id (at ws base) (omega arith), looked) refl

-- It is the place that the rules say.
pub looked_is : (s : Words) (h base : ℕ) (ws : Words) (id : ℕ) → Indexed s h base ws → looked ws base id ≡ at (records s h) id
unfolding looked many
looked_is s h base ws id x = go (ltb id (at ws base)) refl
  where
    go : (b : Bool) → ltb id (at ws base) ≡ b → looked ws base id ≡ at (records s h) id
    go true e = rw (e, looked) (x.places id (omega (arith, ltb-true id (at ws base) e, x.count)))
    go false e = rw (e, looked) (sym (get_or-eq_default (records s h) 0 {n = id} (omega (arith, ltb-false id (at ws base) e, x.count))))

-- The four indexes stand in the workspace.
pub record Indexes (s ws : Words) : Type 0 where
  pub definitions : Indexed s header_definitions index_definitions ws
  pub impls : Indexed s header_impls index_impls ws
  pub traits : Indexed s header_traits index_traits ws
  pub imports : Indexed s header_imports index_imports ws

-- At most one proof of it.
indexed_prop : (s : Words) (h base : ℕ) (ws : Words) → IsProp (Indexed s h base ws)
indexed_prop s h base ws a b = λ i. record { count = ℕ_set _ _ a.count b.count i; places = λ j m. ℕ_set _ _ (a.places j m) (b.places j m) i }

pub indexes_prop : (s ws : Words) → IsProp (Indexes s ws)
indexes_prop s ws a b = λ i. record {
  definitions = indexed_prop s _ _ ws a.definitions b.definitions i;
  impls = indexed_prop s _ _ ws a.impls b.impls i;
  traits = indexed_prop s _ _ ws a.traits b.traits i;
  imports = indexed_prop s _ _ ws a.imports b.imports i;
}

-- They were written, and nothing below them.
pub record IndexedAll (s ws us : Words) : Type 0 where
  pub indexes : Indexes s us
  pub others : (p : ℕ) → p < rows_end → at us p ≡ at ws p

indexed_keep : (s : Words) (h base : ℕ) (us vs : Words) → length s ≤ 4096 → ((p : ℕ) → base ≤ p → p < base + 4097 → at vs p ≡ at us p) → Indexed s h base us → Indexed s h base vs
unfolding many records
indexed_keep s h base us vs l same x = record {
  count = same base (omega arith) (omega arith) ∙ x.count;
  places = λ id k. same (base + (id + 1)) (omega arith) (omega (arith, chain_short s (at s h))) ∙ x.places id k;
}

-- They stand as long as their words do.
pub indexes_same : (s us vs : Words) → length s ≤ 4096 → ((p : ℕ) → rows_end ≤ p → p < candidates_length → at vs p ≡ at us p) → Indexes s us → Indexes s vs
indexes_same s us vs l same x = record {
  definitions = indexed_keep s _ _ us vs l (λ p h k. same p h (omega arith)) x.definitions;
  impls = indexed_keep s _ _ us vs l (λ p h k. same p (omega arith) (omega arith)) x.impls;
  traits = indexed_keep s _ _ us vs l (λ p h k. same p (omega arith) (omega arith)) x.traits;
  imports = indexed_keep s _ _ us vs l (λ p h k. same p (omega arith) k) x.imports;
}

pub indexes_keep : (s us vs : Words) → length s ≤ 4096 → ((p : ℕ) → rows_end ≤ p → at vs p ≡ at us p) → Indexes s us → Indexes s vs
indexes_keep s us vs l same x = indexes_same s us vs l (λ p h k. same p h) x

pub indexed-all : (s w₀ w₁ w₂ w₃ w₄ : Words) → length s ≤ 4096 → Indexing s header_definitions index_definitions w₀ w₁ → Indexing s header_impls index_impls w₁ w₂ → Indexing s header_traits index_traits w₂ w₃ → Indexing s header_imports index_imports w₃ w₄
    → IndexedAll s w₀ w₄
indexed-all s w₀ w₁ w₂ w₃ w₄ l a b c d = record {
  indexes = record {
    definitions = indexed_keep s header_definitions index_definitions w₁ w₄ l (λ p h k. d.others p (inl (omega arith)) ∙ c.others p (inl (omega arith)) ∙ b.others p (inl (omega arith))) a.indexed;
    impls = indexed_keep s header_impls index_impls w₂ w₄ l (λ p h k. d.others p (inl (omega arith)) ∙ c.others p (inl (omega arith))) b.indexed;
    traits = indexed_keep s header_traits index_traits w₃ w₄ l (λ p h k. d.others p (inl (omega arith))) c.indexed;
    imports = d.indexed;
  };
  others = λ p h. d.others p (inl (omega arith)) ∙ c.others p (inl (omega arith)) ∙ b.others p (inl (omega arith)) ∙ a.others p (inl h);
}

field_is : (s : Words) (h base : ℕ) (ws : Words) (id k p r : ℕ) → Indexed s h base ws → p ≡ looked ws base id → r ≡ at s (p + k) → r ≡ field s h id k
unfolding field
field_is s h base ws id k p r x e f = f ∙ ap (λ q. at s (q + k)) (e ∙ looked_is s h base ws id x)

pub definition_is : (s ws : Words) (id k p r : ℕ) → Indexes s ws → p ≡ looked ws index_definitions id → r ≡ at s (p + k) → r ≡ field s header_definitions id k
definition_is s ws id k p r x = field_is s header_definitions index_definitions ws id k p r x.definitions

pub impl_word_is : (s ws : Words) (id k p r : ℕ) → Indexes s ws → p ≡ looked ws index_impls id → r ≡ at s (p + k) → r ≡ field s header_impls id k
impl_word_is s ws id k p r x = field_is s header_impls index_impls ws id k p r x.impls

pub trait_def_is : (s ws : Words) (id p r : ℕ) → Indexes s ws → p ≡ looked ws index_traits id → r ≡ at s (p + 1) → r ≡ trait_def s id
unfolding trait_def
trait_def_is s ws id p r x = field_is s header_traits index_traits ws id 1 p r x.traits

pub inherent_is : (s ws : Words) (id p r : ℕ) → Indexes s ws → p ≡ looked ws index_traits id → r ≡ at s (p + 3) → r ≡ inherent_params s id
unfolding inherent_params
inherent_is s ws id p r x = field_is s header_traits index_traits ws id 3 p r x.traits

pub definitions_are : (s ws : Words) (r : ℕ) → Indexes s ws → r ≡ at ws index_definitions → r ≡ many s header_definitions
definitions_are s ws r x e = e ∙ x.definitions.count

pub impls_are : (s ws : Words) (r : ℕ) → Indexes s ws → r ≡ at ws index_impls → r ≡ many s header_impls
impls_are s ws r x e = e ∙ x.impls.count

pub import_def_is : (s ws : Words) (id p r : ℕ) → Indexes s ws → p ≡ looked ws index_imports id → r ≡ at s (p + 1) → r ≡ import_def s id
unfolding import_def
import_def_is s ws id p r x = field_is s header_imports index_imports ws id 1 p r x.imports
