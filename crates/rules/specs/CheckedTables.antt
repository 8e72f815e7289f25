-- The tables of a call that no check refused are well formed and acyclic, as Robinson's theorem wants them: the question's, and those of the sheet's generics and impls.
use Rattle.std.specs.Prelude.{ℕ, zero, suc, ◌+◌, ◌≤◌, ◌<◌, ◌≡◌, Bool, List, [], ◌∷◌, map, ◌↔◌, ltb, length, get_or}
use Rattle.std.proofs.Math.Path.{refl, ap, subst}
use Rattle.std.proofs.Common.{sym, ◌∙◌, le_of_suc-le-suc, not-suc-le-zero, zero-add, add-zero, add-suc, suc-add, ltb→lt}
use Rattle.std.proofs.Math.Bool.{true, false}
use Rattle.std.proofs.Math.Dec.{T, eqb}
use Rattle.rules.specs.Lists.{Words, all}
use Rattle.rules.specs.Limits.{limit_sheet}
use Rattle.rules.specs.Layout.{header_edition, header_definitions, header_generics, header_impls, edition_1, generics_type_params, generics_table_word, impl_generics_word, impl_table_word, node_kind, node_children, question_table, kind_unknown}
use Rattle.rules.specs.Sheet.{at, chain, records, field, type_params, generics_table, impl_table, many}
use Rattle.rules.specs.Types.{Ty, TypeState, unknown, TypeNode, new_node, node_at, state_at}
use Rattle.rules.specs.Transfer.{cell_types, node_state, new_nodes, table}
use Rattle.rules.specs.Solutions.{rep, AllIn, ChildrenIn, WellFormed, Readable}
use Rattle.rules.specs.Search.{Finder}
use Rattle.rules.specs.Chains.{sheet_keeps}
use Rattle.rules.specs.Values.{in_table, node_fits, node_ok, table_ok, generics_ok, impl_ok}
use Rattle.rules.specs.Acyclic.{acyclic, sheet_acyclic}
use Rattle.rules.specs.AcyclicLaws.{Down, all_at, map-length}
use Rattle.rules.specs.NoCycles.{acyclic_iff}
use Rattle.rules.specs.Readings.{Acyclic, readable_ranked, flat_inside, flat_readable}
use Rattle.rules.specs.CheckLaws.{part, both}
use Rattle.rules.specs.CheckedSheet.{Valid}

pub new_nodes-length : (i : ℕ) (sts : List TypeState) → length (new_nodes i sts) ≡ length sts
unfolding new_nodes
new_nodes-length i [] = refl
new_nodes-length i (st ∷ sts) = ap suc (new_nodes-length (suc i) sts)

pub new_nodes_at : (i : ℕ) (sts : List TypeState) (n : ℕ) → n < length sts → node_at (new_nodes i sts) n ≡ new_node (i + n) (get_or sts n unknown)
unfolding new_nodes node_at
new_nodes_at i [] n h = absurd (not-suc-le-zero h)
new_nodes_at i (st ∷ sts) zero h = ap (λ k. new_node k st) (sym (add-zero i))
new_nodes_at i (st ∷ sts) (suc n) h = new_nodes_at (suc i) sts n (le_of_suc-le-suc h) ∙ ap (λ k. new_node k (get_or sts n unknown)) (suc-add i n ∙ sym (add-suc i n))

map_at : (f : ℕ → TypeState) (l : Words) (n : ℕ) → n < length l → get_or (map f l) n unknown ≡ f (get_or l n 0)
map_at f [] n h = absurd (not-suc-le-zero h)
map_at f (x ∷ l) zero h = refl
map_at f (x ∷ l) (suc n) h = map_at f l n (le_of_suc-le-suc h)

all_in : (N : ℕ) (cs : List Ty) → T (in_table N cs) → AllIn N cs
unfolding all
all_in N [] t = tt
all_in N (c ∷ cs) t = go (ltb c.1 N) refl t (all_in N cs)
  where
    go : (b : Bool) → ltb c.1 N ≡ b → T (in_table N (c ∷ cs)) → (T (in_table N cs) → AllIn N cs) → AllIn N (c ∷ cs)
    go true e u ih = (ltb→lt c.1 N (subst T (sym e) tt), ih (rw (e, all) at u))
    go false e u ih = absurd (rw (e, all) at u)

module _ (w : Words) (h : ℕ) where
  pub table_length_lem : length (table w h) ≡ length (chain w h)
  unfolding table
  table_length_lem = new_nodes-length 0 (map (node_state w) (chain w h)) ∙ map-length (node_state w) (chain w h)

  -- Node n of a table is record n of its chain, and its own root.
  pub table-node : (n : ℕ) → n < length (table w h) → node_at (table w h) n ≡ new_node n (node_state w (at (chain w h) n))
  unfolding table
  table-node n l =
      let k = subst (λ m. n < m) table_length_lem l in
      new_nodes_at 0 (map (node_state w) (chain w h)) n (subst (λ m. n < m) (sym (map-length (node_state w) (chain w h))) k)
      ∙ ap (λ m. new_node m (get_or (map (node_state w) (chain w h)) n unknown)) (zero-add n) ∙ ap (new_node n) (map_at (node_state w) (chain w h) n k)

  pub table_state : (n : ℕ) → n < length (table w h) → state_at (table w h) n ≡ node_state w (at (chain w h) n)
  unfolding state_at new_node
  table_state n l = ap (λ (nd : TypeNode). nd.state) (table-node n l)

  pub table-flat : (n : ℕ) → n < length (table w h) → rep (table w h) n ≡ n
  unfolding rep new_node
  table-flat n l = ap (λ (nd : TypeNode). nd.up.1) (table-node n l)

  -- 8 or 12 passed: the types of a table are nodes of it.
  pub table-formed : (s : Words) (params : ℕ) → T (table_ok s w params h) → WellFormed (table w h)
  unfolding table_ok node_ok node_fits node_state
  table-formed s params t n l = rw (table-flat n l) (l, table-flat n l, rw (table_state n l) (go (at (chain w h) n) (all_at (node_ok s w params (length (chain w h))) (chain w h) n 0 t (subst (λ m. n < m) table_length_lem l))))
    where
      go : (p : ℕ) → T (node_ok s w params (length (chain w h)) p) → ChildrenIn (length (table w h)) (node_state w p)
      go p u = at_kind (eqb (at w (p + node_kind)) kind_unknown) refl
        where
          at_kind : (b : Bool) → eqb (at w (p + node_kind)) kind_unknown ≡ b → ChildrenIn (length (table w h)) (node_state w p)
          at_kind true e = rw (e, node_state) tt
          at_kind false e = rw (e, node_state) (all_in _ _ (subst (λ m. T (in_table m (cell_types w (at w (p + node_children))))) (sym table_length_lem) (part _ u 6)))

  -- 9 and 13: a table that passed 8 (12) passes if and only if no type of it reaches itself.
  pub table_acyclic_iff : (s : Words) (params : ℕ) → T (table_ok s w params h) → T (acyclic (table w h)) ↔ ((n : ℕ) → Down (table w h) n n → ⊥)
  table_acyclic_iff s params t = acyclic_iff (table w h) (flat_inside (table w h) (table-formed s params t) table-flat)

  -- 8 and 9 (12 and 13) passed: the table reads as terms over its unknowns.
  pub table_readable : WellFormed (table w h) → T (acyclic (table w h)) → Readable (table w h)
  table_readable formed e = flat_readable (table w h) formed table-flat e

-- What a call that passed 1 and 6 to 13 promises.
pub record Ready (a : Finder) (q : Words) : Type 0 where
  pub short : length a.sheet ≤ limit_sheet
  pub edition : T (eqb (at a.sheet header_edition) edition_1)
  pub chains : T (sheet_keeps a.sheet)
  pub values : Valid a.sheet
  pub end : T (sheet_acyclic a.sheet)
  pub source : a.source < many a.sheet header_definitions
  pub generics : a.generics < many a.sheet header_generics
  pub typed : T (table_ok a.sheet q (type_params a.sheet a.generics) (at q question_table))
  pub asked : T (acyclic (table q (at q question_table)))

-- Its tables: the question's, and those of each generics and each impl.
module _ (a : Finder) (q : Words) (r : Ready a q) where
  pub question-formed : WellFormed (table q (at q question_table))
  question-formed = table-formed q (at q question_table) a.sheet _ r.typed

  pub question-free : Readable (table q (at q question_table))
  question-free = table_readable q (at q question_table) question-formed r.asked

  -- 9 passed: the tables of all generics, and of all impls.
  abbrev tables_end : T (all (λ p. acyclic (table a.sheet (at a.sheet (p + generics_table_word)))) (records a.sheet header_generics)) × T (all (λ p. acyclic (table a.sheet (at a.sheet (p + impl_table_word)))) (records a.sheet header_impls))
  unfolding sheet_acyclic
  tables_end = both (all (λ p. acyclic (table a.sheet (at a.sheet (p + generics_table_word)))) (records a.sheet header_generics)) (all (λ p. acyclic (table a.sheet (at a.sheet (p + impl_table_word)))) (records a.sheet header_impls)) r.end

  module _ (g : ℕ) (h : g < many a.sheet header_generics) where
    pub generics_formed : WellFormed (table a.sheet (field a.sheet header_generics g generics_table_word))
    unfolding generics_ok field
    generics_formed = table-formed a.sheet (field a.sheet header_generics g generics_table_word) a.sheet (at a.sheet (at (records a.sheet header_generics) g + generics_type_params)) (part _ (r.values.generics g h) 1)

    pub generics_free : Readable (table a.sheet (field a.sheet header_generics g generics_table_word))
    unfolding field many
    generics_free = table_readable a.sheet (field a.sheet header_generics g generics_table_word) generics_formed (all_at (λ p. acyclic (table a.sheet (at a.sheet (p + generics_table_word)))) (records a.sheet header_generics) g 0 tables_end.0 h)

  module _ (i : ℕ) (h : i < many a.sheet header_impls) where
    pub impl_formed : WellFormed (table a.sheet (field a.sheet header_impls i impl_table_word))
    unfolding impl_ok field
    impl_formed = table-formed a.sheet (field a.sheet header_impls i impl_table_word) a.sheet (type_params a.sheet (at a.sheet (at (records a.sheet header_impls) i + impl_generics_word))) (part _ (r.values.impls i h) 2)

    pub impl_free : Readable (table a.sheet (field a.sheet header_impls i impl_table_word))
    unfolding field many
    impl_free = table_readable a.sheet (field a.sheet header_impls i impl_table_word) impl_formed (all_at (λ p. acyclic (table a.sheet (at a.sheet (p + impl_table_word)))) (records a.sheet header_impls) i 0 tables_end.1 h)

-- The tables of a call: each is well formed and acyclic.
pub record CheckedTables (a : Finder) (q : Words) : Type 0 where
  pub question-formed : WellFormed (table q (at q question_table))
  pub question_acyclic : Acyclic (table q (at q question_table))
  pub generics_formed : (g : ℕ) → g < many a.sheet header_generics → WellFormed (table a.sheet (generics_table a.sheet g))
  pub generics_acyclic : (g : ℕ) → g < many a.sheet header_generics → Acyclic (table a.sheet (generics_table a.sheet g))
  pub impl_formed : (i : ℕ) → i < many a.sheet header_impls → WellFormed (table a.sheet (impl_table a.sheet i))
  pub impl_acyclic : (i : ℕ) → i < many a.sheet header_impls → Acyclic (table a.sheet (impl_table a.sheet i))

pub checked_tables : (a : Finder) (q : Words) → Ready a q → CheckedTables a q
unfolding generics_table impl_table
checked_tables a q r = record {
  question-formed = question-formed a q r;
  question_acyclic = readable_ranked _ (question-formed a q r) (question-free a q r);
  generics_formed = generics_formed a q r;
  generics_acyclic = λ g h. readable_ranked _ (generics_formed a q r g h) (generics_free a q r g h);
  impl_formed = impl_formed a q r;
  impl_acyclic = λ i h. readable_ranked _ (impl_formed a q r i h) (impl_free a q r i h);
}
