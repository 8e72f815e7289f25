-- 8 and 12 as they are read off the planes: tables, arguments, each kind of record, the records of a chain, the chains of the header.
use Prim.Native.Nat.{ℕ, suc, ◌+◌, ◌/◌, ◌≤◌}
use Rattle.std.specs.Prelude.{◌≡◌, refl, Bool, ◌&&◌, ◌||◌, List, [], ◌∷◌, ◌++◌, ◌≢◌, T, eqb}
use Rattle.std.specs.List.{list_all, range_with_len}
use Rattle.std.proofs.Math.Path.{sym, ap, subst}
use Rattle.std.proofs.Common.{◌∙◌, eqb→eq}
use Rattle.std.proofs.Math.Bool.{true, false}
use native.Mathlib.Omega.{arith}
use borrow.Author.Tests.{eq-eqb, ne_eqb, le-leb}
use Rattle.std.proofs.Math.Dec.{ltb, leb}
use Rattle.std.proofs.Math.ListN.{length}
use Rattle.rules.specs.Lists.{Words, all, holds, range}
use Rattle.rules.specs.Limits.{limit_definitions, limit_impls, limit_type_params, limit_impl_params, limit_arity}
use Rattle.rules.specs.Layout.{header_definitions, header_generics, header_traits, header_impls, header_opaques, header_structs, header_enums, header_unions, header_closures, header_imports, header_prelude, header_fork, header_drop, header_duplicate, header_erase, definition_parent, definition_trait_vis, definition_trait, definition_bindings, definition_named, definition_implicit, import_definition, generics_type_params, generics_table_word, generics_impl_params, impl_param_trait, impl_param_args, trait_definition, trait_arity_word, trait_inherent, impl_generics_word, impl_flags, impl_trait_word, impl_table_word, impl_args_word, flag_all, owner_definition, owner_self_dual, closure_flex, flex_both, node_children, question_table, question_trait, question_args, question_type, question_zero}
use Rattle.rules.specs.Sheet.{at, chain, records, many, field, type_params}
use Rattle.rules.specs.Members.{In, first, later, same_test}
use Rattle.rules.specs.Values.{is_id, is_optional, is_vis, arity, binding_ok, member_ok, table_ok, args_ok, definition_ok, definitions_ok, generics_ok, trait_ok, impl_ok, opaque_ok, struct_ok, closure_ok, import_ok, flex_trait_ok, sheet_values, impl_question_values, flex_question_values}
use Rattle.chart.specs.Tests.{all_listed}
use Rattle.values.specs.Folds.{Forward, chain_mark}
use Rattle.values.specs.NodeLaws.{word_most, all-bad, args_core, table-whole, args_whole, params-whole}
use Rattle.values.specs.Known.{Known}
use Rattle.values.specs.Tables.{plane_lengths, plane_bounds, plane_cores, plane_needs, plane_kids, plane_bindings, plane_members, plane_params, plane_args, Rows, Tables, Charted}
use Rattle.values.specs.Kept.{Kept, asked, flex_asked}
use Rattle.rules.specs.Chains.{impl_question_keeps, flex_question_keeps}

one-whole : (b : Bool) → holds (b ∷ []) ≡ b
unfolding holds
one-whole true = refl
one-whole false = refl

-- The last of some tests is all of some others.
append : (bs cs : List Bool) → holds (bs ++ (holds cs ∷ [])) ≡ holds (bs ++ cs)
unfolding holds
append [] cs = one-whole (holds cs)
append (true ∷ bs) cs = append bs cs
append (false ∷ bs) cs = refl

-- Of the chain that header word h heads: a record at p.
pub record Member (s : Words) (h p : ℕ) : Type 0 where
  pub kept : Kept s
  pub is : In p (records s h)

-- A table, and a trait? with its arguments.
pub table-found : (s w ws : Words) (params h a b c n q : ℕ) (r : Bool) → r ≡ holds (leb a 0 ∷ leb b q ∷ leb c n ∷ []) → q ≡ params → Tables s w ws → Rows w h node_children → params ≤ word_most → a ≡ chain_mark ws plane_cores h → b ≡ chain_mark ws plane_needs h →
    c ≡ chain_mark ws plane_kids h → n ≡ chain_mark ws plane_lengths h → r ≡ table_ok s w params h
table-found s w ws params h a b c n q r er eq t rows l ea eb ec en =
    er
    ∙ (λ i. holds (leb ((ea ∙ t.nodes.cores h rows) i) 0 ∷ leb ((eb ∙ t.nodes.needs h rows.forward) i) (eq i) ∷ leb ((ec ∙ t.nodes.kids h rows) i) ((en ∙ t.cells.lengths h rows.forward) i) ∷ []))
    ∙ sym (table-whole s w params l h)

-- A trait? and its arguments.
pub args_found : (s w ws : Words) (h t args n bd m : ℕ) (y r : Bool) → Tables s w ws → Forward w h → Forward w args → n ≡ chain_mark ws plane_lengths args → y ≡ args_core s t n →
    bd ≡ chain_mark ws plane_bounds args → m ≡ chain_mark ws plane_lengths h → r ≡ holds (y ∷ leb bd m ∷ []) → r ≡ args_ok s w h t args
args_found s w ws h t args n bd m y r p fh fa en ey eb em er =
    er ∙ (λ i. holds ((ey ∙ ap (args_core s t) (en ∙ p.cells.lengths args fa)) i ∷ leb ((eb ∙ p.cells.bounds args fa) i) ((em ∙ p.cells.lengths h fh) i) ∷ [])) ∙ sym (args_whole s w h t args)

-- The impl parameters from a head, over a table.
unfoldable pub params_ok : Words → ℕ → ℕ → Bool
params_ok s table h = all (λ i. args_ok s s table (at s (i + impl_param_trait)) (at s (i + impl_param_args))) (chain s h)

-- Two planes tell.
pub params-found : (s ws : Words) (table h a b n : ℕ) (r : Bool) → Charted s ws → Forward s table → Rows s h impl_param_args → a ≡ chain_mark ws plane_params h → b ≡ chain_mark ws plane_args h →
    n ≡ chain_mark ws plane_lengths table → r ≡ holds (leb a 0 ∷ leb b n ∷ []) → r ≡ params_ok s table h
unfolding params_ok
params-found s ws table h a b n r c f rows ea eb en er =
    er ∙ (λ i. holds (leb ((ea ∙ c.links.params h rows) i) 0 ∷ leb ((eb ∙ c.links.args h rows) i) ((en ∙ c.tables.cells.lengths table f) i) ∷ [])) ∙ sym (params-whole s table (chain s h))

-- Generics: their heads, and their record.
module _ (s : Words) (p : ℕ) (m : Member s header_generics p) where
  -- The table.
  pub generics_table-rows : (t : ℕ) → t ≡ at s (p + generics_table_word) → Rows s t node_children
  generics_table-rows t e = subst (λ x. Rows s x node_children) (sym e) (m.kept.generics p m.is).table

  -- Its chain.
  pub generics_table_forward : (t : ℕ) → t ≡ at s (p + generics_table_word) → Forward s t
  generics_table_forward t e = (generics_table-rows t e).forward

  -- The impl parameters.
  pub generics_params_rows : (i : ℕ) → i ≡ at s (p + generics_impl_params) → Rows s i impl_param_args
  generics_params_rows i e = subst (λ x. Rows s x impl_param_args) (sym e) (m.kept.generics p m.is).params

  -- The record.
  pub generics_found : (ws : Words) (tp q t i n : ℕ) (x y r : Bool) → Charted s ws → tp ≡ at s (p + generics_type_params) → q ≡ tp → t ≡ at s (p + generics_table_word) → i ≡ at s (p + generics_impl_params) →
      x ≡ table_ok s s tp t → n ≡ chain_mark ws plane_lengths i → y ≡ params_ok s t i → r ≡ holds (leb q limit_type_params ∷ x ∷ leb n limit_impl_params ∷ y ∷ []) → r ≡ generics_ok s p
  unfolding generics_ok params_ok
  generics_found ws tp q t i n x y r c etp eq et ei ex en ey er =
      er ∙ λ z. holds (leb ((eq ∙ etp) z) limit_type_params ∷ (ex ∙ λ u. table_ok s s (etp u) (et u)) z ∷ leb ((en ∙ c.tables.cells.lengths i (generics_params_rows i ei).forward ∙ ap (λ u. length (chain s u)) ei) z) limit_impl_params ∷ (ey ∙ λ u. params_ok s (et u) (ei u)) z ∷ [])

-- Impls.
module _ (s : Words) (p : ℕ) (m : Member s header_impls p) where
  -- The table.
  pub impl_table-rows : (t : ℕ) → t ≡ at s (p + impl_table_word) → Rows s t node_children
  impl_table-rows t e = subst (λ x. Rows s x node_children) (sym e) (m.kept.impls p m.is).table

  -- Its chain.
  pub impl_table_forward : (t : ℕ) → t ≡ at s (p + impl_table_word) → Forward s t
  impl_table_forward t e = (impl_table-rows t e).forward

  -- The arguments.
  pub impl_args_forward : (a : ℕ) → a ≡ at s (p + impl_args_word) → Forward s a
  impl_args_forward a e = subst (Forward s) (sym e) (m.kept.impls p m.is).args

-- An impl's table and arguments, under generics g.
unfoldable pub impl_types : Words → ℕ → ℕ → Bool
impl_types s p g = holds (table_ok s s (type_params s g) (at s (p + impl_table_word)) ∷ args_ok s s (at s (p + impl_table_word)) (at s (p + impl_trait_word)) (at s (p + impl_args_word)) ∷ [])

-- Both together.
pub impl_types-found : (s : Words) (p g tp h t a : ℕ) (x y r : Bool) → tp ≡ type_params s g → h ≡ at s (p + impl_table_word) → t ≡ at s (p + impl_trait_word) → a ≡ at s (p + impl_args_word) →
    x ≡ table_ok s s tp h → y ≡ args_ok s s h t a → r ≡ holds (x ∷ y ∷ []) → r ≡ impl_types s p g
unfolding impl_types
impl_types-found s p g tp h t a x y r etp eh et ea ex ey er = er ∙ λ z. holds ((ex ∙ λ u. table_ok s s (etp u) (eh u)) z ∷ (ey ∙ λ u. args_ok s s (eh u) (et u) (ea u)) z ∷ [])

two_last : (a b c d : Bool) → holds (a ∷ b ∷ holds (c ∷ d ∷ []) ∷ []) ≡ holds (a ∷ b ∷ c ∷ d ∷ [])
unfolding holds
two_last false b c d = refl
two_last true false c d = refl
two_last true true c d = append [] (c ∷ d ∷ [])

-- The record.
pub impl_found : (s ws : Words) (p g c f : ℕ) (x r : Bool) → Known s ws → g ≡ at s (p + impl_generics_word) → c ≡ at ws header_generics → f ≡ at s (p + impl_flags) → x ≡ impl_types s p g → r ≡ holds (ltb g c ∷ leb f flag_all ∷ x ∷ []) → r ≡ impl_ok s p
unfolding impl_ok is_id impl_types
impl_found s ws p g c f x r kn eg ec ef ex er =
    er
    ∙ (λ z. holds (ltb (eg z) ((ec ∙ kn.count header_generics (omega arith)) z) ∷ leb (ef z) flag_all ∷ (ex ∙ ap (impl_types s p) eg) z ∷ []))
    ∙ two_last (ltb (at s (p + impl_generics_word)) (many s header_generics)) (leb (at s (p + impl_flags)) flag_all) (table_ok s s (type_params s (at s (p + impl_generics_word))) (at s (p + impl_table_word))) (args_ok s s (at s (p + impl_table_word)) (at s (p + impl_trait_word)) (at s (p + impl_args_word)))

-- The count of type parameters of generics, as it is read.
pub params_word : (s : Words) (g head p r : ℕ) → head ≡ at s header_generics → p ≡ at (chain s head) g → r ≡ at s (p + generics_type_params) → r ≡ type_params s g
unfolding type_params field records
params_word s g head p r e f h = h ∙ ap (λ x. at s (x + generics_type_params)) (f ∙ ap (λ x. at (chain s x) g) e)

-- Definitions: bindings and members, and the other words.
unfoldable pub links_ok : Words → ℕ → Bool
links_ok s p = holds (all (binding_ok s) (chain s (at s (p + definition_bindings))) ∷ all (member_ok s) (chain s (at s (p + definition_named))) ∷ all (member_ok s) (chain s (at s (p + definition_implicit))) ∷ [])

-- Two planes tell.
pub links_found : (s ws : Words) (p b n i x y z : ℕ) (r : Bool) → Charted s ws → Member s header_definitions p → b ≡ at s (p + definition_bindings) → n ≡ at s (p + definition_named) → i ≡ at s (p + definition_implicit) →
    x ≡ chain_mark ws plane_bindings b → y ≡ chain_mark ws plane_members n → z ≡ chain_mark ws plane_members i → r ≡ holds (leb x 0 ∷ leb y 0 ∷ leb z 0 ∷ []) → r ≡ links_ok s p
unfolding links_ok
links_found s ws p b n i x y z r ch m eb en ei ex ey ez er =
    let f = m.kept.definitions p m.is in
    er ∙ λ j. holds (
    (ap (λ q. leb q 0) (ex ∙ ap (chain_mark ws plane_bindings) eb ∙ ch.links.bindings (at s (p + definition_bindings)) f.bindings) ∙ sym (all-bad (binding_ok s) (chain s (at s (p + definition_bindings))))) j
    ∷ (ap (λ q. leb q 0) (ey ∙ ap (chain_mark ws plane_members) en ∙ ch.links.members (at s (p + definition_named)) f.named) ∙ sym (all-bad (member_ok s) (chain s (at s (p + definition_named))))) j
    ∷ (ap (λ q. leb q 0) (ez ∙ ap (chain_mark ws plane_members) ei ∙ ch.links.members (at s (p + definition_implicit)) f.implicit) ∙ sym (all-bad (member_ok s) (chain s (at s (p + definition_implicit))))) j
    ∷ [])

-- The record.
pub definition_found : (s ws : Words) (d p pa v c t e : ℕ) (x r : Bool) → Charted s ws → pa ≡ at s (p + definition_parent) → v ≡ at s (p + definition_trait_vis) → c ≡ at ws header_definitions →
    t ≡ at s (p + definition_trait) → e ≡ at ws header_traits → x ≡ links_ok s p → r ≡ holds (leb pa d ∷ leb v c ∷ leb t e ∷ x ∷ []) → r ≡ definition_ok s d p
unfolding definition_ok is_vis is_optional links_ok
definition_found s ws d p pa v c t e x r ch epa ev ec et ee ex er =
    let kn = ch.tables.known in
    er
    ∙ (λ j. holds (leb (epa j) d ∷ leb (ev j) ((ec ∙ kn.count header_definitions (omega arith)) j) ∷ leb (et j) ((ee ∙ kn.count header_traits (omega arith)) j) ∷ ex j ∷ []))
    ∙ append (leb (at s (p + definition_parent)) d ∷ leb (at s (p + definition_trait_vis)) (many s header_definitions) ∷ leb (at s (p + definition_trait)) (many s header_traits) ∷ [])
    (all (binding_ok s) (chain s (at s (p + definition_bindings))) ∷ all (member_ok s) (chain s (at s (p + definition_named))) ∷ all (member_ok s) (chain s (at s (p + definition_implicit))) ∷ [])

-- Records with no heads in them.
module _ (s ws : Words) (kn : Known s ws) (p : ℕ) where
  -- A trait.
  pub trait_found : (d c a i : ℕ) (r : Bool) → d ≡ at s (p + trait_definition) → c ≡ at ws header_definitions → a ≡ at s (p + trait_arity_word) → i ≡ at s (p + trait_inherent) → r ≡ holds (ltb d c ∷ leb a limit_arity ∷ leb i a ∷ []) → r ≡ trait_ok s p
  unfolding trait_ok is_id
  trait_found d c a i r ed ec ea ei er = er ∙ λ z. holds (ltb (ed z) ((ec ∙ kn.count header_definitions (omega arith)) z) ∷ leb (ea z) limit_arity ∷ leb (ei z) (ea z) ∷ [])

  -- An opaque type or an enum.
  pub opaque_found : (d c : ℕ) → d ≡ at s (p + owner_definition) → c ≡ at ws header_definitions → ltb d c ≡ opaque_ok s p
  unfolding opaque_ok is_id
  opaque_found d c ed ec = λ z. ltb (ed z) ((ec ∙ kn.count header_definitions (omega arith)) z)

  -- A struct or a union.
  pub struct-found : (d c a : ℕ) (r : Bool) → d ≡ at s (p + owner_definition) → c ≡ at ws header_definitions → a ≡ at s (p + owner_self_dual) → r ≡ holds (ltb d c ∷ leb a 1 ∷ []) → r ≡ struct_ok s p
  unfolding struct_ok is_id
  struct-found d c a r ed ec ea er = er ∙ λ z. holds (ltb (ed z) ((ec ∙ kn.count header_definitions (omega arith)) z) ∷ leb (ea z) 1 ∷ [])

  -- An import.
  pub import_found : (d c : ℕ) → d ≡ at s (p + import_definition) → c ≡ at ws header_definitions → leb d c ≡ import_ok s p
  unfolding import_ok is_optional
  import_found d c ed ec = λ z. leb (ed z) ((ec ∙ kn.count header_definitions (omega arith)) z)

-- A closure.
pub closure-found : (s : Words) (p a : ℕ) → a ≡ at s (p + closure_flex) → leb a flex_both ≡ closure_ok s p
unfolding closure_ok
closure-found s p a e = ap (λ x. leb x flex_both) e

-- By kind: traits, closures, imports, structs and unions, opaques and enums.
unfoldable pub plain_ok : Words → ℕ → ℕ → Bool
plain_ok s h p =
    elim (eqb h header_traits) [
      | true ↦ trait_ok s p
      | false ↦ elim (eqb h header_closures) [
        | true ↦ closure_ok s p
        | false ↦ elim (eqb h header_imports) [ true ↦ import_ok s p | false ↦ elim (eqb h header_structs || eqb h header_unions) [ true ↦ struct_ok s p | false ↦ opaque_ok s p ] ]
      ]
    ]

module _ (s : Words) (h p : ℕ) (r : Bool) where
  pub plain_trait : h ≡ header_traits → r ≡ trait_ok s p → r ≡ plain_ok s h p
  unfolding plain_ok
  plain_trait e f = f ∙ ap (λ x. plain_ok s x p) (sym e)

  pub plain-closure : h ≡ header_closures → r ≡ closure_ok s p → r ≡ plain_ok s h p
  unfolding plain_ok
  plain-closure e f = f ∙ ap (λ x. plain_ok s x p) (sym e)

  pub plain_import : h ≡ header_imports → r ≡ import_ok s p → r ≡ plain_ok s h p
  unfolding plain_ok
  plain_import e f = f ∙ ap (λ x. plain_ok s x p) (sym e)

  pub plain-struct : h ≡ header_structs → r ≡ struct_ok s p → r ≡ plain_ok s h p
  unfolding plain_ok
  plain-struct e f = f ∙ ap (λ x. plain_ok s x p) (sym e)

  pub plain_union : h ≡ header_unions → r ≡ struct_ok s p → r ≡ plain_ok s h p
  unfolding plain_ok
  plain_union e f = f ∙ ap (λ x. plain_ok s x p) (sym e)

  pub plain_opaque : h ≢ header_traits → h ≢ header_closures → h ≢ header_imports → h ≢ header_structs → h ≢ header_unions → r ≡ opaque_ok s p → r ≡ plain_ok s h p
  unfolding plain_ok
  plain_opaque n m o q e f = rw (ne_eqb h header_traits n, ne_eqb h header_closures m, ne_eqb h header_imports o, ne_eqb h header_structs q, ne_eqb h header_unions e, plain_ok) f

-- The record of id d at p, of the chain that header word h heads.
unfoldable pub record_ok : Words → ℕ → ℕ → ℕ → Bool
record_ok s h d p =
    elim (eqb h header_definitions) [
      | true ↦ definition_ok s d p
      | false ↦ elim (eqb h header_generics) [ true ↦ generics_ok s p | false ↦ elim (eqb h header_impls) [ true ↦ impl_ok s p | false ↦ plain_ok s h p ] ]
    ]

module _ (s : Words) (h d p : ℕ) (r : Bool) where
  pub record_definition : h ≡ header_definitions → r ≡ definition_ok s d p → r ≡ record_ok s h d p
  unfolding record_ok
  record_definition e f = f ∙ ap (λ x. record_ok s x d p) (sym e)

  pub record_generics : h ≡ header_generics → r ≡ generics_ok s p → r ≡ record_ok s h d p
  unfolding record_ok
  record_generics e f = f ∙ ap (λ x. record_ok s x d p) (sym e)

  pub record_impl : h ≡ header_impls → r ≡ impl_ok s p → r ≡ record_ok s h d p
  unfolding record_ok
  record_impl e f = f ∙ ap (λ x. record_ok s x d p) (sym e)

  pub record_plain : h ≢ header_definitions → h ≢ header_generics → h ≢ header_impls → r ≡ plain_ok s h p → r ≡ record_ok s h d p
  unfolding record_ok
  record_plain n m o f = rw (ne_eqb h header_definitions n, ne_eqb h header_generics m, ne_eqb h header_impls o, record_ok) f

-- The same of a header word that is equal.
pub member_of : (s : Words) (h h' p : ℕ) → h ≡ h' → Member s h p → Member s h' p
member_of s h h' p e m = subst (λ x. Member s x p) e m

-- The records from d on.
unfoldable pub rows_ok : Words → ℕ → ℕ → Words → Bool
rows_ok s h d [] = true
rows_ok s h d (p ∷ ps) = elim (record_ok s h d p) [ true ↦ rows_ok s h (suc d) ps | false ↦ false ]

-- All of them.
unfoldable pub chain_ok : Words → ℕ → Bool
chain_ok s h = rows_ok s h 0 (records s h)

-- A walk along the records: d of them are passed, and these are left.
pub record Walk (s : Words) (h d : ℕ) (left : Words) : Type 0 where
  pub rest : rows_ok s h d left ≡ chain_ok s h
  pub among : (p : ℕ) → In p left → In p (records s h)

-- The walk begins.
pub walk_begin : (s : Words) (h d head : ℕ) (left : Words) → d ≡ 0 → head ≡ at s h → left ≡ chain s head → Walk s h d left
unfolding chain_ok records
walk_begin s h d head left z e f = subst (λ x. Walk s h x left) (sym z) (subst (Walk s h 0) (sym (f ∙ ap (chain s) e)) (record { rest = refl; among = λ p m. m }))

module _ (s : Words) (h d : ℕ) (left : Words) (w : Walk s h d left) where
  -- None is left.
  pub walk_out : left ≡ [] → true ≡ chain_ok s h
  unfolding rows_ok
  walk_out e = sym (ap (rows_ok s h d) e) ∙ w.rest

  module _ (i : ℕ) (more : Words) (q : left ≡ i ∷ more) where
    -- It stands on a record of the chain.
    pub walk_member : Kept s → Member s h i
    walk_member k = record { kept = k; is = w.among i (subst (In i) (sym q) first) }

    module _ (n : ℕ) (r : Bool) (e : n ≡ d) (f : r ≡ record_ok s h n i) where
      step : elim r as (λ b. Bool) [ true ↦ rows_ok s h (suc d) more | false ↦ false ] ≡ chain_ok s h
      unfolding rows_ok
      step = ap (λ x. elim x as (λ b. Bool) [ true ↦ rows_ok s h (suc d) more | false ↦ false ]) (f ∙ ap (λ x. record_ok s h x i) e) ∙ sym (ap (rows_ok s h d) q) ∙ w.rest

      -- That record is out of range.
      pub walk_stop : r ≡ false → false ≡ chain_ok s h
      walk_stop g = sym (ap (λ x. elim x as (λ b. Bool) [ true ↦ rows_ok s h (suc d) more | false ↦ false ]) g) ∙ step

      -- It is not, and the next one follows.
      pub walk_more : (t : ℕ) → t ≡ d + 1 → r ≡ true → Walk s h t more
      walk_more t k g = record {
        rest = ap (λ x. rows_ok s h x more) (let z : t ≡ suc d = omega arith in z) ∙ sym (ap (λ x. elim x as (λ b. Bool) [ true ↦ rows_ok s h (suc d) more | false ↦ false ]) g) ∙ step;
        among = λ p m. w.among p (subst (In p) (sym q) (later m));
      }

-- The chains of the header, one after the other.
pub chains_listed : (s : Words) → list_all (chain_ok s) (range_with_len 1 10) ≡ all (chain_ok s) (range 1 10)
unfolding range
chains_listed s = all_listed (chain_ok s) (range 1 10)

-- The rows of each kind are as the rule has them.
rows_all : (s : Words) (h : ℕ) (ok : ℕ → Bool) → ((d p : ℕ) → record_ok s h d p ≡ ok p) → (d : ℕ) (ps : Words) → rows_ok s h d ps ≡ all ok ps
unfolding rows_ok all
rows_all s h ok e d [] = refl
rows_all s h ok e d (p ∷ ps) = λ t. elim (e d p t) as (λ b. Bool) [ true ↦ rows_all s h ok e (suc d) ps t | false ↦ false ]

and_if : (a b : Bool) → ◌≡◌ {A = Bool} (elim a as (λ c. Bool) [ true ↦ b | false ↦ false ]) (a && b)
and_if true b = refl
and_if false b = refl

rows_definitions : (s : Words) (d : ℕ) (ps : Words) → rows_ok s header_definitions d ps ≡ definitions_ok s d ps
unfolding rows_ok record_ok definitions_ok
rows_definitions s d [] = refl
rows_definitions s d (p ∷ ps) = and_if (definition_ok s d p) (rows_ok s header_definitions (suc d) ps) ∙ ap (λ b. definition_ok s d p && b) (rows_definitions s (suc d) ps)

abbrev chain_tests : Words → List Bool
chain_tests s =
    definitions_ok s 0 (records s header_definitions)
    ∷ all (generics_ok s) (records s header_generics)
    ∷ all (trait_ok s) (records s header_traits)
    ∷ all (impl_ok s) (records s header_impls)
    ∷ all (opaque_ok s) (records s header_opaques)
    ∷ all (struct_ok s) (records s header_structs)
    ∷ all (opaque_ok s) (records s header_enums)
    ∷ all (struct_ok s) (records s header_unions)
    ∷ all (closure_ok s) (records s header_closures)
    ∷ all (import_ok s) (records s header_imports)
    ∷ []

chains_all : (s : Words) → all (chain_ok s) (range 1 10) ≡ holds (chain_tests s)
unfolding all range chain_ok holds record_ok plain_ok
chains_all s = λ t. holds (
    rows_definitions s 0 (records s header_definitions) t
    ∷ rows_all s header_generics (generics_ok s) (λ d p. refl) 0 (records s header_generics) t
    ∷ rows_all s header_traits (trait_ok s) (λ d p. refl) 0 (records s header_traits) t
    ∷ rows_all s header_impls (impl_ok s) (λ d p. refl) 0 (records s header_impls) t
    ∷ rows_all s header_opaques (opaque_ok s) (λ d p. refl) 0 (records s header_opaques) t
    ∷ rows_all s header_structs (struct_ok s) (λ d p. refl) 0 (records s header_structs) t
    ∷ rows_all s header_enums (opaque_ok s) (λ d p. refl) 0 (records s header_enums) t
    ∷ rows_all s header_unions (struct_ok s) (λ d p. refl) 0 (records s header_unions) t
    ∷ rows_all s header_closures (closure_ok s) (λ d p. refl) 0 (records s header_closures) t
    ∷ rows_all s header_imports (import_ok s) (λ d p. refl) 0 (records s header_imports) t
    ∷ [])

-- The header's own words.
unfoldable pub limits_ok : Words → Bool
limits_ok s = holds (leb (many s header_definitions) limit_definitions ∷ leb (many s header_impls) limit_impls ∷ is_optional s header_definitions (at s header_prelude) ∷ flex_trait_ok s (at s header_fork) ∷ [])

-- drop?, duplicate?, erase?.
unfoldable pub words_ok : Words → Bool
words_ok s = holds (flex_trait_ok s (at s header_drop) ∷ is_optional s header_impls (at s header_duplicate) ∷ is_optional s header_impls (at s header_erase) ∷ [])

module _ (s ws : Words) (kn : Known s ws) where
  -- The first four tests.
  pub limits_found : (d i p f : ℕ) (x r : Bool) → d ≡ at ws header_definitions → i ≡ at ws header_impls → p ≡ at s header_prelude → f ≡ at s header_fork → x ≡ flex_trait_ok s f → r ≡ holds (leb d limit_definitions ∷ leb i limit_impls ∷ leb p d ∷ x ∷ []) → r ≡ limits_ok s
  unfolding limits_ok is_optional
  limits_found d i p f x r ed ei ep ef ex er =
      let dd = ed ∙ kn.count header_definitions (omega arith) in
      er ∙ λ t. holds (leb (dd t) limit_definitions ∷ leb ((ei ∙ kn.count header_impls (omega arith)) t) limit_impls ∷ leb (ep t) (dd t) ∷ (ex ∙ ap (flex_trait_ok s) ef) t ∷ [])

  -- The next three.
  pub words-found : (i f u e : ℕ) (x r : Bool) → i ≡ at ws header_impls → f ≡ at s header_drop → u ≡ at s header_duplicate → e ≡ at s header_erase → x ≡ flex_trait_ok s f → r ≡ holds (x ∷ leb u i ∷ leb e i ∷ []) → r ≡ words_ok s
  unfolding words_ok is_optional
  words-found i f u e x r ei ef eu ee ex er =
      let ii = ei ∙ kn.count header_impls (omega arith) in
      er ∙ λ t. holds ((ex ∙ ap (flex_trait_ok s) ef) t ∷ leb (eu t) (ii t) ∷ leb (ee t) (ii t) ∷ [])

swap_eqb : (a b : ℕ) → eqb a b ≡ eqb b a
swap_eqb a b = same_test (eqb a b) (eqb b a) (λ t. subst T (sym (eq-eqb b a (sym (eqb→eq a b t)))) tt, λ t. subst T (sym (eq-eqb a b (sym (eqb→eq b a t)))) tt)

-- fork? or drop? is not set.
pub flex_none : (s : Words) (t : ℕ) → t ≡ 0 → true ≡ flex_trait_ok s t
unfolding flex_trait_ok is_optional holds
flex_none s t e = rw (le-leb t (many s header_traits) (omega arith), eq-eqb t 0 e) refl

-- It is a trait with one argument.
pub flex_some : (s : Words) (t : ℕ) (r : Bool) → t ≢ 0 → r ≡ args_core s t 1 → r ≡ flex_trait_ok s t
unfolding flex_trait_ok args_core holds
flex_some s t r n e = e ∙ λ i. holds (is_optional s header_traits t ∷ (ap (λ b. b || eqb 1 (arity s t)) (sym (ne_eqb t 0 n)) ∙ ap (λ b. eqb t 0 || b) (swap_eqb 1 (arity s t))) i ∷ [])

parts : (a b c d e f g x : Bool) → holds (holds (a ∷ b ∷ c ∷ d ∷ []) ∷ holds (e ∷ f ∷ g ∷ []) ∷ x ∷ []) ≡ holds (a ∷ b ∷ c ∷ d ∷ e ∷ f ∷ g ∷ x ∷ [])
unfolding holds
parts false b c d e f g x = refl
parts true false c d e f g x = refl
parts true true false d e f g x = refl
parts true true true false e f g x = refl
parts true true true true false f g x = refl
parts true true true true true false g x = refl
parts true true true true true true false x = refl
parts true true true true true true true x = refl

-- 8, from its three parts.
pub values-found : (s : Words) (x y z r : Bool) → x ≡ limits_ok s → y ≡ words_ok s → z ≡ all (chain_ok s) (range 1 10) → r ≡ holds (x ∷ y ∷ z ∷ []) → r ≡ sheet_values s
unfolding sheet_values limits_ok words_ok holds
values-found s x y z r ex ey ez er =
    er
    ∙ (λ t. holds (ex t ∷ ey t ∷ (ez ∙ chains_all s) t ∷ []))
    ∙ parts (leb (many s header_definitions) limit_definitions) (leb (many s header_impls) limit_impls) (is_optional s header_definitions (at s header_prelude)) (flex_trait_ok s (at s header_fork)) (flex_trait_ok s (at s header_drop)) (is_optional s header_impls (at s header_duplicate)) (is_optional s header_impls (at s header_erase)) (holds (chain_tests s))
    ∙ append (
    leb (many s header_definitions) limit_definitions
    ∷ leb (many s header_impls) limit_impls
    ∷ is_optional s header_definitions (at s header_prelude)
    ∷ flex_trait_ok s (at s header_fork)
    ∷ flex_trait_ok s (at s header_drop)
    ∷ is_optional s header_impls (at s header_duplicate)
    ∷ is_optional s header_impls (at s header_erase)
    ∷ []) (chain_tests s)

-- 12: an impl question, and a flex question.
module _ (q : Words) (k : T (impl_question_keeps q)) where
  -- The table of an impl question.
  pub question-rows : (h : ℕ) → h ≡ at q question_table → Rows q h node_children
  question-rows h e = subst (λ x. Rows q x node_children) (sym e) (asked q k).table

  -- Its chain.
  pub question_forward : (h : ℕ) → h ≡ at q question_table → Forward q h
  question_forward h e = (question-rows h e).forward

  -- The arguments.
  pub question_args_forward : (a : ℕ) → a ≡ at q question_args → Forward q a
  question_args_forward a e = subst (Forward q) (sym e) (asked q k).args

-- Both together.
pub impl_question-found : (s q : Words) (g tp h t a : ℕ) (x y r : Bool) → r ≡ holds (x ∷ y ∷ []) → x ≡ table_ok s q tp h → y ≡ args_ok s q h t a → tp ≡ type_params s g → h ≡ at q question_table → t ≡ at q question_trait → a ≡ at q question_args → r ≡ impl_question_values s g q
unfolding impl_question_values
impl_question-found s q g tp h t a x y r er ex ey etp eh et ea = er ∙ λ z. holds ((ex ∙ λ u. table_ok s q (etp u) (eh u)) z ∷ (ey ∙ λ u. args_ok s q (eh u) (et u) (ea u)) z ∷ [])

-- The table of a flex question.
pub flex_rows : (q : Words) (h : ℕ) → T (flex_question_keeps q) → h ≡ at q question_table → Rows q h node_children
flex_rows q h k e = subst (λ x. Rows q x node_children) (sym e) (flex_asked q k)

-- The table, the type word and the zero.
pub flex_question-found : (s q ws : Words) (g tp h t o n : ℕ) (x r : Bool) → r ≡ holds (x ∷ ltb (t / 2) n ∷ eqb o 0 ∷ []) → x ≡ table_ok s q tp h → Tables s q ws → T (flex_question_keeps q) → tp ≡ type_params s g → h ≡ at q question_table →
    t ≡ at q question_type → o ≡ at q question_zero → n ≡ chain_mark ws plane_lengths h → r ≡ flex_question_values s g q
unfolding flex_question_values
flex_question-found s q ws g tp h t o n x r er ex tb k etp eh et eo en =
    er ∙ λ z. holds ((ex ∙ λ u. table_ok s q (etp u) (eh u)) z ∷ ltb (et z / 2) ((en ∙ tb.cells.lengths h (flex_rows q h k eh).forward ∙ ap (λ u. length (chain q u)) eh) z) ∷ eqb (eo z) 0 ∷ [])
