-- 8 and 12: "a value out of range or over a limit", for every value of every record, used or not.
use Rattle.std.specs.Prelude.{ℕ, zero, suc, ◌+◌, ◌/◌, Bool, true, false, ◌&&◌, ◌||◌, List, [], ◌∷◌, eqb, ltb, leb, length, get_or}
use Rattle.rules.specs.Lists.{Words, all, holds}
use Rattle.rules.specs.Limits.{limit_definitions, limit_impls, limit_type_params, limit_impl_params, limit_arity}
use Rattle.rules.specs.Layout.{header_definitions, header_generics, header_traits, header_impls, header_opaques, header_structs, header_enums, header_unions, header_closures, header_imports, header_prelude, header_fork, header_drop, header_duplicate, header_erase, definition_parent, definition_trait_vis, definition_trait, definition_bindings, definition_named, definition_implicit, binding_vis, binding_impl, member_vis, member_import, member_id, import_definition, generics_type_params, generics_table_word, generics_impl_params, impl_param_trait, impl_param_args, trait_definition, trait_arity_word, trait_inherent, impl_generics_word, impl_flags, impl_trait_word, impl_table_word, impl_args_word, flag_all, owner_definition, owner_self_dual, closure_flex, flex_both, node_kind, node_inverted, node_id, node_children, question_table, question_trait, question_args, question_type, question_zero, kind_unknown, kind_count}
use Rattle.rules.specs.Sheet.{at, chain, records, many, type_params, trait_arity, kind_row, row_least, row_most}
use Rattle.rules.specs.Types.{Ty}
use Rattle.rules.specs.Transfer.{cell_types}

-- Types that are nodes of a table of n.
abbrev pub in_table : ℕ → List Ty → Bool
in_table n ts = all (λ t. ltb t.1 n) ts

module _ (s : Words) where
  -- An id of the chain that header word h heads.
  unfoldable pub is_id : ℕ → ℕ → Bool
  is_id h w = ltb w (many s h)

  -- "?": 0, or such an id plus 1.
  unfoldable pub is_optional : ℕ → ℕ → Bool
  is_optional h w = leb w (many s h)

  -- A vis: 0 for public, definition plus 1 otherwise.
  unfoldable pub is_vis : ℕ → Bool
  is_vis w = leb w (many s header_definitions)

  -- binding: vis, impl
  unfoldable pub binding_ok : ℕ → Bool
  binding_ok p = holds (is_vis (at s (p + binding_vis)) ∷ is_id header_impls (at s (p + binding_impl)) ∷ [])

  -- member: vis, 0 child or 1 import, id
  unfoldable pub member_ok : ℕ → Bool
  member_ok p = holds (
      is_vis (at s (p + member_vis))
      ∷ leb (at s (p + member_import)) 1
      ∷ elim (eqb (at s (p + member_import)) 0) as (λ b. Bool) [
        | true ↦ is_id header_definitions (at s (p + member_id))
        | false ↦ is_id header_imports (at s (p + member_id))
      ]
      ∷ [])

  -- definition d: parent? below own id, trait vis, trait?, bindings, members
  unfoldable pub definition_ok : ℕ → ℕ → Bool
  definition_ok d p = holds (
      leb (at s (p + definition_parent)) d
      ∷ is_vis (at s (p + definition_trait_vis))
      ∷ is_optional header_traits (at s (p + definition_trait))
      ∷ all binding_ok (chain s (at s (p + definition_bindings)))
      ∷ all member_ok (chain s (at s (p + definition_named)))
      ∷ all member_ok (chain s (at s (p + definition_implicit)))
      ∷ [])

  -- What the id of a type node is below, kind by kind: an unused one is 0, those of Fn and Key are free.
  unfoldable pub id_bound : ℕ → ℕ → ℕ → ℕ
  id_bound params id k =
      get_or (
      1
      ∷ params
      ∷ 1
      ∷ many s header_opaques
      ∷ many s header_structs
      ∷ many s header_enums
      ∷ many s header_unions
      ∷ suc id
      ∷ many s header_closures
      ∷ 1
      ∷ suc id
      ∷ 1
      ∷ 1
      ∷ 1
      ∷ []) k 0

  -- type node, of a table of n nodes, under a count of type parameters: kind, inverted (an unknown's is 0), id, children
  unfoldable pub node_fits : ℕ → ℕ → ℕ → ℕ → ℕ → List Ty → Bool
  node_fits params n k inv id cs = holds (
      ltb k kind_count
      ∷ leb inv 1
      ∷ (ltb kind_unknown k || eqb inv 0)
      ∷ ltb id (id_bound params id k)
      ∷ leb (kind_row k row_least) (length cs)
      ∷ leb (length cs) (kind_row k row_most)
      ∷ in_table n cs
      ∷ [])

  -- The node at place p of a slice w, the sheet or the question.
  unfoldable pub node_ok : Words → ℕ → ℕ → ℕ → Bool
  node_ok w params n p = node_fits params n (at w (p + node_kind)) (at w (p + node_inverted)) (at w (p + node_id)) (cell_types w (at w (p + node_children)))

  -- The table from head h of a slice w: every node of it.
  unfoldable pub table_ok : Words → ℕ → ℕ → Bool
  table_ok w params h = all (node_ok w params (length (chain w h))) (chain w h)

  -- The arity of a trait?: trait? = 0 has no arguments.
  unfoldable pub arity : ℕ → ℕ
  arity zero = 0
  arity (suc t) = trait_arity s t

  -- A trait? and its arguments, over the table from head h of a slice w: as many as the arity.
  unfoldable pub args_ok : Words → ℕ → ℕ → ℕ → Bool
  args_ok w h t args = holds (is_optional header_traits t ∷ eqb (length (cell_types w args)) (arity t) ∷ in_table (length (chain w h)) (cell_types w args) ∷ [])

  -- generics: type parameter count, table, impl parameters (trait?, arguments)
  unfoldable pub generics_ok : ℕ → Bool
  generics_ok p = holds (
      leb (at s (p + generics_type_params)) limit_type_params
      ∷ table_ok s (at s (p + generics_type_params)) (at s (p + generics_table_word))
      ∷ leb (length (chain s (at s (p + generics_impl_params)))) limit_impl_params
      ∷ all (λ i. args_ok s (at s (p + generics_table_word)) (at s (i + impl_param_trait)) (at s (i + impl_param_args))) (chain s (at s (p + generics_impl_params)))
      ∷ [])

  -- trait: definition, arity, inherent count at most arity
  unfoldable pub trait_ok : ℕ → Bool
  trait_ok p = holds (
      is_id header_definitions (at s (p + trait_definition))
      ∷ leb (at s (p + trait_arity_word)) limit_arity
      ∷ leb (at s (p + trait_inherent)) (at s (p + trait_arity_word))
      ∷ [])

  -- impl: generics, flags, table, trait? and arguments
  unfoldable pub impl_ok : ℕ → Bool
  impl_ok p = holds (
      is_id header_generics (at s (p + impl_generics_word))
      ∷ leb (at s (p + impl_flags)) flag_all
      ∷ table_ok s (type_params s (at s (p + impl_generics_word))) (at s (p + impl_table_word))
      ∷ args_ok s (at s (p + impl_table_word)) (at s (p + impl_trait_word)) (at s (p + impl_args_word))
      ∷ [])

  -- opaque, enum: definition
  unfoldable pub opaque_ok : ℕ → Bool
  opaque_ok p = is_id header_definitions (at s (p + owner_definition))

  -- struct, union: definition, self-dual
  unfoldable pub struct_ok : ℕ → Bool
  struct_ok p = holds (is_id header_definitions (at s (p + owner_definition)) ∷ leb (at s (p + owner_self_dual)) 1 ∷ [])

  -- closure: flex
  unfoldable pub closure_ok : ℕ → Bool
  closure_ok p = leb (at s (p + closure_flex)) flex_both

  -- import: definition?
  unfoldable pub import_ok : ℕ → Bool
  import_ok p = is_optional header_definitions (at s (p + import_definition))

  -- fork?, drop?: where set, a trait of arity 1
  unfoldable pub flex_trait_ok : ℕ → Bool
  flex_trait_ok t = holds (is_optional header_traits t ∷ (eqb t 0 || eqb (arity t) 1) ∷ [])

  -- Definitions with their ids, from d on.
  unfoldable pub definitions_ok : ℕ → Words → Bool
  definitions_ok d [] = true
  definitions_ok d (p ∷ ps) = definition_ok d p && definitions_ok (suc d) ps

  -- 8: the limits, prelude?, fork?, drop?, duplicate?, erase?, and every record of every kind.
  unfoldable pub sheet_values : Bool
  sheet_values = holds (
      leb (many s header_definitions) limit_definitions
      ∷ leb (many s header_impls) limit_impls
      ∷ is_optional header_definitions (at s header_prelude)
      ∷ flex_trait_ok (at s header_fork)
      ∷ flex_trait_ok (at s header_drop)
      ∷ is_optional header_impls (at s header_duplicate)
      ∷ is_optional header_impls (at s header_erase)
      ∷ definitions_ok 0 (records s header_definitions)
      ∷ all generics_ok (records s header_generics)
      ∷ all trait_ok (records s header_traits)
      ∷ all impl_ok (records s header_impls)
      ∷ all opaque_ok (records s header_opaques)
      ∷ all struct_ok (records s header_structs)
      ∷ all opaque_ok (records s header_enums)
      ∷ all struct_ok (records s header_unions)
      ∷ all closure_ok (records s header_closures)
      ∷ all import_ok (records s header_imports)
      ∷ [])

  -- 12: an impl question, asked under generics g: its table, then trait? and arguments.
  unfoldable pub impl_question_values : ℕ → Words → Bool
  impl_question_values g q = holds (
      table_ok q (type_params s g) (at q question_table)
      ∷ args_ok q (at q question_table) (at q question_trait) (at q question_args)
      ∷ [])

  -- 12: a flex question, asked under generics g: its table, then a type word and 0.
  unfoldable pub flex_question_values : ℕ → Words → Bool
  flex_question_values g q = holds (
      table_ok q (type_params s g) (at q question_table)
      ∷ ltb (at q question_type / 2) (length (chain q (at q question_table)))
      ∷ eqb (at q question_zero) 0
      ∷ [])
