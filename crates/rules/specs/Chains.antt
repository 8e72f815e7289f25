-- 7 and 11, the chain rule: "a head or next breaks the chain rule, or a record passes the end". It covers every chain that a head anywhere heads.
use Rattle.std.specs.Prelude.{ℕ, zero, suc, ◌+◌, Bool, true, false, ◌&&◌, [], ◌∷◌, leb, length}
use Rattle.rules.specs.Lists.{Words, all, holds}
use Rattle.rules.specs.Sheet.{at, chain}
use Rattle.rules.specs.Layout.{header_length, header_definitions, header_generics, header_traits, header_impls, header_opaques, header_structs, header_enums, header_unions, header_closures, header_imports, definition_bindings, definition_named, definition_implicit, definition_length, binding_length, member_length, import_length, generics_table_word, generics_impl_params, generics_length, impl_param_args, impl_param_length, trait_length, impl_table_word, impl_args_word, impl_length, opaque_length, struct_length, enum_length, union_length, closure_length, node_children, node_length, cell_length, question_table, question_args, question_length}

-- Zero, or no lower than lo.
unfoldable pub zero_or_from : ℕ → ℕ → Bool
zero_or_from lo zero = true
zero_or_from lo (suc i) = leb lo (suc i)

-- The record at p, of len words, ends within the slice, and its next is zero or past it.
unfoldable pub record_keeps : Words → ℕ → ℕ → Bool
record_keeps s len p = leb (p + len) (length s) && zero_or_from (p + len) (at s p)

-- The chain from place i: every record keeps the rule, and so do the heads in it.
unfoldable pub chain_keeps : Words → ℕ → (ℕ → Bool) → ℕ → Bool
chain_keeps s len heads i = all (λ p. elim (record_keeps s len p) [ true ↦ heads p | false ↦ false ]) (chain s i)

-- The chain from head h: no head but zero is lower than lo, where records start.
unfoldable pub head_keeps : ℕ → Words → ℕ → (ℕ → Bool) → ℕ → Bool
head_keeps lo s len heads h = elim (zero_or_from lo h) [ true ↦ chain_keeps s len heads h | false ↦ false ]

-- A record with no heads in it.
abbrev pub no_heads : ℕ → Bool
no_heads p = true

-- Chains of cells, of a sheet (lo 16) or a question (lo 3).
unfoldable pub cells_keep : ℕ → Words → ℕ → Bool
cells_keep lo s h = head_keeps lo s cell_length no_heads h

-- Chains of type nodes, with their cells.
unfoldable pub nodes_keep : ℕ → Words → ℕ → Bool
nodes_keep lo s h = head_keeps lo s node_length (λ p. cells_keep lo s (at s (p + node_children))) h

module _ (s : Words) where
  -- Records with no heads in them.
  unfoldable pub plain_keep : ℕ → ℕ → Bool
  plain_keep len h = head_keeps header_length s len no_heads h

  -- Definitions, with their impl bindings, named members and implicit members.
  unfoldable pub definitions_keep : ℕ → Bool
  definitions_keep h =
      head_keeps header_length s definition_length (λ p. holds (
      plain_keep binding_length (at s (p + definition_bindings))
      ∷ plain_keep member_length (at s (p + definition_named))
      ∷ plain_keep member_length (at s (p + definition_implicit))
      ∷ [])) h

  -- Impl parameters, with their arguments.
  unfoldable pub impl_params_keep : ℕ → Bool
  impl_params_keep h = head_keeps header_length s impl_param_length (λ p. cells_keep header_length s (at s (p + impl_param_args))) h

  -- Generics, with their table and impl parameters.
  unfoldable pub generics_keep : ℕ → Bool
  generics_keep h =
      head_keeps header_length s generics_length (λ p. nodes_keep header_length s (at s (p + generics_table_word)) && impl_params_keep (at s (p + generics_impl_params))) h

  -- Impls, with their table and arguments.
  unfoldable pub impls_keep : ℕ → Bool
  impls_keep h =
      head_keeps header_length s impl_length (λ p. nodes_keep header_length s (at s (p + impl_table_word)) && cells_keep header_length s (at s (p + impl_args_word))) h

  -- 7: the ten chains of the header.
  unfoldable pub sheet_keeps : Bool
  sheet_keeps = holds (
      definitions_keep (at s header_definitions)
      ∷ generics_keep (at s header_generics)
      ∷ plain_keep trait_length (at s header_traits)
      ∷ impls_keep (at s header_impls)
      ∷ plain_keep opaque_length (at s header_opaques)
      ∷ plain_keep struct_length (at s header_structs)
      ∷ plain_keep enum_length (at s header_enums)
      ∷ plain_keep union_length (at s header_unions)
      ∷ plain_keep closure_length (at s header_closures)
      ∷ plain_keep import_length (at s header_imports)
      ∷ [])

-- 11: an impl question's table and arguments.
unfoldable pub impl_question_keeps : Words → Bool
impl_question_keeps q = nodes_keep question_length q (at q question_table) && cells_keep question_length q (at q question_args)

-- 11: a flex question's table.
unfoldable pub flex_question_keeps : Words → Bool
flex_question_keeps q = nodes_keep question_length q (at q question_table)
