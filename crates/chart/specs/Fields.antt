-- A field by the words that lead to it, and the named fields of Sheet as fields.
use Rattle.std.specs.Prelude.{ℕ, ◌+◌, ◌/◌, ◌%◌, ◌≡◌, eqb, length}
use Rattle.std.proofs.Math.Path.{refl, ap}
use Rattle.std.proofs.Common.{◌∙◌}
use Rattle.rules.specs.Lists.{Words}
use Rattle.rules.specs.Layout.{header_definitions, header_generics, header_impls, header_imports, header_traits, definition_bindings, definition_implicit, definition_named, definition_parent, definition_trait, definition_trait_vis, generics_impl_params, generics_table_word, generics_type_params, impl_args_word, impl_generics_word, impl_table_word, impl_trait_word, import_definition, trait_arity_word, trait_definition, trait_inherent, impl_flags}
use Rattle.rules.specs.Sheet.{at, chain, records, many, field, impl_flag, parent, trait_vis, def_trait, import_def, type_params, generics_table, trait_def, trait_arity, inherent_params, impl_generics, impl_trait, impl_table, impl_args, bindings, named_members, implicit_members, impl_param_records}

-- The head of the chain, the place of the record, the word in it.
pub field_found : (s : Words) (h id k head p r : ℕ) → head ≡ at s h → p ≡ at (chain s head) id → r ≡ at s (p + k) → r ≡ field s h id k
unfolding field records
field_found s h id k head p r e f g = g ∙ ap (λ x. at s (x + k)) (f ∙ ap (λ x. at (chain s x) id) e)

-- The head of the chain, and its length.
pub many-found : (s : Words) (h head r : ℕ) → head ≡ at s h → r ≡ length (chain s head) → r ≡ many s h
unfolding many records
many-found s h head r e f = f ∙ ap (λ x. length (chain s x)) e

-- A flag, from the word of flags.
pub flag_found : (s : Words) (n i w : ℕ) → w ≡ field s header_impls i impl_flags → eqb ((w / n) % 2) 1 ≡ impl_flag s n i
unfolding impl_flag
flag_found s n i w e = ap (λ x. eqb ((x / n) % 2) 1) e

-- What a field is called.
module _ (s : Words) (i : ℕ) where
  pub parent-field : field s header_definitions i definition_parent ≡ parent s i
  unfolding parent
  parent-field = refl

  pub trait_vis-field : field s header_definitions i definition_trait_vis ≡ trait_vis s i
  unfolding trait_vis
  trait_vis-field = refl

  pub def_trait-field : field s header_definitions i definition_trait ≡ def_trait s i
  unfolding def_trait
  def_trait-field = refl

  pub import_def-field : field s header_imports i import_definition ≡ import_def s i
  unfolding import_def
  import_def-field = refl

  pub type_params-field : field s header_generics i generics_type_params ≡ type_params s i
  unfolding type_params
  type_params-field = refl

  pub generics_table-field : field s header_generics i generics_table_word ≡ generics_table s i
  unfolding generics_table
  generics_table-field = refl

  pub trait_def-field : field s header_traits i trait_definition ≡ trait_def s i
  unfolding trait_def
  trait_def-field = refl

  pub trait_arity-field : field s header_traits i trait_arity_word ≡ trait_arity s i
  unfolding trait_arity
  trait_arity-field = refl

  pub inherent_params-field : field s header_traits i trait_inherent ≡ inherent_params s i
  unfolding inherent_params
  inherent_params-field = refl

  pub impl_generics-field : field s header_impls i impl_generics_word ≡ impl_generics s i
  unfolding impl_generics
  impl_generics-field = refl

  pub impl_trait-field : field s header_impls i impl_trait_word ≡ impl_trait s i
  unfolding impl_trait
  impl_trait-field = refl

  pub impl_table-field : field s header_impls i impl_table_word ≡ impl_table s i
  unfolding impl_table
  impl_table-field = refl

  pub impl_args-field : field s header_impls i impl_args_word ≡ impl_args s i
  unfolding impl_args
  impl_args-field = refl

-- The records of a chain that a field heads.
module _ (s : Words) (i head : ℕ) where
  pub bindings-chain : head ≡ field s header_definitions i definition_bindings → chain s head ≡ bindings s i
  unfolding bindings
  bindings-chain e = ap (chain s) e

  pub named_members-chain : head ≡ field s header_definitions i definition_named → chain s head ≡ named_members s i
  unfolding named_members
  named_members-chain e = ap (chain s) e

  pub implicit_members-chain : head ≡ field s header_definitions i definition_implicit → chain s head ≡ implicit_members s i
  unfolding implicit_members
  implicit_members-chain e = ap (chain s) e

  pub impl_param_records-chain : head ≡ field s header_generics i generics_impl_params → chain s head ≡ impl_param_records s i
  unfolding impl_param_records
  impl_param_records-chain e = ap (chain s) e
