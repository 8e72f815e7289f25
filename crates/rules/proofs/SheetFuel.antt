-- No walk of a checked sheet's or question's chain is cut short: the count that only serves termination is never used up.
-- (Ancestors: AncestorLaws. The rounds of `closure`: ReachLaws.)
use Rattle.std.specs.Prelude.{◌+◌}
use Rattle.std.proofs.Common.{lit<}
use Rattle.rules.specs.Lists.{Words}
use Rattle.rules.specs.Layout.{header_length, header_definitions, header_generics, header_traits, header_impls, header_opaques, header_structs, header_enums, header_unions, header_closures, header_imports, import_length, generics_table_word, generics_impl_params, trait_length, impl_table_word, impl_args_word, opaque_length, struct_length, enum_length, union_length, closure_length}
use Rattle.rules.specs.Sheet.{records}
use Rattle.rules.specs.Chains.{sheet_keeps}
use Rattle.rules.specs.CheckLaws.{part, Checked}
use Rattle.rules.proofs.CheckLaws.{passed}
use Rattle.rules.specs.SheetFuel.{SheetWhole, cells_whole, nodes_whole, plain-whole, definitions_whole, definition_bindings_lem, definition_named_lem, definition_implicit_lem, impl_params-whole, impl_param_args-whole, generics_whole, generics_heads, impls_whole, impls_heads}

-- A sheet that passes 7: every chain is walked whole.
pub sheet_whole : (s : Words) → Checked s → SheetWhole s
unfolding sheet_keeps records
sheet_whole s c = let t = part _ (passed s c).chains in record {
  definitions = definitions_whole s header_definitions (t 0);
  generics = generics_whole s header_generics (t 1);
  traits = plain-whole s trait_length header_traits (lit< tt) (t 2);
  impls = impls_whole s header_impls (t 3);
  opaques = plain-whole s opaque_length header_opaques (lit< tt) (t 4);
  structs = plain-whole s struct_length header_structs (lit< tt) (t 5);
  enums = plain-whole s enum_length header_enums (lit< tt) (t 6);
  unions = plain-whole s union_length header_unions (lit< tt) (t 7);
  closures = plain-whole s closure_length header_closures (lit< tt) (t 8);
  imports = plain-whole s import_length header_imports (lit< tt) (t 9);
  bindings = definition_bindings_lem s header_definitions (t 0);
  named = definition_named_lem s header_definitions (t 0);
  implicit = definition_implicit_lem s header_definitions (t 0);
  generics_tables = λ p i. nodes_whole header_length s (p + generics_table_word) (generics_heads s header_generics (t 1) p i).0;
  impl_params = λ p i. impl_params-whole s (p + generics_impl_params) (generics_heads s header_generics (t 1) p i).1;
  impl_param_args_lem = λ p i. impl_param_args-whole s (p + generics_impl_params) (generics_heads s header_generics (t 1) p i).1;
  impl_tables = λ p i. nodes_whole header_length s (p + impl_table_word) (impls_heads s header_impls (t 3) p i).0;
  impl_args = λ p i. cells_whole header_length s (p + impl_args_word) (impls_heads s header_impls (t 3) p i).1;
}
