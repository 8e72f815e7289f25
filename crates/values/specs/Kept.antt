-- What 7 and 11 promise of the heads in records: their chains go forward.
use Rattle.std.specs.Prelude.{ℕ, ◌+◌, ◌<◌, ◌≡◌, refl, Bool, true, false, ◌&&◌, [], ◌∷◌, ◌⊎◌, T, length}
use Rattle.std.proofs.Common.{inl, inr, arith}
use Rattle.rules.specs.Lists.{Words, holds}
use Rattle.rules.specs.Layout.{header_definitions, header_generics, header_impls, header_length, definition_bindings, definition_named, definition_implicit, definition_length, generics_table_word, generics_impl_params, generics_length, impl_table_word, impl_args_word, impl_length, impl_param_args, impl_param_length, binding_length, member_length, node_children, node_length, cell_length, question_table, question_args, question_length}
use Rattle.rules.specs.Sheet.{at, chain, records}
use Rattle.rules.specs.Chains.{zero_or_from, chain_keeps, head_keeps, no_heads, cells_keep, nodes_keep, plain_keep, definitions_keep, impl_params_keep, generics_keep, impls_keep, sheet_keeps, impl_question_keeps, flex_question_keeps}
use Rattle.rules.specs.ChainLaws.{chain_rule, keeps_heads}
use Rattle.rules.specs.CheckLaws.{both, part}
use Rattle.rules.specs.Members.{In}
use Rattle.values.specs.Folds.{Forward, keeps_forward}
use Rattle.values.specs.Tables.{Rows}

-- The chain from a head keeps the rule.
head_chain : (lo : ℕ) (s : Words) (len : ℕ) (heads : ℕ → Bool) (h : ℕ) → T (head_keeps lo s len heads h) → T (chain_keeps s len heads h)
unfolding head_keeps
head_chain lo s len heads h t = go (zero_or_from lo h) t
  where
    go : (b : Bool) → T (elim b as (λ x. Bool) [ true ↦ chain_keeps s len heads h | false ↦ false ]) → T (chain_keeps s len heads h)
    go true u = u
    go false u = absurd u

-- A slice with a head in it has words.
has_words : (s : Words) (k : ℕ) → (at s k ≡ 0) ⊎ (0 < length s)
has_words [] k = inl refl
has_words (x ∷ xs) k = inr (omega arith)

module _ (lo : ℕ) (s : Words) (len : ℕ) (long : 0 < len) (heads : ℕ → Bool) (k : ℕ) (t : T (head_keeps lo s len heads (at s k))) where
  forward_of : Forward s (at s k)
  forward_of = keeps_forward long ((chain_rule s len long heads (at s k) (has_words s k)).0 (head_chain lo s len heads (at s k) t))

  inner_of : (p : ℕ) → In p (chain s (at s k)) → T (heads p)
  inner_of p m = keeps_heads s len long heads (at s k) (head_chain lo s len heads (at s k) t) p m

cells_forward : (lo : ℕ) (s : Words) (k : ℕ) → T (cells_keep lo s (at s k)) → Forward s (at s k)
unfolding cells_keep
cells_forward lo s k t = forward_of lo s cell_length (omega arith) no_heads k t

nodes_rows : (lo : ℕ) (s : Words) (k : ℕ) → T (nodes_keep lo s (at s k)) → Rows s (at s k) node_children
unfolding nodes_keep
nodes_rows lo s k t = record {
  forward = forward_of lo s node_length (omega arith) (λ p. cells_keep lo s (at s (p + node_children))) k t;
  inner = λ p m. cells_forward lo s (p + node_children) (inner_of lo s node_length (omega arith) (λ q. cells_keep lo s (at s (q + node_children))) k t p m);
}

params-rows : (s : Words) (k : ℕ) → T (impl_params_keep s (at s k)) → Rows s (at s k) impl_param_args
unfolding impl_params_keep
params-rows s k t = record {
  forward = forward_of header_length s impl_param_length (omega arith) (λ p. cells_keep header_length s (at s (p + impl_param_args))) k t;
  inner = λ p m. cells_forward header_length s (p + impl_param_args) (inner_of header_length s impl_param_length (omega arith) (λ q. cells_keep header_length s (at s (q + impl_param_args))) k t p m);
}

plain_forward : (s : Words) (len k : ℕ) → 0 < len → T (plain_keep s len (at s k)) → Forward s (at s k)
unfolding plain_keep
plain_forward s len k long t = forward_of header_length s len long no_heads k t

-- Of a definition's record, of that of generics, and of an impl's.
pub record Definition (s : Words) (p : ℕ) : Type 0 where
  pub bindings : Forward s (at s (p + definition_bindings))
  pub named : Forward s (at s (p + definition_named))
  pub implicit : Forward s (at s (p + definition_implicit))

-- Of generics.
pub record Generics (s : Words) (p : ℕ) : Type 0 where
  pub table : Rows s (at s (p + generics_table_word)) node_children
  pub params : Rows s (at s (p + generics_impl_params)) impl_param_args

-- Of an impl.
pub record Impl (s : Words) (p : ℕ) : Type 0 where
  pub table : Rows s (at s (p + impl_table_word)) node_children
  pub args : Forward s (at s (p + impl_args_word))

-- What 7 promises of a sheet.
pub record Kept (s : Words) : Type 0 where
  pub definitions : (p : ℕ) → In p (records s header_definitions) → Definition s p
  pub generics : (p : ℕ) → In p (records s header_generics) → Generics s p
  pub impls : (p : ℕ) → In p (records s header_impls) → Impl s p

-- 7 promises it.
pub kept : (s : Words) → T (sheet_keeps s) → Kept s
unfolding sheet_keeps definitions_keep generics_keep impls_keep records
kept s t = let h = part _ t in record {
  definitions = λ p m.
      let u = part _ (inner_of header_length s definition_length (omega arith) (λ q. holds (plain_keep s binding_length (at s (q + definition_bindings)) ∷ plain_keep s member_length (at s (q + definition_named)) ∷ plain_keep s member_length (at s (q + definition_implicit)) ∷ [])) header_definitions (h 0) p m) in
      record {
        bindings = plain_forward s binding_length (p + definition_bindings) (omega arith) (u 0);
        named = plain_forward s member_length (p + definition_named) (omega arith) (u 1);
        implicit = plain_forward s member_length (p + definition_implicit) (omega arith) (u 2);
      };
  generics = λ p m.
      let u = both (nodes_keep header_length s (at s (p + generics_table_word))) (impl_params_keep s (at s (p + generics_impl_params))) (inner_of header_length s generics_length (omega arith) (λ q. nodes_keep header_length s (at s (q + generics_table_word)) && impl_params_keep s (at s (q + generics_impl_params))) header_generics (h 1) p m) in
      record { table = nodes_rows header_length s (p + generics_table_word) u.0; params = params-rows s (p + generics_impl_params) u.1 };
  impls = λ p m.
      let u = both (nodes_keep header_length s (at s (p + impl_table_word))) (cells_keep header_length s (at s (p + impl_args_word))) (inner_of header_length s impl_length (omega arith) (λ q. nodes_keep header_length s (at s (q + impl_table_word)) && cells_keep header_length s (at s (q + impl_args_word))) header_impls (h 3) p m) in
      record { table = nodes_rows header_length s (p + impl_table_word) u.0; args = cells_forward header_length s (p + impl_args_word) u.1 };
}

-- What 11 promises of a question.
pub record Asked (q : Words) : Type 0 where
  pub table : Rows q (at q question_table) node_children
  pub args : Forward q (at q question_args)

-- 11 promises it.
pub asked : (q : Words) → T (impl_question_keeps q) → Asked q
unfolding impl_question_keeps
asked q t =
    let u = both (nodes_keep question_length q (at q question_table)) (cells_keep question_length q (at q question_args)) t in
    record { table = nodes_rows question_length q question_table u.0; args = cells_forward question_length q question_args u.1 }

-- 11 promises as much of a flex question's table.
pub flex_asked : (q : Words) → T (flex_question_keeps q) → Rows q (at q question_table) node_children
unfolding flex_question_keeps
flex_asked q t = nodes_rows question_length q question_table t
