-- No walk of a checked sheet's or question's chain is cut short: the count that only serves termination is never used up.
-- (Ancestors: AncestorLaws. The rounds of `closure`: ReachLaws.)
use Rattle.std.specs.Prelude.{ℕ, ◌+◌, ◌<◌, ◌≡◌, refl, Bool, true, false, [], ◌∷◌, ◌⊎◌, T, length}
use Rattle.std.proofs.Common.{inl, inr, zero-lt-suc, lit<}
use Rattle.std.proofs.Math.Option.{none}
use Rattle.rules.specs.Lists.{Words}
use Rattle.rules.specs.Layout.{header_length, header_definitions, header_generics, header_traits, header_impls, header_opaques, header_structs, header_enums, header_unions, header_closures, header_imports, definition_bindings, definition_named, definition_implicit, definition_length, binding_length, member_length, generics_table_word, generics_impl_params, generics_length, impl_param_args, impl_param_length, impl_table_word, impl_args_word, impl_length, node_children, node_length, cell_length, question_table, question_args, question_length}
use Rattle.rules.specs.Sheet.{at, chain, records}
use Rattle.rules.specs.Search.{Finder}
use Rattle.rules.specs.Chains.{zero_or_from, chain_keeps, head_keeps, no_heads, cells_keep, nodes_keep, plain_keep, definitions_keep, impl_params_keep, generics_keep, impls_keep, impl_question_keeps, flex_question_keeps}
use Rattle.rules.specs.Check.{refusal, of_sheet, of_ids, of_impl_question, of_flex_question, impl_checks, flex_checks}
use Rattle.rules.specs.Members.{In}
use Rattle.rules.specs.CheckLaws.{both, part, unrefused, not_not}
use Rattle.rules.specs.ChainLaws.{Whole, keeps_whole, keeps_heads}

-- A table's chain is walked whole, and so are the children of each node.
pub record WholeTable (w : Words) (h : ℕ) : Type 0 where
  pub nodes : Whole w h
  pub children : (p : ℕ) → In p (chain w h) → Whole w (at w (p + node_children))

-- Every chain of a sheet: the ten of the header, and those of the heads in their records.
pub record SheetWhole (s : Words) : Type 0 where
  pub definitions : Whole s (at s header_definitions)
  pub generics : Whole s (at s header_generics)
  pub traits : Whole s (at s header_traits)
  pub impls : Whole s (at s header_impls)
  pub opaques : Whole s (at s header_opaques)
  pub structs : Whole s (at s header_structs)
  pub enums : Whole s (at s header_enums)
  pub unions : Whole s (at s header_unions)
  pub closures : Whole s (at s header_closures)
  pub imports : Whole s (at s header_imports)
  pub bindings : (p : ℕ) → In p (records s header_definitions) → Whole s (at s (p + definition_bindings))
  pub named : (p : ℕ) → In p (records s header_definitions) → Whole s (at s (p + definition_named))
  pub implicit : (p : ℕ) → In p (records s header_definitions) → Whole s (at s (p + definition_implicit))
  pub generics_tables : (p : ℕ) → In p (records s header_generics) → WholeTable s (at s (p + generics_table_word))
  pub impl_params : (p : ℕ) → In p (records s header_generics) → Whole s (at s (p + generics_impl_params))
  pub impl_param_args_lem : (p : ℕ) → In p (records s header_generics) → (i : ℕ) → In i (chain s (at s (p + generics_impl_params))) → Whole s (at s (i + impl_param_args))
  pub impl_tables : (p : ℕ) → In p (records s header_impls) → WholeTable s (at s (p + impl_table_word))
  pub impl_args : (p : ℕ) → In p (records s header_impls) → Whole s (at s (p + impl_args_word))

-- A head is a word of the slice: none but zero is read from an empty one.
head_in : (s : Words) (j : ℕ) → (at s j ≡ 0) ⊎ (0 < length s)
head_in [] j = inl refl
head_in (w ∷ s) j = inr (zero-lt-suc (length s))

-- A head that keeps the rule: its chain does.
head_chain : (lo : ℕ) (s : Words) (len : ℕ) (heads : ℕ → Bool) (h : ℕ) → T (head_keeps lo s len heads h) → T (chain_keeps s len heads h)
unfolding head_keeps
head_chain lo s len heads h t = go (zero_or_from lo h) t
  where
    go : (b : Bool) → T (elim b as (λ x. Bool) [ true ↦ chain_keeps s len heads h | false ↦ false ]) → T (chain_keeps s len heads h)
    go true u = u
    go false u = absurd u

-- The chain from a head at place j is walked whole, and the heads in its records keep the rule.
module _ (lo : ℕ) (s : Words) (len : ℕ) (long : 0 < len) (heads : ℕ → Bool) (j : ℕ) (t : T (head_keeps lo s len heads (at s j))) where
  head_whole : Whole s (at s j)
  head_whole = keeps_whole s len long heads (at s j) (head_in s j) (head_chain lo s len heads (at s j) t)

  head_heads : (p : ℕ) → In p (chain s (at s j)) → T (heads p)
  head_heads p i = keeps_heads s len long heads (at s j) (head_chain lo s len heads (at s j) t) p i

pub cells_whole : (lo : ℕ) (s : Words) (j : ℕ) → T (cells_keep lo s (at s j)) → Whole s (at s j)
unfolding cells_keep
cells_whole lo s j t = head_whole lo s cell_length (lit< tt) no_heads j t

pub nodes_whole : (lo : ℕ) (s : Words) (j : ℕ) → T (nodes_keep lo s (at s j)) → WholeTable s (at s j)
unfolding nodes_keep
nodes_whole lo s j t = record {
  nodes = head_whole lo s node_length (lit< tt) _ j t;
  children = λ p i. cells_whole lo s (p + node_children) (head_heads lo s node_length (lit< tt) _ j t p i);
}

pub plain-whole : (s : Words) (len j : ℕ) → 0 < len → T (plain_keep s len (at s j)) → Whole s (at s j)
unfolding plain_keep
plain-whole s len j long t = head_whole header_length s len long no_heads j t

module _ (s : Words) (j : ℕ) where
  module _ (t : T (definitions_keep s (at s j))) where
    pub definitions_whole : Whole s (at s j)
    unfolding definitions_keep
    definitions_whole = head_whole header_length s definition_length (lit< tt) _ j t

    -- Head k of a definition: bindings, named members, implicit members.
    pub definition_bindings_lem : (p : ℕ) → In p (chain s (at s j)) → Whole s (at s (p + definition_bindings))
    unfolding definitions_keep
    definition_bindings_lem p i = plain-whole s binding_length (p + definition_bindings) (lit< tt) (part _ (head_heads header_length s definition_length (lit< tt) _ j t p i) 0)

    pub definition_named_lem : (p : ℕ) → In p (chain s (at s j)) → Whole s (at s (p + definition_named))
    unfolding definitions_keep
    definition_named_lem p i = plain-whole s member_length (p + definition_named) (lit< tt) (part _ (head_heads header_length s definition_length (lit< tt) _ j t p i) 1)

    pub definition_implicit_lem : (p : ℕ) → In p (chain s (at s j)) → Whole s (at s (p + definition_implicit))
    unfolding definitions_keep
    definition_implicit_lem p i = plain-whole s member_length (p + definition_implicit) (lit< tt) (part _ (head_heads header_length s definition_length (lit< tt) _ j t p i) 2)

  module _ (t : T (impl_params_keep s (at s j))) where
    pub impl_params-whole : Whole s (at s j)
    unfolding impl_params_keep
    impl_params-whole = head_whole header_length s impl_param_length (lit< tt) _ j t

    pub impl_param_args-whole : (p : ℕ) → In p (chain s (at s j)) → Whole s (at s (p + impl_param_args))
    unfolding impl_params_keep
    impl_param_args-whole p i = cells_whole header_length s (p + impl_param_args) (head_heads header_length s impl_param_length (lit< tt) _ j t p i)

  module _ (t : T (generics_keep s (at s j))) where
    pub generics_whole : Whole s (at s j)
    unfolding generics_keep
    generics_whole = head_whole header_length s generics_length (lit< tt) _ j t

    pub generics_heads : (p : ℕ) → In p (chain s (at s j)) → T (nodes_keep header_length s (at s (p + generics_table_word))) × T (impl_params_keep s (at s (p + generics_impl_params)))
    unfolding generics_keep
    generics_heads p i = both (nodes_keep header_length s (at s (p + generics_table_word))) (impl_params_keep s (at s (p + generics_impl_params))) (head_heads header_length s generics_length (lit< tt) _ j t p i)

  module _ (t : T (impls_keep s (at s j))) where
    pub impls_whole : Whole s (at s j)
    unfolding impls_keep
    impls_whole = head_whole header_length s impl_length (lit< tt) _ j t

    pub impls_heads : (p : ℕ) → In p (chain s (at s j)) → T (nodes_keep header_length s (at s (p + impl_table_word))) × T (cells_keep header_length s (at s (p + impl_args_word)))
    unfolding impls_keep
    impls_heads p i = both (nodes_keep header_length s (at s (p + impl_table_word))) (cells_keep header_length s (at s (p + impl_args_word))) (head_heads header_length s impl_length (lit< tt) _ j t p i)

-- A question that passes 11: its table, and for the impl call its arguments.
pub impl_question-whole : (f : Finder) (basic : ℕ) (q : Words) → refusal (impl_checks f basic q) ≡ none → WholeTable q (at q question_table) × Whole q (at q question_args)
unfolding impl_checks of_sheet of_ids of_impl_question impl_question_keeps
impl_question-whole f basic q e =
    let t = both (nodes_keep question_length q (at q question_table)) (cells_keep question_length q (at q question_args)) (not_not (impl_question_keeps q) (unrefused (impl_checks f basic q) e 5)) in
    (nodes_whole question_length q question_table t.0, cells_whole question_length q question_args t.1)

pub flex_question-whole : (f : Finder) (q : Words) → refusal (flex_checks f q) ≡ none → WholeTable q (at q question_table)
unfolding flex_checks of_sheet of_ids of_flex_question flex_question_keeps
flex_question-whole f q e = nodes_whole question_length q question_table (not_not (flex_question_keeps q) (unrefused (flex_checks f q) e 5))
