-- What the checks give: a question's table has at most 256 nodes and is neat, and what is asked are types of it.
use Rattle.std.specs.Prelude.{ℕ, ◌/◌, ◌≤◌, ◌<◌, ◌≡◌, length}
use Rattle.std.proofs.Common.{sym, arith, ltb→lt}
use Rattle.std.proofs.Math.Path.{subst}
use Rattle.std.proofs.Math.Option.{none}
use Rattle.std.proofs.Math.Dec.{T}
use Rattle.rules.specs.Lists.{Words}
use Rattle.rules.specs.Limits.{limit_sheet, limit_question, limit_nodes}
use Rattle.rules.specs.Layout.{question_table, question_args, question_type, question_length}
use Rattle.rules.specs.Sheet.{at, chain}
use Rattle.rules.specs.Types.{ImplType}
use Rattle.rules.specs.Transfer.{type_of_word, cell_types}
use Rattle.rules.specs.Solutions.{AllIn}
use Rattle.rules.specs.Search.{Finder}
use Rattle.rules.specs.Chains.{cells_keep, nodes_keep, impl_question_keeps, flex_question_keeps}
use Rattle.rules.specs.Values.{in_table, args_ok, impl_question_values, flex_question_values}
use Rattle.rules.specs.Check.{refusal, of_sheet, of_ids, of_impl_question, of_flex_question, impl_checks, flex_checks}
use Rattle.rules.specs.CheckLaws.{both, part, unrefused, not_not}
use Rattle.rules.specs.CheckedTables.{table_length_lem}
use Rattle.rules.proofs.CheckedTables.{impl_ready, flex_ready}
use Rattle.rules.specs.Neat.{in_checked, question_neat}
use Rattle.rules.specs.Calls.{question_types, impl_query}
use Rattle.queries.specs.declared.Query.{Query}
use Rattle.queries.specs.Queries.{query_of}
use Rattle.queries.specs.Sizes.{nodes_few}
use Rattle.loading.specs.Nodes.{Fitting}
use Rattle.loading.specs.Exports.{Asks}

table_few : (q : Words) → T (nodes_keep question_length q (at q question_table)) → length q ≤ limit_question → length (question_types q) ≤ limit_nodes
unfolding question_types
table_few q t h = omega (arith, table_length_lem q (at q question_table), nodes_few question_length q question_table t)

module _ (a : Finder) (basic : ℕ) (q : Words) (passed : refusal (impl_checks a basic q) ≡ none) (sheet_short : length a.sheet ≤ limit_sheet) (short : length q ≤ limit_question) where
  -- An impl call: its table,
  pub impl_fitting : Fitting (question_types q)
  unfolding impl_checks of_sheet of_ids of_impl_question impl_question_keeps question_types
  impl_fitting = record {
    neat = question_neat a q (impl_ready a basic q sheet_short passed);
    few = table_few q (both (nodes_keep question_length q (at q question_table)) (cells_keep question_length q (at q question_args)) (not_not (impl_question_keeps q) (unrefused (impl_checks a basic q) passed 5))).0 short;
  }

  -- and its query.
  pub impl_inside : AllIn (length (question_types q)) (impl_query q).1
  unfolding impl_checks of_sheet of_ids of_impl_question impl_question_values args_ok question_types impl_query
  impl_inside = in_checked _ _ (subst (λ k. T (in_table k (cell_types q (at q question_args)))) (sym (table_length_lem q (at q question_table))) (part _ (part _ (not_not (impl_question_values a.sheet a.generics q) (unrefused (impl_checks a basic q) passed 6)) 1) 2))

  pub impl_asks : (r : Query) → r.n ≤ 4 → query_of r ≡ impl_query q → Asks (question_types q) r
  impl_asks r h e = record { neat = impl_fitting.neat; few = h; inside = subst (λ (i : ImplType). AllIn (length (question_types q)) i.1) (sym e) impl_inside }

module _ (a : Finder) (q : Words) (passed : refusal (flex_checks a q) ≡ none) (sheet_short : length a.sheet ≤ limit_sheet) (short : length q ≤ limit_question) where
  -- A flex call: its table,
  pub flex_fitting : Fitting (question_types q)
  unfolding flex_checks of_sheet of_ids of_flex_question flex_question_keeps question_types
  flex_fitting = record {
    neat = question_neat a q (flex_ready a q sheet_short passed);
    few = table_few q (not_not (flex_question_keeps q) (unrefused (flex_checks a q) passed 5)) short;
  }

  -- and its type.
  pub flex_inside : at q question_type / 2 < length (question_types q)
  unfolding flex_checks of_sheet of_ids of_flex_question flex_question_values question_types type_of_word
  flex_inside = subst (λ k. at q question_type / 2 < k) (sym (table_length_lem q (at q question_table))) (ltb→lt (at q question_type / 2) (length (chain q (at q question_table))) (part _ (not_not (flex_question_values a.sheet a.generics q) (unrefused (flex_checks a q) passed 6)) 1))
