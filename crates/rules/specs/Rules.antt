-- Naming `rules` on an `unfolding` line opens every rule of document 01: the pinned cases and the witnesses are computed with it.
use Rattle.rules.specs.Lists.{any, all, select, concat_map, range, optional, optional_list, is_in, holds}
use Rattle.rules.specs.Limits.{limit_workspace}
use Rattle.rules.specs.Sheet.{record_words, chain_of, chain, records, many, field, parent, trait_vis, def_trait, bindings, named_members, implicit_members, import_def, type_params, generics_table, impl_param_records, trait_def, trait_arity, inherent_params, impl_generics, impl_flag, impl_trait, impl_table, impl_args, kinds, self_dual, kind_flag}
use Rattle.rules.specs.Types.{new_node, node_at, invert_if, invert_state, find, state_at, size_at, kind, occurs_in, self_inverse_in, self_inverse, from_bool, relabel, or_else, hang, larger, join, unify_each, unify_types, last_of, unify_children, unify_known, join_on_success, bind_unknown, unify_states, unify_roots, unify_in, unify, unify_impl_type, approx_eq}
use Rattle.rules.specs.Transfer.{mapped, param_for, transfer_each, transfer_in, transfer_types, import_types, import_impl_type, transfer_impl_types, import_impl_types, export_types, export_impl_type, type_of_word, cell_types, node_state, new_nodes, table}
use Rattle.rules.specs.Reach.{any_below, grow, round, rounds, closure, mark_all, marks_of, reach}
use Rattle.rules.specs.Candidates.{get_member, member_edges, binding_edges, for_each_child, edges, node_count, graph, linked, same_component, ancestors_of, ancestors, visible, open_edge, may_take, binds, may_enter, gets_to, admitted, get_candidates, general_candidates}
use Rattle.rules.specs.Run.{◌>>=◌, free, asked, within}
use Rattle.rules.specs.Search.{tree_size, add_results, collect, check_nodes, impl_signature, impl_params, find_auto_impl, find_auto_impls, from_impl_params, get_mod_in, get_mod, inherent_mods, find_impl_candidates, before, find_subimpls, fresh_params, with_fresh, try_candidate, before_candidates, question}
use Rattle.rules.specs.Chains.{zero_or_from, record_keeps, chain_keeps, head_keeps, cells_keep, nodes_keep, plain_keep, definitions_keep, impl_params_keep, generics_keep, impls_keep, sheet_keeps, impl_question_keeps, flex_question_keeps}
use Rattle.rules.specs.Values.{is_id, is_optional, is_vis, binding_ok, member_ok, definition_ok, id_bound, node_fits, node_ok, table_ok, arity, args_ok, generics_ok, trait_ok, impl_ok, opaque_ok, struct_ok, closure_ok, import_ok, flex_trait_ok, definitions_ok, sheet_values, impl_question_values, flex_question_values}
use Rattle.rules.specs.Acyclic.{children, above, heights, acyclic, sheet_acyclic, question_acyclic}
use Rattle.rules.specs.Check.{refusal, of_length, entry, of_sheet, of_ids, of_impl_question, of_flex_question, impl_checks, flex_checks}
use Rattle.rules.specs.Answer.{head_or_zero, tree_head, pack_trees, word_of_type, pack_cells, pack_nodes, answer}
use Rattle.rules.specs.Calls.{question_types, impl_query, impl_search, impl_outcome, impl_free, impl_within, or_nothing, onward, in_turn, flex_searches, first_tree, import_result, unify_first, flex_results, flex_outcome, unset, flex_free, flex_within, free_find_impl, free_find_flex, try_find_impl, find_flex, answer_after, work_after}
use Rattle.rules.specs.Listing.{words_of_bytes, listing, decimal_in, decimal, line_text, listing_text, list_bytes}

unfoldable pub rules : Unit {0}
unfolding any all select concat_map range optional optional_list is_in holds limit_workspace record_words chain_of chain records many field parent trait_vis def_trait bindings named_members implicit_members import_def type_params generics_table impl_param_records trait_def trait_arity inherent_params impl_generics impl_flag impl_trait impl_table impl_args kinds self_dual kind_flag new_node node_at invert_if invert_state find state_at size_at kind occurs_in self_inverse_in self_inverse from_bool relabel or_else hang larger join unify_each unify_types last_of unify_children unify_known join_on_success bind_unknown unify_states unify_roots unify_in unify unify_impl_type approx_eq mapped param_for transfer_each transfer_in transfer_types import_types import_impl_type transfer_impl_types import_impl_types export_types export_impl_type type_of_word cell_types node_state new_nodes table any_below grow round rounds closure mark_all marks_of reach get_member member_edges binding_edges for_each_child edges node_count graph linked same_component ancestors_of ancestors visible open_edge may_take binds may_enter gets_to admitted get_candidates general_candidates ◌>>=◌ free asked within tree_size add_results collect check_nodes impl_signature impl_params find_auto_impl find_auto_impls from_impl_params get_mod_in get_mod inherent_mods find_impl_candidates before find_subimpls fresh_params with_fresh try_candidate before_candidates question zero_or_from record_keeps chain_keeps head_keeps cells_keep nodes_keep plain_keep definitions_keep impl_params_keep generics_keep impls_keep sheet_keeps impl_question_keeps flex_question_keeps is_id is_optional is_vis binding_ok member_ok definition_ok id_bound node_fits node_ok table_ok arity args_ok generics_ok trait_ok impl_ok opaque_ok struct_ok closure_ok import_ok flex_trait_ok definitions_ok sheet_values impl_question_values flex_question_values children above heights acyclic sheet_acyclic question_acyclic refusal of_length entry of_sheet of_ids of_impl_question of_flex_question impl_checks flex_checks head_or_zero tree_head pack_trees word_of_type pack_cells pack_nodes answer question_types impl_query impl_search impl_outcome impl_free impl_within or_nothing onward in_turn flex_searches first_tree import_result unify_first flex_results flex_outcome unset flex_free flex_within free_find_impl free_find_flex try_find_impl find_flex answer_after work_after words_of_bytes listing decimal_in decimal line_text listing_text list_bytes
rules = tt
