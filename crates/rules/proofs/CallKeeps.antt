-- Tables stay neat through the whole calls: the search of each, its last import and its closing joins, for every call that no check from 6 to 13 refuses.
use Rattle.std.specs.Prelude.{ℕ, ◌/◌, ◌≤◌, ◌<◌, ◌≡◌, Bool, ◌||◌, length}
use Rattle.std.proofs.Math.Path.{refl, subst}
use Rattle.std.proofs.Common.{sym, arith, ltb→lt}
use Rattle.std.proofs.Math.Bool.{true, false}
use mathlib.Core.List.{List, [], ◌∷◌, ◌++◌, map}
use Rattle.std.proofs.Math.Option.{none}
use Rattle.std.proofs.Math.Nat.{le_refl}
use Rattle.std.proofs.Math.Dec.{T, eqb}
use Rattle.rules.specs.Lists.{Words}
use Rattle.rules.specs.Limits.{limit_sheet, limit_depth}
use Rattle.rules.specs.Layout.{header_fork, header_drop, question_table, question_args, question_type}
use Rattle.rules.specs.Sheet.{at, chain}
use Rattle.rules.specs.Types.{Ty, Types, Unified, ImplType, invert_if, unify_impl_type}
use Rattle.rules.specs.Transfer.{import_impl_type, export_types, export_impl_type, type_of_word, cell_types}
use Rattle.rules.specs.Run.{Run, Out, got, refused}
use Rattle.rules.specs.Search.{Finder, Result, question}
use Rattle.rules.specs.Values.{in_table, args_ok, impl_question_values, flex_question_values}
use Rattle.rules.specs.Check.{refusal, of_sheet, of_ids, of_impl_question, of_flex_question, impl_checks, flex_checks}
use Rattle.rules.specs.Calls.{question_types, impl_query, impl_search, or_nothing, with_first, onward, in_turn, flex_searches, import_result, unify_first}
use Rattle.rules.specs.Robinson.{AllIn, flip_in}
use Rattle.rules.specs.CheckedSheet.{part}
use Rattle.rules.specs.CheckLaws.{unrefused, not_not}
use Rattle.rules.specs.CheckedTables.{table_length_lem, Ready}
use Rattle.rules.proofs.CheckedTables.{impl_ready, flex_ready}
use Rattle.rules.specs.Yields.{Every, Yields, Comes}
use Rattle.rules.specs.Neat.{Neat, in_more, in_append, in_checked, Brought, Joined, low_none, types_brought, query_brought, types_exported, query_exported, unify_neat, unify_query_neat, question_neat}
use Rattle.rules.specs.SearchKeeps.{Kept, AllKept}
use Rattle.rules.proofs.SearchKeeps.{question_keeps}

-- The impl call.
module _ (a : Finder) (basic : ℕ) (q : Words) (short : length a.sheet ≤ limit_sheet) (passed : refusal (impl_checks a basic q) ≡ none) where
  impl_ready' : Ready a q
  impl_ready' = impl_ready a basic q short passed

  caller_neat : Neat (question_types q)
  unfolding question_types
  caller_neat = question_neat a q impl_ready'

  query_in : AllIn (length (question_types q)) (impl_query q).1
  unfolding impl_checks of_sheet of_ids of_impl_question impl_question_values args_ok question_types impl_query
  query_in = in_checked _ _ (subst (λ k. T (in_table k (cell_types q (at q question_args)))) (sym (table_length_lem q (at q question_table))) (part _ (part _ (not_not (impl_question_values a.sheet a.generics q) (unrefused (impl_checks a basic q) passed 6)) 1) 2))

  -- What is asked: the exported query.
  abbrev asked : ImplType × Types
  asked = export_impl_type (question_types q) (impl_query q)

  asked_neat : Brought [] asked.0.1 asked.1
  asked_neat = query_exported (question_types q) caller_neat (impl_query q) query_in

  -- Every result's table is neat, and no smaller than the one asked.
  pub impl_search_keeps : (b : Bool) → Yields (AllKept (export_impl_type (question_types q) (impl_query q)).1) (impl_search a b q)
  unfolding impl_search
  impl_search_keeps b = question_keeps a q impl_ready' limit_depth b asked.1 asked.0 asked_neat.neat asked_neat.inside

  -- Of a result:
  module _ (r : Result) (k : Kept asked.1 r) where
    abbrev last : ImplType × Types
    last = import_impl_type r.0 none asked.0 (question_types q)

    -- the last import,
    pub impl_last : Brought (question_types q) last.0.1 last.1
    impl_last = query_brought r.0 k.neat none (question_types q) caller_neat (low_none (question_types q)) asked.0 (in_more (length asked.1) (length r.0) k.grown asked.0.1 asked_neat.inside)

    -- and the closing join.
    pub impl_closed : Joined last.1 (unify_impl_type a.sheet last.1 (impl_query q) last.0).1
    impl_closed = unify_query_neat a.sheet last.1 (impl_query q) last.0 impl_last.neat (in_more (length (question_types q)) (length last.1) impl_last.grown (impl_query q).1 query_in) impl_last.inside

-- Searches read in turn.
module _ {C : Type 0} (P : List Result → Type 0) (nothing : P []) (read : Run (List Result) → C → Out (List Result) × C) (reads : (r : Run (List Result)) (c : C) → Yields P r → Comes P (read r c).0) where
  nothing_comes : (o : Out (List Result)) → Comes P o → Comes P (or_nothing o)
  unfolding or_nothing
  nothing_comes (got fs) h = h
  nothing_comes (refused n) h = go (eqb n 18 || eqb n 19) refl
    where
      go : (b : Bool) → (eqb n 18 || eqb n 19) ≡ b → Comes P (or_nothing (refused n))
      go true e = rw (e, or_nothing) nothing
      go false e = rw (e, or_nothing) tt

  first_comes : (fs : List Result) (o : Out (List (List Result))) → P fs → Comes (Every P) o → Comes (Every P) (with_first fs o)
  first_comes fs (got gs) h k = (h, k)
  first_comes fs (refused n) h k = tt

  onward_comes : (rest : C → Out (List (List Result)) × C) → ((c : C) → Comes (Every P) (rest c).0) → (o : Out (List Result) × C) → Comes P o.0 → Comes (Every P) (onward rest o).0
  unfolding onward
  onward_comes rest h o k = go (or_nothing o.0) refl (nothing_comes o.0 k)
    where
      go : (w : Out (List Result)) → or_nothing o.0 ≡ w → Comes P w → Comes (Every P) (onward rest o).0
      go (refused n) e l = rw (e, onward) tt
      go (got fs) e l = rw (e, onward) (first_comes fs (rest o.1).0 l (h o.1))

  -- What each yields, all come to; nothing, where 18 or 19 ended one.
  pub in_turn_comes : (rs : List (Run (List Result))) → Every (Yields P) rs → (c : C) → Comes (Every P) (in_turn read rs c).0
  unfolding in_turn
  in_turn_comes [] h c = tt
  in_turn_comes (r ∷ rs) h c = onward_comes (λ d. in_turn read rs d) (in_turn_comes rs h.1) (read r c) (reads r c h.0)

-- Types that may be absent, joined where both are there.
first_joined : (s : Words) (ts : Types) (xs ys : List Ty) → Neat ts → AllIn (length ts) xs → AllIn (length ts) ys → Joined ts (unify_first s ts xs ys).1
unfolding unify_first
first_joined s ts [] ys n h k = record { neat = n; len = refl }
first_joined s ts (x ∷ xs) [] n h k = record { neat = n; len = refl }
first_joined s ts (x ∷ xs) (y ∷ ys) n h k = unify_neat s ts x y n h.0 k.0

-- The flex call.
module _ (a : Finder) (q : Words) (short : length a.sheet ≤ limit_sheet) (passed : refusal (flex_checks a q) ≡ none) where
  flex_ready' : Ready a q
  flex_ready' = flex_ready a q short passed

  flex_caller_neat : Neat (question_types q)
  unfolding question_types
  flex_caller_neat = question_neat a q flex_ready'

  abbrev asked_type : Ty
  asked_type = type_of_word (at q question_type)

  type_in : asked_type.1 < length (question_types q)
  unfolding flex_checks of_sheet of_ids of_flex_question flex_question_values question_types type_of_word
  type_in = subst (λ k. at q question_type / 2 < k) (sym (table_length_lem q (at q question_table))) (ltb→lt (at q question_type / 2) (length (chain q (at q question_table))) (part _ (not_not (flex_question_values a.sheet a.generics q) (unrefused (flex_checks a q) passed 6)) 1))

  -- What is asked: the exported type, upright and inverted.
  abbrev exported : List Ty × Types
  exported = export_types (question_types q) (asked_type ∷ [])

  exported_neat : Brought [] exported.0 exported.1
  exported_neat = types_exported (question_types q) flex_caller_neat (asked_type ∷ []) (type_in, tt)

  -- Every result's table of each of the four questions is neat, and no smaller than the one asked.
  pub flex_searches_keep : Every (Yields (AllKept (export_types (question_types q) (type_of_word (at q question_type) ∷ [])).1)) (flex_searches a q)
  unfolding flex_searches
  flex_searches_keep = (each header_fork false, (each header_drop false, (each header_fork true, (each header_drop true, tt))))
    where
      each : (h : ℕ) (inv : Bool) → Yields (AllKept exported.1) (question limit_depth a false exported.1 (at a.sheet h, map (invert_if inv) exported.0))
      each h inv = question_keeps a q flex_ready' limit_depth false exported.1 (at a.sheet h, map (invert_if inv) exported.0) exported_neat.neat (flip_in inv (length exported.1) exported.0 exported_neat.inside)

  -- The last import of a question's results.
  result_brought : (fs : List Result) (ts : Types) → AllKept exported.1 fs → Neat ts → Brought ts (import_result fs exported.0 ts).0 (import_result fs exported.0 ts).1
  unfolding import_result
  result_brought [] ts h n = record { neat = n; grown = le_refl (length ts); inside = tt }
  result_brought (f ∷ fs) ts h n = types_brought f.0 h.0.neat none ts n (low_none ts) exported.0 (in_more (length exported.1) (length f.0) h.0.grown exported.0 exported_neat.inside)

  -- Of the results of the fork and the drop question that count:
  module _ (fork drop : List Result) (f : AllKept exported.1 fork) (d : AllKept exported.1 drop) where
    abbrev forked : List Ty × Types
    forked = import_result fork exported.0 (question_types q)

    abbrev dropped : List Ty × Types
    dropped = import_result drop exported.0 forked.1

    abbrev joined : Unified
    joined = unify_first a.sheet dropped.1 forked.0 dropped.0

    -- the last import of the fork result, where there is one,
    pub fork_brought : Brought (question_types q) forked.0 forked.1
    fork_brought = result_brought fork (question_types q) f flex_caller_neat

    -- and of the drop result,
    pub drop-brought : Brought forked.1 dropped.0 dropped.1
    drop-brought = result_brought drop forked.1 d fork_brought.neat

    forked_in : AllIn (length dropped.1) forked.0
    forked_in = in_more (length forked.1) (length dropped.1) drop-brought.grown forked.0 fork_brought.inside

    -- their join,
    pub flex_joined : Joined dropped.1 joined.1
    flex_joined = first_joined a.sheet dropped.1 forked.0 dropped.0 drop-brought.neat forked_in drop-brought.inside

    -- and the closing join.
    pub flex_closed : Joined joined.1 (unify_first a.sheet joined.1 (asked_type ∷ []) (forked.0 ++ dropped.0)).1
    flex_closed =
        first_joined a.sheet joined.1 (asked_type ∷ []) (forked.0 ++ dropped.0) flex_joined.neat
        (omega (arith, flex_joined.len, drop-brought.grown, fork_brought.grown, type_in), tt)
        (subst (λ k. AllIn k (forked.0 ++ dropped.0)) (sym flex_joined.len) (in_append (length dropped.1) forked.0 dropped.0 forked_in drop-brought.inside))
