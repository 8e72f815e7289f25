-- The two calls, `try_find_impl` and `find_flex`: outcomes 20 to 26 in their order, the last import and the closing joins;
-- then each whole call: the number or the answer's words, the count after, and what answer buffer and workspace then hold.
use Rattle.std.specs.Prelude.{ℕ, Bool, true, false, not, ◌&&◌, ◌||◌, List, [], ◌∷◌, ◌++◌, map, eqb, ltb, leb, length, get_or, drop, replicate}
use Rattle.std.proofs.Math.Option.{Option, none, some}
use Rattle.rules.specs.Lists.{Words, any}
use Rattle.rules.specs.Limits.{limit_workspace, limit_nodes, limit_depth}
use Rattle.rules.specs.Layout.{header_fork, header_drop, question_table, question_trait, question_args, question_type}
use Rattle.rules.specs.Sheet.{at}
use Rattle.rules.specs.Types.{Ty, Types, success, failure, indeterminate, Unified, ImplType, invert_if, self_inverse, unify, unify_impl_type}
use Rattle.rules.specs.Transfer.{import_types, import_impl_type, export_types, export_impl_type, type_of_word, cell_types, table}
use Rattle.rules.specs.Run.{Run, Out, got, refused, free, within}
use Rattle.rules.specs.Search.{Finder, Trees, end, Result, question}
use Rattle.rules.specs.Answer.{answer}
use Rattle.rules.specs.Check.{refusal, entry, impl_checks, flex_checks}

-- The caller's types: the question's table.
unfoldable pub question_types : Words → Types
question_types q = table q (at q question_table)

-- The impl call's query: a trait? and its arguments.
unfoldable pub impl_query : Words → ImplType
impl_query q = (at q question_trait, cell_types q (at q question_args))

-- Its search: the exported query is asked, the top question being at depth 1.
unfoldable pub impl_search : Finder → Bool → Words → Run (List Result)
impl_search a basic q = let e = export_impl_type (question_types q) (impl_query q) in question limit_depth a basic e.1 e.0

-- Its outcome: 20 `CannotFindImpl`, 21 `AmbiguousImpl`; then the last import (14) and the closing join. Where that fails, the answer stands as the joining left the types.
unfoldable pub impl_outcome : Words → Words → Out (List Result) → Out Words
impl_outcome s q (refused n) = refused n
impl_outcome s q (got []) = refused 20
impl_outcome s q (got (r ∷ (r' ∷ rs))) = refused 21
impl_outcome s q (got (r ∷ [])) =
    let ts = question_types q in
    let sub = (export_impl_type ts (impl_query q)).0 in
    let w = import_impl_type r.0 none sub ts in
    elim (ltb limit_nodes (length w.1)) [
      | true ↦ refused 14
      | false ↦ got (answer r.1 end false false (length ts) (unify_impl_type s w.1 (impl_query q) w.0).1)
    ]

-- The impl call's search and outcome with no step limit.
unfoldable pub impl_free : Finder → Bool → Words → Out Words
impl_free a basic q = impl_outcome a.sheet q (free (impl_search a basic q))

-- The impl call's search and outcome under a step limit, from a count.
unfoldable pub impl_within : (ℕ → Bool) → Finder → Bool → Words → ℕ → Out Words × ℕ
impl_within over a basic q c =
    let r = within over (impl_search a basic q) c in
    (impl_outcome a.sheet q r.0, r.1)

-- In the flex call 18 and 19 count as "nothing found"; 14 to 17 don't.
unfoldable pub or_nothing : Out (List Result) → Out (List Result)
or_nothing (got fs) = got fs
or_nothing (refused n) = elim (eqb n 18 || eqb n 19) [ true ↦ got [] | false ↦ refused n ]

-- Results in front of those of later questions.
abbrev pub with_first : List Result → Out (List (List Result)) → Out (List (List Result))
with_first fs (got gs) = got (fs ∷ gs)
with_first fs (refused n) = refused n

-- One search read, then the rest, with what is carried from one to the next: a count, or nothing.
unfoldable pub onward : {C : Type 0} → (C → Out (List (List Result)) × C) → Out (List Result) × C → Out (List (List Result)) × C
onward rest o = elim (or_nothing o.0) [ refused n ↦ (refused n, o.1) | got fs ↦ let q = rest o.1 in (with_first fs q.0, q.1) ]

-- Searches read in turn.
unfoldable pub in_turn : {C : Type 0} → (Run (List Result) → C → Out (List Result) × C) → List (Run (List Result)) → C → Out (List (List Result)) × C
in_turn read [] c = (got [], c)
in_turn read (r ∷ rs) c = onward (λ d. in_turn read rs d) (read r c)

-- The flex call's four questions: fork, drop, fork of the inverse, drop of the inverse.
unfoldable pub flex_searches : Finder → Words → List (Run (List Result))
flex_searches a q =
    let e = export_types (question_types q) (type_of_word (at q question_type) ∷ []) in
    let ask : ℕ → Bool → Run (List Result) = λ h inv. question limit_depth a false e.1 (at a.sheet h, map (invert_if inv) e.0) in
    ask header_fork false ∷ ask header_drop false ∷ ask header_fork true ∷ ask header_drop true ∷ []

-- A flex question's tree, or none.
unfoldable pub first_tree : List Result → Trees
first_tree [] = end
first_tree (f ∷ fs) = f.1

-- A flex question found something.
abbrev pub is_found : List Result → Bool
is_found [] = false
is_found (f ∷ fs) = true

-- The last import of a flex question's result, if there is one: the type there (or none), and the table.
unfoldable pub import_result : List Result → List Ty → Types → List Ty × Types
import_result [] ty ts = ([], ts)
import_result (f ∷ fs) ty ts = import_types f.0 none ty ts

-- Two types that may be absent: joined where both are there.
unfoldable pub unify_first : Words → Types → List Ty → List Ty → Unified
unify_first s ts [] us = (success, ts)
unify_first s ts (t ∷ r) [] = (success, ts)
unify_first s ts (t ∷ r) (u ∷ v) = unify s ts t u

-- What the four lists of results come to: 21, 25 `BiFlexible`, the last import (14), 26 `IncompatibleForkDropInference`, the closing join.
unfoldable pub flex_results : Words → Words → List (List Result) → Out Words
flex_results s q rs =
    let ts = question_types q in
    let ty = type_of_word (at q question_type) in
    let e = export_types ts (ty ∷ []) in
    let r : ℕ → List Result = λ k. get_or rs k [] in
    let pos = is_found (r 0) || is_found (r 1) in
    let neg = is_found (r 2) || is_found (r 3) in
    let self = self_inverse s ts ty in
    let inv = not pos && neg in
    let fork = elim inv as (λ b. List Result) [ true ↦ r 2 | false ↦ r 0 ] in
    let drop = elim inv as (λ b. List Result) [ true ↦ r 3 | false ↦ r 1 ] in
    let w = import_result fork e.0 ts in
    let v = import_result drop e.0 w.1 in
    let m = unify_first s v.1 w.0 v.0 in
    let found = got (answer (first_tree fork) (first_tree drop) inv self (length ts) (unify_first s m.1 (ty ∷ []) (w.0 ++ v.0)).1) in
    elim (any (λ fs. ltb 1 (length fs)) rs) [
      | true ↦ refused 21
      | false ↦ elim (pos && neg && not self) [
        | true ↦ refused 25
        | false ↦ elim (ltb limit_nodes (length v.1)) [
          | true ↦ refused 14
          | false ↦ elim m.0 [ failure ↦ refused 26 | success ↦ found | indeterminate ↦ found ]
        ]
      ]
    ]

-- 24 `FlexSearchLimit` comes first, only with the count above the step limit.
unfoldable pub flex_outcome : Words → Words → Bool → Out (List (List Result)) → Out Words
flex_outcome s q over (refused n) = refused n
flex_outcome s q over (got rs) = elim over [ true ↦ refused 24 | false ↦ flex_results s q rs ]

-- Before the search: 22 Fork unset, 23 Drop unset.
unfoldable pub unset : Words → Option ℕ
unset s = elim (eqb (at s header_fork) 0) [ true ↦ some 22 | false ↦ elim (eqb (at s header_drop) 0) [ true ↦ some 23 | false ↦ none ] ]

-- A search read with no limit carries nothing.
abbrev pub plainly : {A : Type 0} → Run A → Unit {0} → Out A × Unit {0}
plainly r u = (free r, u)

-- The flex call's search and outcome with no step limit.
unfoldable pub flex_free : Finder → Words → Out Words
flex_free a q = elim (unset a.sheet) [ some n ↦ refused n | none ↦ flex_outcome a.sheet q false (in_turn plainly (flex_searches a q) tt).0 ]

-- The flex call's search and outcome under a step limit, from a count.
unfoldable pub flex_within : (ℕ → Bool) → Finder → Words → ℕ → Out Words × ℕ
flex_within over a q c =
    let r = in_turn (within over) (flex_searches a q) c in
    elim (unset a.sheet) [ some n ↦ (refused n, c) | none ↦ (flex_outcome a.sheet q (over r.1) r.0, r.1) ]

-- "The search without a step limit" of the impl call, with the checks that come between entry and search. It has no count, answer buffer or workspace.
unfoldable pub free_find_impl : Finder → ℕ → Words → Out Words
free_find_impl a basic q = elim (refusal (impl_checks a basic q)) [ some n ↦ refused n | none ↦ impl_free a (eqb basic 1) q ]

-- "The search without a step limit" of the flex call, in the same way.
unfoldable pub free_find_flex : Finder → Words → Out Words
free_find_flex a q = elim (refusal (flex_checks a q)) [ some n ↦ refused n | none ↦ flex_free a q ]

-- The whole impl call: the number or the answer, and the count after. L is the step limit (calls pass `limit_steps`), answer and work are the lengths of the buffers, c is the start count.
unfoldable pub try_find_impl : ℕ → Finder → ℕ → Words → ℕ → ℕ → ℕ → Out Words × ℕ
try_find_impl L a basic q answer work c =
    elim (refusal (entry a.sheet q answer work c ++ impl_checks a basic q)) [ some n ↦ (refused n, c) | none ↦ impl_within (ltb L) a (eqb basic 1) q c ]

-- The whole flex call, in the same way.
unfoldable pub find_flex : ℕ → Finder → Words → ℕ → ℕ → ℕ → Out Words × ℕ
find_flex L a q answer work c =
    elim (refusal (entry a.sheet q answer work c ++ flex_checks a q)) [ some n ↦ (refused n, c) | none ↦ flex_within (ltb L) a q c ]

-- The answer buffer after: an answer overwrites its own words; no refusal writes the answer.
unfoldable pub answer_after : Out Words → Words → Words
answer_after (got ws) buf = ws ++ drop (length ws) buf
answer_after (refused n) buf = buf

-- The workspace after: untouched by 1 to 5, else its first words, up to the constant, are zero and the rest untouched.
unfoldable pub work_after : Out Words → Words → Words
work_after (got ws) work = replicate limit_workspace 0 ++ drop limit_workspace work
work_after (refused n) work = elim (leb n 5) [ true ↦ work | false ↦ replicate limit_workspace 0 ++ drop limit_workspace work ]
