-- Numbers and counts of a call after its checks: the search with its outcome (document 01, "Turning a call away", 14 to 26).
use Rattle.std.specs.Prelude.{ℕ, zero, suc, ◌+◌, ◌≤◌, ◌<◌, max, ◌≡◌, Bool, true, not, ◌&&◌, ◌||◌, List, [], ◌∷◌, ◌++◌, ◌⊎◌, eqb, ltb, length, get_or}
use Rattle.std.proofs.Math.Path.{refl}
use Rattle.std.proofs.Common.{inl, le_refl}
use Rattle.std.proofs.Math.Bool.{false}
use Rattle.std.proofs.Math.Logic.{inr}
use Rattle.std.proofs.Math.Option.{none, some, some-injective, none-ne-some}
use native.Mathlib.Omega.{arith}
use Rattle.rules.specs.Lists.{Words, any}
use Rattle.rules.specs.Limits.{limit_nodes, limit_depth}
use Rattle.rules.specs.Layout.{answer_length, question_type, header_fork, header_drop}
use Rattle.rules.specs.Sheet.{at}
use Rattle.rules.specs.Types.{Types, UnifyResult, success, failure, indeterminate, ImplType, self_inverse}
use Rattle.rules.specs.Transfer.{import_impl_type, export_impl_type, export_types, type_of_word}
use Rattle.rules.specs.Run.{Out, got, refused, asked}
use Rattle.rules.specs.RunLaws.{Says, Refuses, Between}
use Rattle.rules.specs.Search.{Trees, Result, Finder, question}
use Rattle.rules.specs.Stops.{In_search}
use Rattle.rules.specs.Answer.{answer}
use Rattle.rules.specs.Calls.{question_types, impl_query, impl_outcome, flex_searches, first_tree, is_found, import_result, unify_first, flex_results, unset}
use Rattle.rules.specs.FlexLaws.{All_ask}

-- An answer has its first words, 0 to 5, and is as many words as its word 3 says.
abbrev pub Counted : Words → Type 0
Counted ws = (answer_length ≤ length ws) × (at ws 3 ≡ length ws)

answer-counted : (t u : Trees) (inv self : Bool) (n : ℕ) (ts : Types) → Counted (answer t u inv self n ts)
unfolding answer
answer-counted t u inv self n ts = omega arith

-- The impl call's search and outcome: 14 to 21, 18 by count included.
pub impl_outcome_says : (s q : Words) (o : Out (List Result)) → Refuses In_search o → Says (Between 14 21) Counted (impl_outcome s q o)
unfolding impl_outcome
impl_outcome_says s q (refused n) h = omega arith
impl_outcome_says s q (got []) h = omega arith
impl_outcome_says s q (got (r ∷ (r' ∷ rs))) h = omega arith
impl_outcome_says s q (got (r ∷ [])) h = go (ltb limit_nodes (length w.1)) refl
  where
    w : ImplType × Types
    w = import_impl_type r.0 none (export_impl_type (question_types q) (impl_query q)).0 (question_types q)

    go : (b : Bool) → ltb limit_nodes (length w.1) ≡ b → Says (Between 14 21) Counted (impl_outcome s q (got (r ∷ [])))
    go true e = rw (e, impl_outcome) (omega arith)
    go false e = rw (e, impl_outcome) (answer-counted _ _ _ _ _ _)

-- The flex call's outcome after its searches: 14 to 17, 21, 24 to 26. 24 is said with the count above the limit and only then.
abbrev pub Outcomes : ℕ → Type 0
Outcomes n = Between 14 17 n ⊎ Between 21 21 n ⊎ Between 25 26 n

pub flex_results_say : (s q : Words) (rs : List (List Result)) → Says Outcomes Counted (flex_results s q rs)
unfolding flex_results
flex_results_say s q rs =
    let ts = question_types q in
    let ty = type_of_word (at q question_type) in
    let e = export_types ts (ty ∷ []) in
    let r : ℕ → List Result = λ k. get_or rs k [] in
    let pos = is_found (r 0) || is_found (r 1) in
    let neg = is_found (r 2) || is_found (r 3) in
    let self = self_inverse s ts ty in
    let inv = not pos && neg in
    let fork = elim inv as (λ b. List Result) [ true ↦ r 2 | false ↦ r 0 ] in
    let drop = elim inv as (λ b. List Result) [ true ↦ r 3 | false ↦ r 1 ] in
    let w = import_result fork e.0 ts in
    let v = import_result drop e.0 w.1 in
    let m = unify_first s v.1 w.0 v.0 in
    let us = (unify_first s m.1 (ty ∷ []) (w.0 ++ v.0)).1 in
    go (any (λ fs. ltb 1 (length fs)) rs) (pos && neg && not self) (ltb limit_nodes (length v.1)) m.0
    (answer (first_tree fork) (first_tree drop) inv self (length ts) us) (answer-counted (first_tree fork) (first_tree drop) inv self (length ts) us)
  where
    go : (a b c : Bool) (v : UnifyResult) (ws : Words) → Counted ws → Says {A = Words} Outcomes Counted (elim a as (λ x. Out Words) [
      | true ↦ refused 21
      | false ↦ elim b as (λ x. Out Words) [
        | true ↦ refused 25
        | false ↦ elim c as (λ x. Out Words) [ true ↦ refused 14 | false ↦ elim v as (λ x. Out Words) [ failure ↦ refused 26 | success ↦ got ws | indeterminate ↦ got ws ] ]
      ]
    ])
    go true b c v ws h = inr (inl (omega arith))
    go false true c v ws h = inr (inr (omega arith))
    go false false true v ws h = inl (omega arith)
    go false false false failure ws h = inr (inr (omega arith))
    go false false false success ws h = h
    go false false false indeterminate ws h = h

-- From its search on the impl call refuses with 14 to 21,
abbrev pub Impl_late : ℕ → Type 0
Impl_late = Between 14 21

-- the flex call with 14 to 17 or 21 to 26: 18 and 19 never come out of it.
abbrev pub Flex_late : ℕ → Type 0
Flex_late n = Between 14 17 n ⊎ Between 21 26 n

-- Before the search: 22 and 23.
pub unset_numbers : (s : Words) (n : ℕ) → unset s ≡ some n → Between 22 23 n
unfolding unset
unset_numbers s n e = go (eqb (at s header_fork) 0) refl (eqb (at s header_drop) 0) refl
  where
    go : (b : Bool) → eqb (at s header_fork) 0 ≡ b → (c : Bool) → eqb (at s header_drop) 0 ≡ c → Between 22 23 n
    go true p c r = omega (arith, some-injective _ _ (rw (p, unset) at e))
    go false p true r = omega (arith, some-injective _ _ (rw (p, r, unset) at e))
    go false p false r = absurd (none-ne-some n (rw (p, r, unset) at e))

-- The numbers of a flex outcome are none of 22 to 24.
outcomes_late : (n : ℕ) → Outcomes n → Flex_late n
outcomes_late n (inl b) = inl b
outcomes_late n (inr (inl b)) = inr (omega arith)
outcomes_late n (inr (inr b)) = inr (omega arith)

pub outcomes_apart : (n : ℕ) → Outcomes n → ¬ Between 22 24 n
outcomes_apart n (inl b) k = omega arith
outcomes_apart n (inr (inl b)) k = omega arith
outcomes_apart n (inr (inr b)) k = omega arith

pub says_late : (o : Out Words) → Says Outcomes Counted o → Says Flex_late Counted o
says_late (got ws) h = h
says_late (refused n) h = outcomes_late n h

-- The part of a call after the checks, from the start count c under the step limit L; k is how many searches it makes. Its refusals are Late and its answers counted;
-- 22 and 23 leave the count, any other end is above it (a question was asked), and each search ends at most 1 above the limit, or above its start where that is higher.
pub record Searched (Late : ℕ → Type 0) (L k c : ℕ) (r : Out Words × ℕ) : Type 0 where
  pub says : Says Late Counted r.0
  pub leaves : (n : ℕ) → r.0 ≡ refused n → Between 22 23 n → r.1 ≡ c
  pub reached : ((n : ℕ) → r.0 ≡ refused n → ¬ Between 22 23 n) → c < r.1
  pub most : r.1 ≤ max L c + k

-- A question asks itself at least.
pub asks_one : (d : ℕ) (a : Finder) (basic : Bool) (ts : Types) (q : ImplType) → 1 ≤ asked (question d a basic ts q)
unfolding question asked
asks_one zero a basic ts q = le_refl 1
asks_one (suc d) a basic ts q = omega arith

-- Each of the flex call's four searches asks a question and stops with 14 to 19.
pub all_ask : (a : Finder) (q : Words) → All_ask (flex_searches a q)
unfolding flex_searches
all_ask a q = (asks_one limit_depth a false _ _, (asks_one limit_depth a false _ _, (asks_one limit_depth a false _ _, (asks_one limit_depth a false _ _, tt))))

abbrev pub Flex_free_late : ℕ → Type 0
Flex_free_late n = Between 22 23 n ⊎ Outcomes n
