-- The next candidate of a question, or none: what the code leaves.
use Rattle.std.specs.Prelude.{ℕ, ◌≤◌, ◌≡◌, map, length, take, Option}
use Rattle.std.specs.Prelude.{Result as Outcome}
use Rattle.std.proofs.Common.{sym, arith, length-take-le, subst, length-take}
use Rattle.rules.specs.Lists.{Words}
use Rattle.rules.specs.Transfer.{type_of_word}
use Rattle.table.specs.Packing.{types_of}
use Rattle.candidates.specs.Index.{Indexes}
use Rattle.admitted.specs.declared.Found.{Found as Sets}
use Rattle.refusals.specs.declared.Refusal.{Refusal}
use Rattle.admitted.specs.Found.{Stands, Finds, Gives}
use Rattle.queries.specs.declared.Query.{Query}
use Rattle.queries.specs.Queries.{four, query_of}
use Rattle.queries.specs.Rows.{query_types}
use Rattle.transfer.specs.Imports.{types_in}
use Rattle.rules.specs.Types.{ImplType}
use Rattle.steps.specs.Asking.{sets_of}

-- The part of the sets.
pub sets_length : (xs : Words) → 34948 ≤ length xs → 34948 ≡ length (take 34948 xs)
sets_length xs h = sym (length-take-le 34948 xs h)

pub sets_stand : (s : Words) (src : ℕ) (xs : Words) → Stands s src (sets_of xs) → Stands s src (take 34948 xs)
unfolding sets_of
sets_stand s src xs h = h

pub sets_give : (s xs : Words) (f : Sets) (from : ℕ) (r : Option ℕ) → Gives s (take 34948 xs) f from r → Gives s (sets_of xs) f from r
unfolding sets_of
sets_give s xs f from r h = h

pub sets_index : (s xs : Words) → Indexes s (sets_of xs) → Indexes s (take 34948 xs)
unfolding sets_of
sets_index s xs h = h

-- A question's words are the first of its four,
pub finds_query : (s ws : Words) (src basic : ℕ) (q : Query) (r : Outcome Sets Refusal) → Finds s src (types_of ws) (q.tr, map type_of_word (take q.n (four q.args))) basic r → Finds s src (types_of ws) (query_of q) basic r
unfolding query_of
finds_query s ws src basic q r h = h

-- and of its array, where that has four.
pub args_few : (q : Query) → q.n ≤ 4 → length (take q.n q.args) ≤ 4
args_few q h = omega (arith, length-take q.n q.args)

pub args_find : (s ws : Words) (src basic : ℕ) (q : Query) (r : Outcome Sets Refusal) → length q.args ≡ 4 → Finds s src (types_of ws) (q.tr, map type_of_word (take q.n q.args)) basic r → Finds s src (types_of ws) (query_of q) basic r
unfolding types_in
args_find s ws src basic q r e h = subst (λ (x : ImplType). Finds s src (types_of ws) x basic r) (sym (query_types q e)) h
