-- What the members of the search rely on: a checked call, the sets of its source, lent slices, and a neat table whose nodes the question's types are.
use Rattle.std.specs.Prelude.{ℕ, ◌+◌, ◌*◌, ◌≤◌, ◌<◌, ◌≡◌, refl, Bool, List, [], map, ltb, length, take, drop, Option, Some, None, Ok, Err}
use Rattle.std.specs.Prelude.{Result as Outcome}
use Rattle.std.proofs.Common.{sym, ◌∙◌, ap, subst, arith}
use Rattle.rules.specs.Lists.{Words}
use Rattle.rules.specs.Sheet.{at}
use Rattle.rules.specs.Types.{Types, ImplType}
use Rattle.rules.specs.Run.{Run, done, stop, ◌>>=◌, within}
use Rattle.rules.specs.Search.{Result, find_subimpls, try_candidate, before_candidates}
use Rattle.rules.specs.Search as rules
use Rattle.rules.specs.Solutions.{AllIn}
use Rattle.rules.specs.CheckedTables.{Ready}
use Rattle.rules.specs.Neat.{Neat, QueriesIn}
use Rattle.table.specs.Packing.{types_of, Packed}
use Rattle.slots.specs.Slots.{Table, table_move}
use Rattle.slots.specs.Adding.{under}
use Rattle.slots.specs.Turns.{Asked, Answers}
use Rattle.slots.specs.Parts.{part}
use Rattle.refusals.specs.declared.Refusal.{Refusal}
use Rattle.refusals.specs.Numbers.{number_of}
use Rattle.admitted.specs.Found.{Stands}
use Rattle.queries.specs.declared.Query.{Query}
use Rattle.queries.specs.declared.Queries.{Queries}
use Rattle.queries.specs.Queries.{query_of, query_in, queries_of, queries_next}
use Rattle.queries.specs.Takes.{Taken}
use Rattle.steps.specs.declared.Finder.{Finder}

-- The rules' finder.
abbrev pub finder_of : Words → Finder → rules.Finder
finder_of s f = record { sheet = s; source = f.source; generics = f.generics }

-- The call has passed its checks, whatever its question was.
pub record Sound (a : rules.Finder) : Type 0 where
  pub question : Words
  pub ready : Ready a question

-- The words of candidate sets, and those behind them.
unfoldable pub sets_of : Words → Words
sets_of ws = take 34948 ws

unfoldable pub takes_of : Words → Words
takes_of ws = drop 34948 ws

-- And the sets of its source stand; behind them, what signatures and impl parameters take.
pub record Searching (s sets : Words) (f : Finder) : Type 0 where
  pub sound : Sound (finder_of s f)
  pub stands : Stands s f.source (sets_of sets)
  pub low : f.limit ≤ 4000000000
  pub taken : Taken s f.generics (takes_of sets)
  pub long : 34948 ≤ length sets

-- Slices lent for imports from s: a table of a checked sheet has at most a fifth as many nodes as the sheet has words.
pub record Scratch (s places map : Words) : Type 0 where
  pub places_long : length s ≤ 5 * length places
  pub map_long : length s ≤ 5 * length map
  pub marks_long : 256 ≤ length map

pub scratch_kept : (s ps ms qs ns : Words) → Scratch s ps ms → length qs ≡ length ps → length ns ≡ length ms → Scratch s qs ns
scratch_kept s ps ms qs ns h e d = record { places_long = omega (arith, h.places_long); map_long = omega (arith, h.map_long); marks_long = omega (arith, h.marks_long) }

-- A question of the table in slot 0.
pub record Asking (ws : Words) (q : Query) : Type 0 where
  pub packed : Packed ws
  pub neat : Neat (types_of ws)
  pub inside : AllIn (length (types_of ws)) (query_of q).1
  pub few : q.n ≤ 4

-- Sub-questions of it, from one on.
pub record Tail (ws : Words) (qs : Queries) (from : ℕ) : Type 0 where
  pub packed : Packed ws
  pub neat : Neat (types_of ws)
  pub inside : QueriesIn (length (types_of ws)) (drop from (queries_of qs))
  pub few : qs.n ≤ 4
  pub counts : (k : ℕ) → (query_in qs k).n ≤ 4

-- The first of them.
pub tail_asking : (ws : Words) (qs : Queries) (from : ℕ) → Tail ws qs from → from < qs.n → Asking ws (query_in qs from)
tail_asking ws qs from t h = record {
  packed = t.packed;
  neat = t.neat;
  inside = (subst (QueriesIn (length (types_of ws))) (queries_next qs from h) t.inside).0;
  few = t.counts from;
}

-- Slot 0 is as it was.
pub record Front (ws out : Words) : Type 0 where
  pub len : length out ≡ length ws
  pub at : (i : ℕ) → i < 1282 → at out i ≡ at ws i

-- Slots 0 to 4 are as they were.
pub record Opened (ws out : Words) : Type 0 where
  pub len : length out ≡ length ws
  pub at : (i : ℕ) → i < 6410 → at out i ≡ at ws i

-- A question begins: built-ins and impl parameters have given results.
pub record Begins (a : rules.Finder) (basic : Bool) (ws : Words) (q : ImplType) (count : ℕ) (r : Asked) (out : Words) : Type 0 where
  pub front : Front ws out
  pub at : (L : ℕ) → Answers (within (ltb L) (before_candidates a basic (types_of ws) q) count) r out

-- A candidate is opened: refused, or it does not unify, or r has its sub-questions, whose table is behind slot 4.
pub record Opens (s ws : Words) (q : ImplType) (i : ℕ) (r : Outcome (Option Queries) Refusal) (out : Words) : Type 0 where
  pub opened : Opened ws out
  pub full : (refusal : Refusal) → r ≡ Err refusal → (ask : Types → ImplType → Run (List Result)) → try_candidate ask s (types_of ws) q i ≡ stop (number_of refusal)
  pub unfit : r ≡ Ok None → (ask : Types → ImplType → Run (List Result)) → try_candidate ask s (types_of ws) q i ≡ done []
  pub asks : (qs : Queries) → r ≡ Ok (Some qs) → (ask : Types → ImplType → Run (List Result)) → try_candidate ask s (types_of ws) q i ≡ (find_subimpls ask (types_of (part 6410 out)) (queries_of qs) >>= λ rs. done (map (under i) rs))
  pub tail : (qs : Queries) → r ≡ Ok (Some qs) → Tail (part 6410 out) qs 0

-- Slot 0 is as it was: so is its table.
pub front_table : (ws us : Words) → length us ≡ length ws → ((i : ℕ) → i < 1282 → at us i ≡ at ws i) → Packed ws → Table us 0 (types_of ws)
front_table ws us e h p = table_move ws us 0 0 (types_of ws) (omega (arith, p.long)) (λ i l m. ap (at us) (let z : 0 + i ≡ i = omega arith in z) ∙ h i (omega arith) ∙ ap (at ws) (let z : i ≡ 0 + i = omega arith in z)) (record { packed = p; is = refl })

pub asking_table : (ws us : Words) (q : Query) → Asking ws q → Table us 0 (types_of ws) → Asking us q
asking_table ws us q a t = record {
  packed = t.packed;
  neat = subst Neat (sym t.is) a.neat;
  inside = subst (λ (ts : Types). AllIn (length ts) (query_of q).1) (sym t.is) a.inside;
  few = a.few;
}
