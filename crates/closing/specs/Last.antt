-- The last import of a result, and the closing join: what they leave is a neat table still.
use Rattle.std.specs.Prelude.{ℕ, ◌-◌, ◌≤◌, ◌≡◌, Bool, false, map, length, take, drop}
use Rattle.std.proofs.Common.{sym, ◌∙◌, ap, arith, length-take, length-drop, take_all}
use Rattle.std.proofs.Math.Path.{subst}
use Rattle.std.proofs.Math.Option.{none}
use Rattle.rules.specs.Lists.{Words}
use Rattle.rules.specs.Types.{Unified, unify_impl_type}
use Rattle.rules.specs.Solutions.{AllIn}
use Rattle.rules.specs.Readings.{readable_ranked}
use Rattle.rules.specs.Transfer.{type_of_word, import_types}
use Rattle.rules.specs.Neat.{Neat}
use Rattle.table.specs.Packing.{types_of, Packed, Good}
use Rattle.table.specs.Nodes.{types_few}
use Rattle.transfer.specs.Moving.{params_of}
use Rattle.transfer.specs.Imports.{types_in, Imports}
use Rattle.memo.specs.declared.verdict.UnifyResult.{UnifyResult}
use Rattle.unify.specs.Results.{Unifies, Leaves}
use Rattle.unify.specs.Lists.{Nodes}
use Rattle.queries.specs.declared.Query.{Query}
use Rattle.queries.specs.Queries.{four, query_of}
use Rattle.loading.specs.Exports.{Asks, four-all}

-- All words from a place on.
pub tail_all : (s : Words) (a : ℕ) → a ≤ length s → take (length s - a) (drop a s) ≡ drop a s
tail_all s a h = take_all (length s - a) (drop a s) (omega (arith, length-drop a s))

-- A table has no more nodes than the mapping has words.
pub source_room : (ws ms : Words) → 256 ≤ length ms → length (types_of ws) ≤ length ms
source_room ws ms h = omega (arith, types_few ws)

-- Without parameters.
pub plainly : (ps ws dst us ts vs : Words) (m : ℕ) (r : Bool) → Imports (import_types (types_of ws) (params_of false ps) (types_in m ts) (types_of dst)) us ts vs m r → Imports (import_types (types_of ws) none (types_in m ts) (types_of dst)) us ts vs m r
unfolding params_of
plainly ps ws dst us ts vs m r i = i

-- A neat table in words is good.
pub neat_good : (ws : Words) → Packed ws → Neat (types_of ws) → Good ws
neat_good ws p n = record { packed = p; formed = n.proper.formed; acyclic = readable_ranked (types_of ws) n.proper.formed n.proper.kept }

-- A query's four words are types of the table.
pub query_good : (ws : Words) (q : Query) → Packed ws → Asks (types_of ws) q → Good ws
query_good ws q p a = neat_good ws p a.neat

pub query_nodes : (ws : Words) (q : Query) → Asks (types_of ws) q → Nodes (types_of ws) (take q.n (four q.args))
unfolding query_of
query_nodes ws q a = record { there = a.inside }

pub query_length : (ws : Words) (q : Query) → Asks (types_of ws) q → q.n ≡ length (take q.n (four q.args))
query_length ws q a = omega (arith, length-take q.n (four q.args), a.few)

-- So are those of its array, where that has four.
pub args_nodes : (ws : Words) (q : Query) → length q.args ≡ 4 → Asks (types_of ws) q → Nodes (types_of ws) (take q.n q.args)
unfolding query_of
args_nodes ws q e a = record { there = subst (λ (xs : Words). AllIn (length (types_of ws)) (map type_of_word (take q.n xs))) (four-all q.args e) a.inside }

pub args_length : (ws : Words) (q : Query) → length q.args ≡ 4 → Asks (types_of ws) q → q.n ≡ length (take q.n q.args)
args_length ws q e a = omega (arith, length-take q.n q.args, a.few)

pub marks_room : (ws ms : Words) → 256 ≤ length ms → length (types_of ws) ≤ length ms
marks_room ws ms h = omega (arith, types_few ws)

pub query_joined : (s ws us ys : Words) (q : Query) (tr : ℕ) (v : UnifyResult) → Unifies us v (unify_impl_type s (types_of ws) (q.tr, map type_of_word (take q.n (four q.args))) (tr, map type_of_word ys)) → Leaves us (unify_impl_type s (types_of ws) (query_of q) (tr, map type_of_word ys))
unfolding query_of
query_joined s ws us ys q tr v u = record { good = u.good; is = ap (λ (m : Unified). m.1) u.is }

pub args_joined : (s ws us ys : Words) (q : Query) (tr : ℕ) (v : UnifyResult) → length q.args ≡ 4 → Unifies us v (unify_impl_type s (types_of ws) (q.tr, map type_of_word (take q.n q.args)) (tr, map type_of_word ys)) → Leaves us (unify_impl_type s (types_of ws) (query_of q) (tr, map type_of_word ys))
unfolding query_of
args_joined s ws us ys q tr v e u = record { good = u.good; is = ap (λ (m : Unified). m.1) (u.is ∙ ap (λ (xs : Words). unify_impl_type s (types_of ws) (q.tr, map type_of_word (take q.n xs)) (tr, map type_of_word ys)) (sym (four-all q.args e))) }
