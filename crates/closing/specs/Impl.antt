-- What one result of an impl call comes to: the last import, the closing join, and the answer.
use Rattle.std.specs.Prelude.{ℕ, ◌+◌, ◌≤◌, ◌<◌, ◌≡◌, refl, Bool, true, ◌≢◌, ltb, take, drop, replicate}
use Rattle.std.specs.Prelude.{Result as Tried, Err}
use Rattle.std.proofs.Math.Path.{sym, subst}
use Rattle.std.proofs.Common.{◌∙◌, ap, ap₂, arith, lt-ltb, le-ltb, length-take, get_or-drop, length-drop}
use Rattle.std.proofs.Math.Bool.{false}
use mathlib.Core.List.{List, [], ◌∷◌, map}
use Rattle.std.proofs.Math.Option.{none}
use Rattle.std.proofs.Math.ListN.{length}
use Rattle.rules.specs.Lists.{Words}
use Rattle.rules.specs.Limits.{limit_nodes}
use Rattle.rules.specs.Sheet.{at}
use Rattle.rules.specs.Types.{Ty, Types, Unified, ImplType, unify_impl_type}
use Rattle.rules.specs.Transfer.{type_of_word, import_types, import_impl_type, export_impl_type}
use Rattle.rules.specs.Run.{Out, got, refused}
use Rattle.rules.specs.Search.{end, Trees, Result, tree_size}
use Rattle.rules.specs.Answer.{answer}
use Rattle.rules.specs.Calls.{question_types, impl_query, impl_outcome, answer_after}
use Rattle.rules.specs.Neat.{Neat, in_more, Brought, Joined, low_none, unify_query_neat}
use Rattle.refusals.specs.declared.Refusal.{Refusal}
use Rattle.refusals.specs.declared.Refusal.TheVariants.{TypesFull}
use Rattle.refusals.specs.Numbers.{verdict_number}
use Rattle.table.specs.Packing.{types_of, Packed}
use Rattle.table.specs.Nodes.{types_few}
use Rattle.transfer.specs.Imports.{types_in, Inside, Imports}
use Rattle.transfer.specs.Callers.{inside_from, imports_brought}
use Rattle.trees.specs.Forests.{Fit, Holds}
use Rattle.slots.specs.Slots.{Slot, trees_move}
use Rattle.slots.specs.Copies.{Filled}
use Rattle.unify.specs.Results.{Leaves}
use Rattle.unify.specs.Lists.{Nodes}
use Rattle.queries.specs.declared.Query.{Query}
use Rattle.queries.specs.Queries.{four, query_of}
use Rattle.loading.specs.Exports.{Asks, four-all}
use Rattle.closing.specs.Rows.{Writes}

-- What a call comes to, in the code's terms: a number that refuses, or 0 and an answer; and the answer buffer after it.
pub record Answered (o : Out Words) : Type 0 where
  pub words : Words
  pub is : o ≡ got words

pub record Closed (o : Out Words) (buf out : Words) (n : ℕ) : Type 0 where
  pub answers : n ≡ 0 → Answered o
  pub refuses : n ≢ 0 → o ≡ refused n
  pub after : out ≡ answer_after o buf

-- What an impl call with one result comes to, over the caller's types, the query and what was exported of it.
unfoldable pub impl_closing : Words → Types → ImplType → ImplType → Result → Out Words
impl_closing s ts q sub r =
    let w = import_impl_type r.0 none sub ts in
    elim (ltb limit_nodes (length w.1)) [
      | true ↦ refused 14
      | false ↦ got (answer r.1 end false false (length ts) (unify_impl_type s w.1 q w.0).1)
    ]

-- That is the rule.
pub impl_closes : (s q : Words) (r : Result) → impl_outcome s q (got (r ∷ [])) ≡ impl_closing s (question_types q) (impl_query q) (export_impl_type (question_types q) (impl_query q)).0 r
unfolding impl_outcome impl_closing
impl_closes s q r = refl

-- One result stands in the slot at a.
pub record ClosesImpl (s : Words) (ts : Types) (query asked : ImplType) (found : Words) (a : ℕ) (buf out : Words) (n : ℕ) : Type 0 where
  pub closes : (r : Result) → Slot found a r → Closed (impl_closing s ts query asked r) buf out n

-- In the terms of the call.
pub closes_call : (s q : Words) (ts : Types) (query asked : ImplType) (found : Words) (a : ℕ) (before after : Words) (n : ℕ) → ClosesImpl s ts query asked found a before after n → ts ≡ question_types q → query ≡ impl_query q → asked ≡ (export_impl_type (question_types q) (impl_query q)).0 → (r : Result) → Slot found a r → Closed (impl_outcome s q (got (r ∷ []))) before after n
closes_call s q ts query asked found a before after n c et eq ea r h = subst (λ (o : Out Words). Closed o before after n) (ap₂ (λ (x : Types) (y : ImplType). impl_closing s x y asked r) et eq ∙ ap (λ (z : ImplType). impl_closing s (question_types q) (impl_query q) z r) ea ∙ sym (impl_closes s q r)) (c.closes r h)

-- The answer of the result in the slot at a is written.
pub record WritesImpl (found : Words) (a : ℕ) (ts : Types) (n : ℕ) (buf out : Words) : Type 0 where
  pub writes : (r : Result) → Slot found a r → out ≡ answer_after (got (answer r.1 end false false n ts)) buf

-- The query over a table that grew.
pub asks_on : (ts us : Types) (q : Query) → Neat us → length ts ≤ length us → Asks ts q → Asks us q
asks_on ts us q n l a = record { neat = n; few = a.few; inside = in_more (length ts) (length us) l (query_of q).1 a.inside }

-- The result in the slot at a, the query asked over its types, and the caller's table.
module _ (found : Words) (a : ℕ) (asked : Query) (k : Asks (types_of (drop a found)) asked) where
  pub asked_neat : Neat (types_of (drop a found))
  asked_neat = k.neat

  pub asked_few : asked.n ≤ length (four asked.args)
  asked_few = k.few

  pub asked_inside : Inside (types_of (drop a found)) (take asked.n (four asked.args))
  unfolding query_of types_in
  asked_inside = inside_from (types_of (drop a found)) asked.n (four asked.args) k.inside

  module _ (table us vs : Words) (ok : Bool) (i : Imports (import_types (types_of (drop a found)) none (types_in asked.n (four asked.args)) (types_of table)) us (four asked.args) vs asked.n ok) where
    -- No room: 14.
    pub closes_full : (s : Words) (query : Query) (buf : Words) → ok ≡ false → ClosesImpl s (types_of table) (query_of query) (query_of asked) found a buf buf 14
    unfolding impl_closing import_impl_type query_of types_in answer_after
    closes_full s query buf e = record {
      closes = λ r h.
          let full : limit_nodes < length (import_impl_type r.0 none (query_of asked) (types_of table)).1 = subst (λ (ts : Types). limit_nodes < length (import_types ts none (query_of asked).1 (types_of table)).1) h.table.is (i.comes.full e) in
          let is : impl_closing s (types_of table) (query_of query) (query_of asked) r ≡ refused 14 = rw (lt-ltb limit_nodes _ full, impl_closing) in
          record { answers = λ z. absurd (omega arith); refuses = λ z. is; after = sym (ap (λ (o : Out Words). answer_after o buf) is) };
    }

    module _ (n : Neat (types_of table)) (e : ok ≡ true) where
      brought : Brought (types_of table) (types_in asked.n vs) (types_of us)
      brought = imports_brought (types_of (drop a found)) none (types_of table) us (four asked.args) vs asked.n ok k.neat n (low_none (types_of table)) asked_inside e i

      pub last_packed : Packed us
      last_packed = i.replaces.packed

      pub last_asks : (query : Query) → Asks (types_of table) query → Asks (types_of us) query
      last_asks query q = asks_on (types_of table) (types_of us) query brought.neat brought.grown q

      pub last_nodes : Nodes (types_of us) (take asked.n vs)
      unfolding types_in
      last_nodes = record { there = brought.inside }

      pub last-length : asked.n ≡ length (take asked.n vs)
      last-length = omega (arith, length-take asked.n vs, i.replaces.len, k.few)

      pub last_long : (c m : ℕ) → c ≡ length (types_of table) → m ≡ c → m ≤ length (types_of us)
      last_long c m ec em = omega (arith, brought.grown)

      -- The answer.
      pub closes_answer : (s : Words) (query : Query) (c m : ℕ) (buf out : Words) → c ≡ length (types_of table) → m ≡ c → WritesImpl found a (unify_impl_type s (types_of us) (query_of query) (asked.tr, map type_of_word (take asked.n vs))).1 m buf out → ClosesImpl s (types_of table) (query_of query) (query_of asked) found a buf out 0
      unfolding impl_closing import_impl_type query_of types_in
      closes_answer s query c m buf out ec em w = record {
        closes = λ r h. record {
          answers = λ _. record { words = answer r.1 end false false m ends.1; is = is r h };
          refuses = λ x. absurd (x refl);
          after = w.writes r h ∙ sym (ap (λ (o : Out Words). answer_after o buf) (is r h));
        };
      }
        where
          ends : Unified
          ends = unify_impl_type s (types_of us) (query_of query) (asked.tr, map type_of_word (take asked.n vs))

          comes : (r : Result) → Slot found a r → import_types r.0 none (query_of asked).1 (types_of table) ≡ (types_in asked.n vs, types_of us)
          comes r h = ap (λ (ts : Types). import_types ts none (query_of asked).1 (types_of table)) (sym h.table.is) ∙ i.comes.is e

          few : (r : Result) → Slot found a r → length (import_types r.0 none (query_of asked).1 (types_of table)).1 ≤ limit_nodes
          few r h = subst (λ (o : List Ty × Types). length o.1 ≤ limit_nodes) (sym (comes r h)) (types_few us)

          is : (r : Result) → Slot found a r → impl_closing s (types_of table) (query_of query) (query_of asked) r ≡ got (answer r.1 end false false m ends.1)
          is r h = rw (le-ltb limit_nodes _ (few r h), impl_closing) (ap₂ (λ (x : ℕ) (y : Types). got (answer r.1 end false false x y)) (sym (em ∙ ec)) (ap (λ (o : List Ty × Types). (unify_impl_type s o.1 (query_of query) (asked.tr, o.0)).1) (comes r h)))

-- The same of slot 0 and of the query's array, where that has four words.
module _ (found : Words) (asked : Query) (k : Asks (types_of found) asked) (long : length asked.args ≡ 4) where
  pub args_inside : Inside (types_of found) (take asked.n asked.args)
  args_inside = subst (λ (xs : Words). Inside (types_of found) (take asked.n xs)) (four-all asked.args long) (asked_inside found 0 asked k)

  module _ (table us vs : Words) (ok : Bool) (i : Imports (import_types (types_of found) none (types_in asked.n asked.args) (types_of table)) us asked.args vs asked.n ok) where
    of_four : Imports (import_types (types_of found) none (types_in asked.n (four asked.args)) (types_of table)) us (four asked.args) vs asked.n ok
    of_four = subst (λ (xs : Words). Imports (import_types (types_of found) none (types_in asked.n xs) (types_of table)) us xs vs asked.n ok) (sym (four-all asked.args long)) i

    pub args_full : {A : Type 0} (s : Words) (query : Query) (buf : Words) (w : Refusal) (r : Tried A Refusal) → r ≡ Err w → ok ≡ false → w ≡ TypesFull → ClosesImpl s (types_of table) (query_of query) (query_of asked) found 0 buf buf (verdict_number r)
    args_full s query buf w o p e f = rw (p, f) (closes_full found 0 asked k table us vs ok of_four s query buf e)

    module _ (n : Neat (types_of table)) (e : ok ≡ true) where
      pub args_ask : (query : Query) → Asks (types_of table) query → Asks (types_of us) query
      args_ask = last_asks found 0 asked k table us vs ok of_four n e

      pub args_nodes : Nodes (types_of us) (take asked.n vs)
      args_nodes = last_nodes found 0 asked k table us vs ok of_four n e

      pub args_long : (c : ℕ) → c ≡ length (types_of table) → c ≤ length (types_of us)
      args_long c ec = last_long found 0 asked k table us vs ok of_four n e c c ec refl

      pub args_answer : (s : Words) (query : Query) (c : ℕ) (buf out : Words) → c ≡ length (types_of table) → WritesImpl found 0 (unify_impl_type s (types_of us) (query_of query) (asked.tr, map type_of_word (take asked.n vs))).1 c buf out → ClosesImpl s (types_of table) (query_of query) (query_of asked) found 0 buf out 0
      args_answer s query c buf out ec w = closes_answer found 0 asked k table us vs ok of_four n e s query c c buf out ec refl w

-- A slot's trees, as those of a buffer alone.
pub holds_behind : (ws : Words) (a : ℕ) (t : Trees) → Holds ws a t → Holds (drop a ws) 0 t
holds_behind ws a t h = trees_move ws (drop a ws) a 0 t (λ i l. ap (at (drop a ws)) (let e : 0 + i ≡ i = omega arith in e) ∙ get_or-drop a ws i 0) h

-- What `write_impl` needs of the slot, and what it writes.
pub slot_trees_lem : (found : Words) (a b : ℕ) → Filled found a → b ≡ a + 1025 → b + 257 ≤ length found
slot_trees_lem found a b f e = omega (arith, f.slot.room)

pub behind_room : (found trees : Words) → Filled found 0 → trees ≡ drop 1025 found → 257 ≤ length trees
behind_room found trees f e = omega (arith, f.slot.room, ap (λ (l : Words). length l) e, length-drop 1025 found)

-- An array of zeros holds no trees.
pub no_trees : Holds (replicate 257 0) 0 end
unfolding tree_size Fit
no_trees = record { count = refl; few = omega arith; lies = record { there = λ i l. absurd (omega arith); fit = tt } }

pub writes_impl : (found : Words) (a : ℕ) (ts : Types) (n : ℕ) (buf out : Words) → Writes found (a + 1025) (replicate 257 0) 0 false false ts n buf out → WritesImpl found a ts n buf out
writes_impl found a ts n buf out w = record { writes = λ r h. w.at r.1 end h.trees no_trees }

pub behind_writes : (found trees : Words) (ts : Types) (n : ℕ) (buf out : Words) → trees ≡ drop 1025 found → Writes trees 0 (replicate 257 0) 0 false false ts n buf out → WritesImpl found 0 ts n buf out
behind_writes found trees ts n buf out e w = record { writes = λ r h. w.at r.1 end (subst (λ (l : Words). Holds l 0 r.1) (sym e) (holds_behind found 1025 r.1 h.trees)) no_trees }

-- After the closing join.
module _ (s ws us ys : Words) (q : Query) (tr : ℕ) (k : Asks (types_of ws) q) (y : Nodes (types_of ws) ys) (l : Leaves us (unify_impl_type s (types_of ws) (query_of q) (tr, map type_of_word ys))) where
  joined : Joined (types_of ws) (types_of us)
  joined = subst (Joined (types_of ws)) (sym l.is) (unify_query_neat s (types_of ws) (query_of q) (tr, map type_of_word ys) k.neat k.inside y.there)

  pub joined_neat : Neat (types_of us)
  joined_neat = joined.neat

  pub joined_long : (n : ℕ) → n ≤ length (types_of ws) → n ≤ length (types_of us)
  joined_long n h = omega (arith, joined.len)
