-- A query exported: what the code is told of it, and the laws that it cites.
use Rattle.std.specs.Prelude.{ℕ, zero, suc, ◌/◌, ◌≤◌, ◌<◌, ◌≡◌, refl, Bool, true, length, take}
use Rattle.std.proofs.Common.{sym, ◌∙◌, ap₂, arith, ext_get_or, take-suc}
use Rattle.std.proofs.Math.Path.{ap, subst}
use mathlib.Core.List.{List, [], ◌∷◌, map}
use Rattle.std.proofs.Math.Seq.{get_or-take}
use Rattle.rules.specs.Lists.{Words}
use Rattle.rules.specs.Sheet.{at}
use Rattle.rules.specs.Types.{Ty, Types, ImplType, invert_if}
use Rattle.rules.specs.Solutions.{AllIn}
use Rattle.rules.specs.Calls.{impl_query}
use Rattle.rules.specs.Answer.{word_of_type}
use Rattle.rules.specs.Transfer.{type_of_word, cell_types, export_types, export_impl_type, import_impl_type}
use Rattle.rules.specs.Neat.{Neat, Brought}
use Rattle.table.specs.Packing.{types_of, Packed}
use Rattle.table.specs.Nodes.{types_few, type_word}
use Rattle.transfer.specs.Imports.{types_in, Inside, Imports}
use Rattle.transfer.specs.Callers.{inside_from, exports_brought, export_fits}
use Rattle.queries.specs.declared.Query.{Query}
use Rattle.queries.specs.Queries.{four, query_of}

-- A query of at most four types of a neat table.
pub record Asks (ts : Types) (q : Query) : Type 0 where
  pub neat : Neat ts
  pub few : q.n ≤ 4
  pub inside : AllIn (length ts) (query_of q).1

-- A query of the code that is one of the rules.
pub record Reads (i : ImplType) (q : Query) : Type 0 where
  pub is : query_of q ≡ i
  pub few : q.n ≤ 4

-- The query of the impl call, from its trait? and its cells.
pub reads_cells : (q : Words) (tr h : ℕ) (r : Query) → tr ≡ at q 1 → h ≡ at q 2 → query_of r ≡ (tr, cell_types q h) → r.n ≤ 4 → Reads (impl_query q) r
unfolding impl_query
reads_cells q tr h r et eh e l = record { is = e ∙ ap₂ {C = ImplType} (λ (x y : ℕ). (x, cell_types q y)) et eh; few = l }

pub cells_of : (q : Words) (h : ℕ) → length (impl_query q).1 ≤ 4 → h ≡ at q 2 → length (cell_types q h) ≤ 4
unfolding impl_query
cells_of q h l e = subst (λ x. length (cell_types q x) ≤ 4) (sym e) l

-- One of a type.
pub reads_type : (tr t u : ℕ) (b : Bool) → u ≡ word_of_type (invert_if b (type_of_word t)) → Reads (tr, invert_if b (type_of_word t) ∷ []) (record { tr = tr; n = 1; args = u ∷ 0 ∷ 0 ∷ 0 ∷ [] })
unfolding query_of
reads_type tr t u b e = record { is = ap {B = ImplType} (λ (x : Ty). (tr, x ∷ [])) (ap type_of_word e ∙ type_word (invert_if b (type_of_word t))); few = omega arith }

-- A query of a table, exported: the rule's query, and its table.
pub record Exports (ts : Types) (q : ImplType) (us : Words) (r : Query) : Type 0 where
  pub packed : Packed us
  pub asks : Asks (types_of us) r
  pub is : export_impl_type ts q ≡ (query_of r, types_of us)

-- Four words are all of a list of four.
pub four-all : (xs : Words) → length xs ≡ 4 → four xs ≡ xs
four-all xs e = ext_get_or 0 (four xs) xs (sym e) (λ i l. one i l)
  where
    one : (i : ℕ) → i < 4 → at (four xs) i ≡ at xs i
    one zero l = refl
    one (suc zero) l = refl
    one (suc (suc zero)) l = refl
    one (suc (suc (suc zero))) l = refl
    one (suc (suc (suc (suc i)))) l = absurd (omega arith)

module _ (ws : Words) (q : Query) (a : Asks (types_of ws) q) where
  pub asks_neat : Neat (types_of ws)
  asks_neat = a.neat

  pub asks_room : (ms : Words) → 256 ≤ length ms → length (types_of ws) ≤ length ms
  asks_room ms h = omega (arith, types_few ws)

  -- The query's four words are types of the table, and what they are exported to is a query.
  pub asks_few : q.n ≤ length (four q.args)
  asks_few = a.few

  pub asks_inside : Inside (types_of ws) (take q.n (four q.args))
  unfolding query_of types_in
  asks_inside = inside_from (types_of ws) q.n (four q.args) a.inside

  pub exported : (us vs : Words) (ok : Bool) → length vs ≡ 4 → Imports (export_types (types_of ws) (types_in q.n (four q.args))) us (four q.args) vs q.n ok → Exports (types_of ws) (query_of q) us (record { tr = q.tr; n = q.n; args = vs })
  unfolding query_of types_in export_impl_type import_impl_type export_types
  exported us vs ok e i = record {
    packed = i.replaces.packed;
    asks = record { neat = b.neat; few = a.few; inside = subst (λ (xs : Words). AllIn (length (types_of us)) (map type_of_word (take q.n xs))) (sym (four-all vs e)) b.inside };
    is = ap {B = ImplType × Types} (λ (o : List Ty × Types). ((q.tr, o.0), o.1)) (i.comes.is fits) ∙ ap {B = ImplType × Types} (λ (xs : Words). ((q.tr, map type_of_word (take q.n xs)), types_of us)) (sym (four-all vs e));
  }
    where
      fits : ok ≡ true
      fits = export_fits ws us (four q.args) vs q.n ok a.neat asks_inside i

      b : Brought [] (types_in q.n vs) (types_of us)
      b = exports_brought (types_of ws) us (four q.args) vs q.n ok a.neat asks_inside fits i

  -- So are those of its array, where that has four.
  module _ (long : length q.args ≡ 4) where
    pub args_inside : Inside (types_of ws) (take q.n q.args)
    args_inside = subst (λ (xs : Words). Inside (types_of ws) (take q.n xs)) (four-all q.args long) asks_inside

    pub args_exported : (us vs : Words) (ok : Bool) → length vs ≡ 4 → Imports (export_types (types_of ws) (types_in q.n q.args)) us q.args vs q.n ok → Exports (types_of ws) (query_of q) us (record { tr = q.tr; n = q.n; args = vs })
    args_exported us vs ok e i = exported us vs ok e (subst (λ (xs : Words). Imports (export_types (types_of ws) (types_in q.n xs)) us xs vs q.n ok) (sym (four-all q.args long)) i)

-- A type of a table, exported: the rule's type, and its table.
pub record ExportsType (ts : Types) (t : ℕ) (us : Words) (r : ℕ) : Type 0 where
  pub packed : Packed us
  pub neat : Neat (types_of us)
  pub small : r < 512
  pub inside : r / 2 < length (types_of us)
  pub is : export_types ts (type_of_word t ∷ []) ≡ (type_of_word r ∷ [], types_of us)

module _ (ws : Words) (n : Neat (types_of ws)) where
  pub type_neat : Neat (types_of ws)
  type_neat = n

  pub type_room : (ms : Words) → 256 ≤ length ms → length (types_of ws) ≤ length ms
  type_room ms h = omega (arith, types_few ws)

  module _ (t : ℕ) (l : t / 2 < length (types_of ws)) where
    type_in : Inside (types_of ws) (take 1 (t ∷ []))
    unfolding types_in type_of_word
    type_in = inside_from (types_of ws) 1 (t ∷ []) (l, tt)

    pub type_inside : Inside (types_of ws) (take 1 (t ∷ []))
    type_inside = type_in

    pub type_exported : (us vs : Words) (r : ℕ) (ok : Bool) → r ≡ at vs 0 → Imports (export_types (types_of ws) (types_in 1 (t ∷ []))) us (t ∷ []) vs 1 ok → ExportsType (types_of ws) t us r
    unfolding types_in type_of_word
    type_exported us vs r ok e i = record {
      packed = j.replaces.packed;
      neat = b.neat;
      small = omega (arith, get_or-take 1 vs 0 0 (omega arith), (j.replaces.small fits).small 0);
      inside = (subst (λ (l : List Ty). AllIn (length (types_of us)) l) gone b.inside).0;
      is = j.comes.is fits ∙ ap {B = List Ty × Types} (λ (l : List Ty). (l, types_of us)) gone;
    }
      where
        j : Imports (export_types (types_of ws) (types_in 1 (t ∷ []))) us (t ∷ []) vs 1 ok
        j = i

        fits : ok ≡ true
        fits = export_fits ws us (t ∷ []) vs 1 ok n type_in j

        b : Brought [] (types_in 1 vs) (types_of us)
        b = exports_brought (types_of ws) us (t ∷ []) vs 1 ok n type_in fits j

        gone : types_in 1 vs ≡ type_of_word r ∷ []
        gone = ap (map type_of_word) (take-suc vs 0 0 (omega (arith, j.replaces.len))) ∙ ap (λ x. type_of_word x ∷ []) (sym e)
