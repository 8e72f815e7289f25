-- An `ImplType` of the sheet is imported and met with the question: what that comes to, and its laws.
use Rattle.std.specs.Prelude.{Result, Ok, Err, ℕ, ◌≤◌, ◌<◌, ◌≡◌, Bool, true, false, ◌≢◌, length, take}
use Rattle.std.proofs.Common.{◌∙◌, sym, subst, arith, length-take-le}
use Rattle.std.proofs.Math.Path.{ap}
use mathlib.Core.List.{List, map}
use Rattle.std.proofs.Math.Option.{Option}
use Rattle.rules.specs.Lists.{Words}
use Rattle.rules.specs.Limits.{limit_nodes}
use Rattle.rules.specs.Types.{Ty, Types, success, Unified, ImplType, unify_impl_type}
use Rattle.rules.specs.Solutions.{AllIn}
use Rattle.rules.specs.Readings.{readable_ranked}
use Rattle.rules.specs.Transfer.{type_of_word, import_types, import_impl_type}
use Rattle.rules.specs.Neat.{Brought, in_more}
use Rattle.table.specs.Packing.{types_of, Packed, Good}
use Rattle.table.specs.Nodes.{types_few}
use Rattle.transfer.specs.Imports.{types_in, Imports}
use Rattle.unify.specs.Results.{Joins}
use Rattle.unify.specs.Lists.{Nodes}
use Rattle.queries.specs.declared.Query.{Query}
use Rattle.queries.specs.Queries.{four, query_of}
use Rattle.queries.specs.Rows.{query_types}
use Rattle.refusals.specs.declared.Refusal.{Refusal}
use Rattle.refusals.specs.declared.Refusal.TheVariants.{TypesFull}

-- The join of what was imported with question q.
abbrev pub join_of : Words → ImplType × Types → ImplType → Unified
join_of s o q = unify_impl_type s o.1 o.0 q

-- They do not unify.
pub record Parts (s : Words) (o : ImplType × Types) (q : ImplType) : Type 0 where
  pub room : length o.1 ≤ limit_nodes
  pub failed : (join_of s o q).0 ≢ success

-- They do, and out has the table.
pub record Agrees (s : Words) (o : ImplType × Types) (q : ImplType) (out : Words) : Type 0 where
  pub room : length o.1 ≤ limit_nodes
  pub met : (join_of s o q).0 ≡ success
  pub types : types_of out ≡ (join_of s o q).1

-- An import o that is met with question q: refused where the table would pass its limit, else whether they unify.
pub record Meets (s : Words) (o : ImplType × Types) (q : ImplType) (r : Result Bool Refusal) (out : Words) : Type 0 where
  pub packed : Packed out
  pub full : (refusal : Refusal) → r ≡ Err refusal → (refusal ≡ TypesFull) × (limit_nodes < length o.1)
  pub unfit : r ≡ Ok false → Parts s o q
  pub fits : r ≡ Ok true → Agrees s o q out

-- A number for each, and the refusal.
case : Result Bool Refusal → ℕ
case (Err refusal) = 0
case (Ok false) = 1
case (Ok true) = 2

refusal_of : Result Bool Refusal → Refusal
refusal_of (Err refusal) = refusal
refusal_of (Ok b) = TypesFull

value_of : Result Bool Refusal → Bool
value_of (Err refusal) = false
value_of (Ok b) = b

told_case : (b : Bool) → case (Ok b) ≡ 0 → ⊥
unfolding case
told_case true e = absurd (omega (arith, e))
told_case false e = absurd (omega (arith, e))

-- There was no room.
pub meets_none : (s : Words) (o : ImplType × Types) (q : ImplType) (refusal : Refusal) (out : Words) → refusal ≡ TypesFull → Packed out → limit_nodes < length o.1 → Meets s o q (Err refusal) out
unfolding case refusal_of
meets_none s o q refusal out e p l = record { packed = p; full = λ x z. (sym (ap refusal_of z) ∙ e, l); unfit = λ z. absurd (omega (arith, ap case z)); fits = λ z. absurd (omega (arith, ap case z)) }

-- The types of a question are nodes: of its four words,
pub query_nodes : (ts : Types) (q : Query) → AllIn (length ts) (query_of q).1 → Nodes ts (take q.n (four q.args))
unfolding query_of
query_nodes ts q a = record { there = a }

-- and of its array, where that has four.
pub args_nodes : (ts : Types) (q : Query) → length q.args ≡ 4 → AllIn (length ts) (query_of q).1 → Nodes ts (take q.n q.args)
unfolding types_in
args_nodes ts q l a = record { there = subst (λ (x : ImplType). AllIn (length ts) x.1) (query_types q l) a }

-- The question by its fields.
pub joins_question : (s ws us : Words) (tr : ℕ) (xs : Words) (q : Query) (r : Bool) → Joins (unify_impl_type s (types_of ws) (tr, map type_of_word xs) (q.tr, map type_of_word (take q.n (four q.args)))) us r → Joins (unify_impl_type s (types_of ws) (tr, map type_of_word xs) (query_of q)) us r
unfolding query_of
joins_question s ws us tr xs q r j = j

pub args_join : (s ws us : Words) (tr : ℕ) (xs : Words) (q : Query) (r : Bool) → length q.args ≡ 4 → Joins (unify_impl_type s (types_of ws) (tr, map type_of_word xs) (q.tr, map type_of_word (take q.n q.args))) us r → Joins (unify_impl_type s (types_of ws) (tr, map type_of_word xs) (query_of q)) us r
unfolding types_in
args_join s ws us tr xs q r l j = subst (λ (x : ImplType). Joins (unify_impl_type s (types_of ws) (tr, map type_of_word xs) x) us r) (sym (query_types q l)) j

-- The first n types of xs are imported from src into the table that ds is, as the arguments of a trait? tr: es has the table, and the first of vs the arguments.
abbrev pub imported : Types → Option (List Ty) → ℕ → ℕ → Words → Words → ImplType × Types
imported src ps tr n xs ds = import_impl_type src ps (tr, types_in n xs) (types_of ds)

module _ (src : Types) (ps : Option (List Ty)) (tr n : ℕ) (xs ds es vs : Words) (r : Bool) (i : Imports (import_types src ps (types_in n xs) (types_of ds)) es xs vs n r) where
  brings : r ≡ true → imported src ps tr n xs ds ≡ ((tr, map type_of_word (take n vs)), types_of es)
  unfolding import_impl_type types_in
  brings e = ap {B = ImplType × Types} (λ (o : List Ty × Types). ((tr, o.0), o.1)) (i.comes.is e)

  pub brought-length : n ≤ length xs → n ≡ length (take n vs)
  brought-length h = sym (length-take-le n vs (omega (arith, i.replaces.len)))

  -- There is no room.
  pub meets_full : (s : Words) (q : ImplType) (refusal : Refusal) → refusal ≡ TypesFull → r ≡ false → Meets s (imported src ps tr n xs ds) q (Err refusal) es
  unfolding import_impl_type
  meets_full s q refusal t e = meets_none s (imported src ps tr n xs ds) q refusal es t i.replaces.packed (i.comes.full e)

  module _ (e : r ≡ true) (b : Brought (types_of ds) (imported src ps tr n xs ds).0.1 (imported src ps tr n xs ds).1) where
    there : Brought (types_of ds) (map type_of_word (take n vs)) (types_of es)
    there = subst (λ (o : ImplType × Types). Brought (types_of ds) o.0.1 o.1) (brings e) b

    -- There is: the table is good, with the types of both in it.
    pub brought_good : Good es
    brought_good = record { packed = i.replaces.packed; formed = there.neat.proper.formed; acyclic = readable_ranked (types_of es) there.neat.proper.formed there.neat.proper.kept }

    pub brought_nodes : Nodes (types_of es) (take n vs)
    brought_nodes = record { there = there.inside }

    pub brought-question : (q : Query) → AllIn (length (types_of ds)) (query_of q).1 → AllIn (length (types_of es)) (query_of q).1
    brought-question q a = in_more (length (types_of ds)) (length (types_of es)) there.grown (query_of q).1 a

    -- The join fails or succeeds.
    module _ (s us : Words) (q : ImplType) (ok : Bool) (j : Joins (unify_impl_type s (types_of es) (tr, map type_of_word (take n vs)) q) us ok) where
      now_met : Joins (join_of s (imported src ps tr n xs ds) q) us ok
      now_met = subst (λ (o : ImplType × Types). Joins (join_of s o q) us ok) (sym (brings e)) j

      few : length (imported src ps tr n xs ds).1 ≤ limit_nodes
      few = subst (λ (o : ImplType × Types). length o.1 ≤ limit_nodes) (sym (brings e)) (types_few es)

      pub meets_told : Meets s (imported src ps tr n xs ds) q (Ok ok) us
      unfolding case value_of
      meets_told = record {
        packed = j.packed;
        full = λ x z. absurd (told_case ok (ap case z));
        unfit = λ z. record { room = few; failed = now_met.failed (ap value_of z) };
        fits = λ z. record { room = few; met = now_met.met (ap value_of z); types = now_met.types (ap value_of z) };
      }

-- A question's type words are imported.
pub query_inside : (src : Types) (p : Query) → AllIn (length src) (query_of p).1 → AllIn (length src) (types_in p.n (four p.args))
unfolding query_of types_in
query_inside src p a = a

module _ (src : Types) (ps : Option (List Ty)) (p : Query) (ds : Words) where
  pub query_brought : Brought (types_of ds) (import_impl_type src ps (query_of p) (types_of ds)).0.1 (import_impl_type src ps (query_of p) (types_of ds)).1 → Brought (types_of ds) (imported src ps p.tr p.n (four p.args) ds).0.1 (imported src ps p.tr p.n (four p.args) ds).1
  unfolding query_of types_in
  query_brought b = b

  pub query_meets : (s us : Words) (q : ImplType) (r : Result Bool Refusal) → Meets s (imported src ps p.tr p.n (four p.args) ds) q r us → Meets s (import_impl_type src ps (query_of p) (types_of ds)) q r us
  unfolding query_of types_in
  query_meets s us q r m = m

-- The same of its array, where that has four words.
pub args_inside : (src : Types) (p : Query) → length p.args ≡ 4 → AllIn (length src) (query_of p).1 → AllIn (length src) (types_in p.n p.args)
args_inside src p l a = subst (λ (x : ImplType). AllIn (length src) x.1) (query_types p l) a

module _ (src : Types) (ps : Option (List Ty)) (p : Query) (ds : Words) (l : length p.args ≡ 4) where
  whole : import_impl_type src ps (query_of p) (types_of ds) ≡ imported src ps p.tr p.n p.args ds
  whole = ap (λ (x : ImplType). import_impl_type src ps x (types_of ds)) (query_types p l)

  pub args_brought : Brought (types_of ds) (import_impl_type src ps (query_of p) (types_of ds)).0.1 (import_impl_type src ps (query_of p) (types_of ds)).1 → Brought (types_of ds) (imported src ps p.tr p.n p.args ds).0.1 (imported src ps p.tr p.n p.args ds).1
  args_brought b = subst (λ (o : ImplType × Types). Brought (types_of ds) o.0.1 o.1) whole b

  pub args_meet : (s us : Words) (q : ImplType) (r : Result Bool Refusal) → Meets s (imported src ps p.tr p.n p.args ds) q r us → Meets s (import_impl_type src ps (query_of p) (types_of ds)) q r us
  args_meet s us q r m = subst (λ (o : ImplType × Types). Meets s o q r us) (sym whole) m
