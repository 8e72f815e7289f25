-- What `import` and `export` do, and their laws.
use Rattle.std.specs.Prelude.{ℕ, zero, suc, ◌+◌, ◌≤◌, ◌<◌, ◌≡◌, refl, Bool, true, false, List, [], ◌∷◌, ◌++◌, map, length, take, drop}
use Rattle.std.proofs.Common.{sym, ◌∙◌, ap, ap₂, subst, le_of_suc-le-suc, not-suc-le-zero, add-one, arith}
use Rattle.std.proofs.Math.Option.{Option}
use Rattle.std.proofs.Math.Seq.{take-append_seam, drop-append_seam}
use Rattle.rules.specs.Lists.{Words, concat_map}
use Rattle.rules.specs.Limits.{limit_nodes}
use Rattle.rules.specs.Sheet.{at}
use Rattle.rules.specs.Types.{Ty, Types, ImplType}
use Rattle.rules.specs.Readings.{readable_most}
use Rattle.rules.specs.Transfer.{Transfer, mapped, transfer_each, transfer_in, transfer_types, import_types, import_impl_type, transfer_impl_types, import_impl_types, export_types, type_of_word}
use Rattle.rules.specs.TransferCount.{row, row_moves}
use Rattle.rules.specs.Carried.{each_length}
use Rattle.rules.specs.Neat.{Neat}
use Rattle.table.specs.Packing.{types_of, Packed, Becomes, TypeWords}
use Rattle.words.specs.Buffers.{cleared, cleared-length}
use Rattle.transfer.specs.Moving.{params_of, entry, Maps, Mapping, Levels, AllMove, TransfersAll}

-- The types that the first n of some type words are.
unfoldable pub types_in : ℕ → Words → List Ty
types_in n ts = map type_of_word (take n ts)

-- Type words whose types are nodes of a table.
pub record Inside (src : Types) (ts : Words) : Type 0 where
  pub each : (j : ℕ) → j < length ts → (type_of_word (at ts j)).1 < length src

-- The first n of some type words are replaced by those of a table in words.
pub record Replaces (us ts vs : Words) (n : ℕ) (r : Bool) : Type 0 where
  pub packed : Packed us
  pub len : length vs ≡ length ts
  pub rest : (j : ℕ) → n ≤ j → at vs j ≡ at ts j
  pub small : r ≡ true → TypeWords (take n vs)

-- What the rule comes to, with its table in us; or r is false, exactly where that table would have more nodes than the limit.
pub record Comes (A : Type 0) (o : A × Types) (us : Words) (a : A) (r : Bool) : Type 0 where
  pub full : r ≡ false → limit_nodes < length o.1
  pub is : r ≡ true → o ≡ (a, types_of us)

pub record Imports (o : List Ty × Types) (us ts vs : Words) (n : ℕ) (r : Bool) : Type 0 where
  pub replaces : Replaces us ts vs n r
  pub comes : Comes (List Ty) o us (types_in n vs) r

-- Of an impl type of any trait.
pub record ImportsImpl (src : Types) (ps : Option (List Ty)) (ws us ts vs : Words) (n : ℕ) (r : Bool) : Type 0 where
  pub replaces : Replaces us ts vs n r
  pub comes : (tr : ℕ) → Comes ImplType (import_impl_type src ps (tr, types_in n ts) (types_of ws)) us (tr, types_in n vs) r

-- Impl types with other arguments, as many to each.
unfoldable pub regroup : List ImplType → List Ty → List ImplType
regroup [] xs = []
regroup (q ∷ qs) xs = (q.0, take (length q.1) xs) ∷ regroup qs (drop (length q.1) xs)

-- Of any impl types whose arguments these are in one row.
pub record ImportsImpls (src : Types) (ps : Option (List Ty)) (ws us ts vs : Words) (n : ℕ) (r : Bool) : Type 0 where
  pub replaces : Replaces us ts vs n r
  pub comes : (qs : List ImplType) → row qs ≡ types_in n ts → Comes (List ImplType) (import_impl_types src ps qs (types_of ws)) us (regroup qs (types_in n vs)) r

-- No way down is longer than the source: c is its count.
pub inside_levels : (src : Types) (ts : Words) (c : ℕ) → Neat src → c ≡ length src → Inside src ts → Levels src ts (c + 1)
inside_levels src ts c g e h = record { each = λ j l. record { inside = h.each j l; low = omega (arith, readable_most src g.proper.formed g.proper.kept (type_of_word (at ts j)).1) } }

pub moves_types : (src : Types) (ps : Option (List Ty)) (ws ms us ns ts vs : Words) (n c : ℕ) (r : Bool) → c ≡ length src → TransfersAll src (transfer_each (transfer_in (c + 1) src ps) (map type_of_word (take n ts))) ws ms us ns ts vs n r → TransfersAll src (transfer_types src ps (types_in n ts)) ws ms us ns ts vs n r
unfolding transfer_types types_in
moves_types src ps ws ms us ns ts vs n c r e a = subst (λ k. TransfersAll src (transfer_each (transfer_in k src ps) (map type_of_word (take n ts))) ws ms us ns ts vs n r) (add-one c ∙ ap suc e) a

-- A cleared mapping.
cleared_at : (n : ℕ) (ws : Words) (j : ℕ) → j < n → at (cleared n ws) j ≡ 0
unfolding cleared
cleared_at zero ws j h = absurd (not-suc-le-zero h)
cleared_at (suc n) [] j h = refl
cleared_at (suc n) (w ∷ ws) zero h = refl
cleared_at (suc n) (w ∷ ws) (suc j) h = cleared_at n ws j (le_of_suc-le-suc h)

pub cleared_mapping : (src : Types) (ms ns : Words) (c : ℕ) → c ≡ length src → length src ≤ length ms → ns ≡ cleared c ms → Mapping (length src) ns
cleared_mapping src ms ns c e h q = rw q (record { long = omega (arith, cleared-length c ms); small = λ j l. omega (arith, cleared_at c ms j (omega arith)) })

cleared_maps : (src : Types) (ms ns : Words) (c : ℕ) → c ≡ length src → ns ≡ cleared c ms → Maps (length src) [] ns
unfolding mapped entry
cleared_maps src ms ns c e q = record { is = λ j l. ap entry (ap (λ (x : Words). at x j) q ∙ cleared_at c ms j (omega arith)) }

-- `import` is `transfer` from a cleared mapping.
pub imports : (src : Types) (ps : Option (List Ty)) (ws ms ls us ns ts vs : Words) (n c : ℕ) (r : Bool) → c ≡ length src → ls ≡ cleared c ms → TransfersAll src (transfer_types src ps (types_in n ts)) ws ls us ns ts vs n r → Imports (import_types src ps (types_in n ts) (types_of ws)) us ts vs n r
unfolding import_types types_in
imports src ps ws ms ls us ns ts vs n c r e q a = record {
  replaces = record { packed = a.packed; len = a.len; rest = a.rest; small = a.small };
  comes = record { full = λ f. m.full f; is = λ f. let d = m.done f in ap₂ {C = List Ty × Types} (λ (x : List Ty) (y : Types). (x, y)) (sym d.types) (sym d.is) };
}
  where
    m : AllMove (length src) us ns (take n vs) (transfer_types src ps (types_in n ts) ([], types_of ws)) r
    m = a.moves [] (cleared_maps src ms ls c e q)

-- `export` is `import` without parameters into an empty table.
pub exports : (src : Types) (b : Bool) (ps ws us ts vs : Words) (n : ℕ) (r : Bool) → b ≡ false → Becomes ws [] → Imports (import_types src (params_of b ps) (types_in n ts) (types_of ws)) us ts vs n r → Imports (export_types src (types_in n ts)) us ts vs n r
unfolding export_types params_of
exports src b ps ws us ts vs n r e w i = subst (λ (o : List Ty × Types). Imports o us ts vs n r) (ap₂ (λ (x : Bool) (y : Types). import_types src (params_of x ps) (types_in n ts) y) e w.is) i

pub no_words : TypeWords []
no_words = record { small = λ j. omega arith }

-- An impl type.
pub imports_impl : (src : Types) (ps : Option (List Ty)) (ws us ts vs : Words) (n : ℕ) (r : Bool) → Imports (import_types src ps (types_in n ts) (types_of ws)) us ts vs n r → ImportsImpl src ps ws us ts vs n r
unfolding import_impl_type
imports_impl src ps ws us ts vs n r i = record {
  replaces = i.replaces;
  comes = λ tr. record { full = i.comes.full; is = λ f. ap {B = ImplType × Types} (λ (o : List Ty × Types). ((tr, o.0), o.1)) (i.comes.is f) };
}

-- Impl types: what they become, from the row of what their arguments become.
impls_regroup : (src : Types) (ps : Option (List Ty)) (qs : List ImplType) (m : Transfer) → (transfer_impl_types src ps qs m).0 ≡ regroup qs (row (transfer_impl_types src ps qs m).0)
unfolding transfer_impl_types transfer_types regroup concat_map
impls_regroup src ps [] m = refl
impls_regroup src ps (q ∷ qs) m = ap₂ {C = List ImplType} (λ (x : List Ty) (y : List ImplType). (q.0, x) ∷ y) (sym first) (impls_regroup src ps qs a.1 ∙ ap (regroup qs) (sym then))
  where
    a : List Ty × Transfer
    a = transfer_types src ps q.1 m

    first : take (length q.1) (a.0 ++ row (transfer_impl_types src ps qs a.1).0) ≡ a.0
    first = ap (λ k. take k (a.0 ++ row (transfer_impl_types src ps qs a.1).0)) (sym (each_length (transfer_in (suc (length src)) src ps) q.1 m)) ∙ take-append_seam a.0 (row (transfer_impl_types src ps qs a.1).0)

    then : drop (length q.1) (a.0 ++ row (transfer_impl_types src ps qs a.1).0) ≡ row (transfer_impl_types src ps qs a.1).0
    then = ap (λ k. drop k (a.0 ++ row (transfer_impl_types src ps qs a.1).0)) (sym (each_length (transfer_in (suc (length src)) src ps) q.1 m)) ∙ drop-append_seam a.0 (row (transfer_impl_types src ps qs a.1).0)

impls_row : (src : Types) (ps : Option (List Ty)) (qs : List ImplType) (xs : List Ty) (dst : Types) → row qs ≡ xs → import_types src ps xs dst ≡ (row (import_impl_types src ps qs dst).0, (import_impl_types src ps qs dst).1)
unfolding import_types import_impl_types
impls_row src ps qs xs dst e = ap (λ (zs : List Ty). import_types src ps zs dst) (sym e) ∙ ap {B = List Ty × Types} (λ (o : List Ty × Transfer). (o.0, o.1.1)) (row_moves src ps qs ([], dst))

pub imports_impls : (src : Types) (ps : Option (List Ty)) (ws us ts vs : Words) (n : ℕ) (r : Bool) → Imports (import_types src ps (types_in n ts) (types_of ws)) us ts vs n r → ImportsImpls src ps ws us ts vs n r
unfolding import_impl_types
imports_impls src ps ws us ts vs n r i = record {
  replaces = i.replaces;
  comes = λ qs e.
      let w = impls_row src ps qs (types_in n ts) (types_of ws) e in
      record {
        full = λ f. subst (λ (o : List Ty × Types). limit_nodes < length o.1) w (i.comes.full f);
        is = λ f.
            let both = sym w ∙ i.comes.is f in
            ap₂ {C = List ImplType × Types} (λ (x : List ImplType) (y : Types). (x, y)) (impls_regroup src ps qs ([], types_of ws) ∙ ap (λ (o : List Ty × Types). regroup qs o.0) both) (ap (λ (o : List Ty × Types). o.1) both);
      };
}
