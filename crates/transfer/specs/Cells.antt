-- The children of a record, read from its cells one after the other.
use Prim.Native.Nat.{ℕ, ◌+◌, ◌≤◌, ◌<◌}
use Rattle.std.specs.Prelude.{◌≡◌, refl, ◌≢◌, List, [], ◌∷◌, ◌++◌, map, set, take}
use Rattle.std.proofs.Common.{sym, ◌∙◌, subst, append_assoc, append-nil, add-one, length-set, take-suc-set}
use Rattle.std.proofs.Math.Path.{ap}
use Rattle.std.proofs.lemmas.List.{map-append}
use native.Mathlib.Omega.{arith}
use Rattle.std.proofs.Math.ListN.{length}
use Rattle.rules.specs.Lists.{Words}
use Rattle.rules.specs.Sheet.{at, chain}
use Rattle.rules.specs.Types.{Ty}
use Rattle.rules.specs.Slim.{Slim}
use Rattle.rules.specs.AcyclicLaws.{children_at}
use Rattle.rules.specs.Transfer.{cell_types, type_of_word}
use Rattle.table.specs.Packing.{kind_at}
use Rattle.transfer.specs.Source.{indexed}
use Rattle.transfer.specs.Records.{mapped-length, children_here, children-none}
use Rattle.transfer.specs.Moving.{Read}
use Rattle.transfer.specs.Leaves.{few_children}

-- The types in the cells of the chain from a head, in a buffer: m of them.
pub record Gathered (s : Words) (h : ℕ) (cs : Words) (m : ℕ) : Type 0 where
  pub long : 8 ≤ length cs
  pub count : m ≡ length (cell_types s h)
  pub is : map type_of_word (take m cs) ≡ cell_types s h

-- The type in the cell at a place.
abbrev type_in_cell : Words → ℕ → Ty
type_in_cell s p = type_of_word (at s (p + 1))

-- The first j are there, and the cells ps are left.
pub record Passing (s : Words) (h : ℕ) (cs : Words) (ps : Words) (j : ℕ) : Type 0 where
  pub long : 8 ≤ length cs
  pub few : length (cell_types s h) ≤ 8
  pub count : j + length ps ≡ length (cell_types s h)
  pub rest : map type_of_word (take j cs) ++ map (type_in_cell s) ps ≡ cell_types s h

pub passing_start : (s : Words) (h : ℕ) (cs ps : Words) → 8 ≤ length cs → length (cell_types s h) ≤ 8 → ps ≡ chain s h → Passing s h cs ps 0
unfolding cell_types
passing_start s h cs ps l f e = record {
  long = l;
  few = f;
  count = omega (arith, ap length e, mapped-length (type_in_cell s) (chain s h));
  rest = ap (map (type_in_cell s)) e;
}

module _ (s : Words) (h : ℕ) (cs ps : Words) (j : ℕ) (w : Passing s h cs ps j) where
  -- While cells are left there is room for the next one's type.
  module _ (c : ℕ) (qs : Words) (more : ps ≡ c ∷ qs) where
    pub passing_room : j < 8
    passing_room = omega (arith, w.few, w.count, ap length more)

    pub passing_inside : j < length cs
    passing_inside = omega (arith, w.long, passing_room)

    pub passing_on : (v : ℕ) → v ≡ at s (c + 1) → Passing s h (set cs j v) qs (j + 1)
    passing_on v ev = record {
      long = omega (arith, length-set cs j v, w.long);
      few = w.few;
      count = omega (arith, w.count, ap length more);
      rest =
          ap (λ (x : List Ty). x ++ map (type_in_cell s) qs) (ap (λ k. map type_of_word (take k (set cs j v))) (add-one j) ∙ ap (map type_of_word) (take-suc-set cs j v passing_inside) ∙ map-append type_of_word (take j cs) (v ∷ []))
          ∙ append_assoc (map type_of_word (take j cs)) (type_of_word v ∷ []) (map (type_in_cell s) qs)
          ∙ ap (λ (x : ℕ). map type_of_word (take j cs) ++ (type_of_word x ∷ map (type_in_cell s) qs)) ev
          ∙ ap (λ (x : Words). map type_of_word (take j cs) ++ map (type_in_cell s) x) (sym more)
          ∙ w.rest;
    }

  pub passing_end : ps ≡ [] → Gathered s h cs j
  passing_end e = record {
    long = w.long;
    count = omega (arith, w.count, ap length e);
    is = sym (append-nil (map type_of_word (take j cs))) ∙ ap (λ (x : Words). map type_of_word (take j cs) ++ map (type_in_cell s) x) (sym e) ∙ w.rest;
  }

-- The children of node n of the records, which h heads: k is its kind.
module _ (s places : Words) (n k : ℕ) (ek : k ≡ kind_at (indexed s places) n) where
  pub none_read : (cs : Words) → k ≡ 0 → 8 ≤ length cs → Read (indexed s places) n cs 0
  none_read cs z l = record { long = l; count = children-none s places n k ek z; is = sym (empty (children_at (indexed s places) n) (children-none s places n k ek z)) }
    where
      empty : (xs : List Ty) → 0 ≡ length xs → xs ≡ []
      empty [] e = refl
      empty (x ∷ xs) e = absurd (omega arith)

  module _ (z : k ≢ 0) (h : ℕ) (eh : h ≡ at s (at places n + 4)) where
    cells_of : children_at (indexed s places) n ≡ cell_types s h
    cells_of = children_here s places n k ek z ∙ ap (cell_types s) (sym eh)

    pub few_cells : Slim (indexed s places) → length (cell_types s h) ≤ 8
    few_cells g = subst (λ (xs : List Ty). length xs ≤ 8) cells_of (few_children (indexed s places) n g)

    pub cells_read : (cs : Words) (m : ℕ) → Gathered s h cs m → Read (indexed s places) n cs m
    cells_read cs m g = record { long = g.long; count = g.count ∙ ap (λ (xs : List Ty). length xs) (sym cells_of); is = g.is ∙ sym cells_of }
