-- The cells of a record beside the children of a node: whether they are labelled alike, one by one.
use Rattle.std.specs.Prelude.{ℕ, ◌+◌, ◌-◌, ◌/◌, ◌%◌, ◌≤◌, ◌<◌, ◌≡◌, Bool, true, false, not, ◌∷◌, map, ◌≢◌, eqb, length, take}
use Rattle.std.proofs.Math.Path.{sym, ap, ap₂}
use Rattle.std.proofs.Common.{◌∙◌, add-one, arith, drop_of_length-le, drop-cons, length-take-le}
use Rattle.std.proofs.Math.ListN.{drop}
use Rattle.std.proofs.Math.Seq.{get_or-take}
use borrow.Author.Tests.{eqb-true, eq-eqb}
use Rattle.rules.specs.Lists.{Words}
use Rattle.rules.specs.Sheet.{at, chain, chain_of}
use Rattle.rules.specs.Transfer.{cell_types}
use Rattle.table.specs.declared.Row.{Row}
use Rattle.table.specs.ChildTypes.{ChildTypes, row_at, types_at-length}
use Rattle.refs.specs.Meaning.{record_types}
use Rattle.refs.specs.Refs.{place}
use Rattle.refs.specs.Children.{type_in_cell, cell_types_are, cells-none, cells_more}
use Rattle.loose.specs.Loose.{held, labelled, kids_low, kids_high, Fixed, fixed_same, fixed_on, RefsAlike, SameKids}

-- A node that is its own root has at most eight children.
pub own_few : (ws : Words) (n m : ℕ) → ChildTypes ws n (row_at ws n m) → m ≤ 8
own_few ws n m c = c.few

-- true: the cells from h are labelled as the types of a row, and stay so.
pub record CellsAlike (s ls : Words) (h : ℕ) (o : Row) (ks : Words) (b : Bool) : Type 0 where
  pub fixed : Fixed ls ks
  pub same : b ≡ true → (js : Words) → Fixed ks js → labelled js (record_types s h) ≡ labelled js (take o.n o.types)

-- j cells are, and the chain goes on at c: all are if what is left is.
pub record Beside (s ls : Words) (h : ℕ) (o : Row) (ks : Words) (c j : ℕ) : Type 0 where
  pub fixed : Fixed ls ks
  pub few : j ≤ o.n
  pub long : o.n ≤ length o.types
  pub fuel : o.n < length s
  pub rest : (js : Words) → Fixed ks js → labelled js (map (type_in_cell s) (chain_of (length s - j) s c)) ≡ labelled js (drop j (take o.n o.types)) → labelled js (record_types s h) ≡ labelled js (take o.n o.types)

pub beside_start : (s ws ls : Words) (h z n : ℕ) → 8 < length s → n ≤ 8 → Beside s ls h (row_at ws z n) ls h 0
unfolding cell_types chain
beside_start s ws ls h z n f l = record {
  fixed = fixed_same ls;
  few = omega arith;
  long = omega (arith, types_at-length ws z);
  fuel = omega arith;
  rest = λ js g e. ap (labelled js) (cell_types_are s (chain s h)) ∙ ap (λ k. labelled js (map (type_in_cell s) (chain_of k s h))) (let z : length s ≡ length s - 0 = omega arith in z) ∙ e;
}

module _ (s ls : Words) (h : ℕ) (o : Row) (ks : Words) (c j : ℕ) (k : Beside s ls h o ks c j) where
  count : length (take o.n o.types) ≡ o.n
  count = length-take-le o.n o.types k.long

  -- There are more cells than types,
  pub beside_more : CellsAlike s ls h o ks false
  beside_more = record { fixed = k.fixed; same = λ e. let z : ◌≡◌ {A = ℕ} 0 1 = cc in absurd (omega arith) }

  -- two differ,
  pub beside_not : (x y : ℕ) (is : Words) (b : Bool) → RefsAlike ks x y is b → CellsAlike s ls h o is false
  beside_not x y is b a = record { fixed = fixed_on ls ks is k.fixed a.fixed; same = λ e. let z : ◌≡◌ {A = ℕ} 0 1 = cc in absurd (omega arith) }

  -- or the cells end.
  pub beside_end : c ≡ 0 → CellsAlike s ls h o ks (eqb j o.n)
  unfolding labelled
  beside_end z = record {
    fixed = k.fixed;
    same = λ t js f.
        let e : j ≡ o.n = eqb-true j o.n t in
        k.rest js f (ap (λ (xs : Words). labelled js (map (type_in_cell s) xs)) (cells-none s (length s - j) c z) ∙ sym (ap (labelled js) (drop_of_length-le (take o.n o.types) {i = j} (omega (arith, count, e)))));
  }

  pub beside_full : (i : ℕ) → i ≤ j → c ≡ 0 → CellsAlike s ls h o ks (eqb o.n i)
  beside_full i l z = record { fixed = k.fixed; same = λ t js f. (beside_end z).same (eq-eqb j o.n (let e : j ≡ o.n = omega (arith, k.few, eqb-true o.n i t) in e)) js f }

  pub beside_on : (v x y n : ℕ) (is : Words) (b : Bool) → c ≢ 0 → j ≢ o.n → RefsAlike ks (x / 2) (y / 2) is b → not b ≡ false → x ≡ 2048 + v % 2048 → v ≡ at s (c + 1) → y ≡ at o.types j → n ≡ at s c → Beside s ls h o is n (j + 1)
  unfolding labelled
  beside_on v x y n is b z d a t ex ev ey en = let l : j < o.n = omega (arith, k.few) in record {
    fixed = fixed_on ls ks is k.fixed a.fixed;
    few = omega arith;
    long = k.long;
    fuel = k.fuel;
    rest = λ js f e. k.rest js (fixed_on ks is js a.fixed f)
        (ap (λ (xs : Words). labelled js (map (type_in_cell s) xs)) (cells_more s j c (omega (arith, k.few, k.fuel)) z)
        ∙ ap₂ (λ (i : ℕ) (is : Words). i ∷ is)
        (ap (λ i. at js (i / 2 % 2048)) (sym (ex ∙ ap (λ i. 2048 + i % 2048) ev)) ∙ a.same (held b t) js f ∙ ap (λ i. at js (i / 2 % 2048)) ey)
        (ap (λ i. labelled js (map (type_in_cell s) (chain_of (length s - (j + 1)) s i))) (sym en) ∙ e)
        ∙ sym (ap (labelled js) (drop-cons (take o.n o.types) j 0 (omega (arith, count)) ∙ (λ i. get_or-take o.n o.types j 0 l i ∷ drop (sym (add-one j) i) (take o.n o.types)))));
  }

-- The children of a ref that has a record and of a known node.
pub across_same : (s ps ws ls : Words) (a z p h i : ℕ) (o : Row) (ks : Words) (b : Bool) → 1024 ≤ a → z < 256 → ChildTypes ws z o → p ≡ place ps a → h ≡ at s (p + 4) → i ≡ h → CellsAlike s ls i o ks b → SameKids s ps ws ls a z ks b
across_same s ps ws ls a z p h i o ks b ha hz c ep eh ei k = record {
  fixed = k.fixed;
  same = λ t js f.
      ap (labelled js) (kids_high s ps ws a (omega arith) ∙ ap (record_types s) (sym (ei ∙ eh ∙ ap (λ v. at s (v + 4)) ep)))
      ∙ k.same t js f
      ∙ ap (labelled js) (c.are ∙ sym (kids_low s ps ws z hz));
}
