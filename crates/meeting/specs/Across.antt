-- Types of the signature, by their records, and types of the question, by their nodes: their sides, their children cell by cell.
use Rattle.std.specs.Prelude.{ℕ, ◌+◌, ◌-◌, ◌/◌, ◌%◌, ◌≤◌, ◌<◌, ◌≡◌, refl, Bool, true, false, not, eqb, [], ◌∷◌, map, ◌≢◌, length, take, drop}
use Rattle.std.specs.Int.{from_bool}
use Rattle.std.proofs.Math.Bool.{beq}
use Rattle.std.proofs.Common.{sym, ◌∙◌, ap, ap₂, subst, add-one, arith, length-drop, drop_of_length-le, drop-cons, get_or-take, length-take-le}
use Rattle.rules.specs.Lists.{Words}
use Rattle.rules.specs.Layout.{kind_error}
use Rattle.rules.specs.Sheet.{at, chain, chain_of}
use Rattle.rules.specs.Types.{xor}
use Rattle.rules.specs.Transfer.{cell_types}
use Rattle.rules.specs.SignedTerms.{SignedSol, turned}
use Rattle.table.specs.declared.Row.{Row}
use Rattle.table.specs.Packing.{types_of, kind_at, id_at, inverted_at}
use Rattle.table.specs.Nodes.{types_few}
use Rattle.table.specs.ChildTypes.{ChildTypes, known_in, row_at, types_at-length}
use Rattle.refs.specs.Meaning.{odd, means, means-turn, turn, row, record_types, record_side, Meaning, made_parts, type_sort}
use Rattle.refs.specs.Refs.{place, KindOf, kind-node, kind_record, id_node, id_record, side_of, side-node, side_record, type_side, apart, Bit, beq_xor, side_bit, place_high}
use Rattle.refs.specs.Children.{type_in_cell, cell_types_are, cells-none, cells_more, over_record, gathers_node}
use Rattle.meeting.specs.declared.state.Meeting.{Meeting}
use Rattle.meeting.specs.Meeting.{Holds, After, Inverts, Meets, Joins, roots_kinds, roots_errors, known_ids, known_inverted, meets_joins}
use Rattle.meeting.specs.Rows.{row_length_lem, row_same, row-rest}

-- The difference of the sides of a type whose record is at p and of a type of a node.
abbrev pub sides_across : Words → ℕ → Words → ℕ → ℕ → Bool
sides_across s p ws x y = xor (xor (odd x) (record_side s p)) (xor (odd y) (inverted_at (types_of ws) (y / 2)))

-- What the code tells: sides as Bools.
pub across_told : (s ws : Words) (p x y : ℕ) (a b : Bool) → a ≡ record_side s p → b ≡ inverted_at (types_of ws) (y / 2) → not (beq (not (beq (eqb (x % 2) 1) a)) (not (beq (eqb (y % 2) 1) b))) ≡ sides_across s p ws x y
unfolding odd
across_told s ws p x y a b ea eb = beq_xor (not (beq (eqb (x % 2) 1) a)) (not (beq (eqb (y % 2) 1) b)) ∙ ap₂ xor (beq_xor (eqb (x % 2) 1) a ∙ ap (xor (eqb (x % 2) 1)) ea) (beq_xor (eqb (y % 2) 1) b ∙ ap (xor (eqb (y % 2) 1)) eb)

across_apart : (s ps ws : Words) (p x y b : ℕ) → p ≡ place ps (x / 2) → 256 ≤ x / 2 → y / 2 < 256 → Bit (sides_across s p ws x y) b → Bit (apart s ps ws x y) b
across_apart s ps ws p x y b e hx hy o =
    subst (λ (i : Bool). Bit i b)
    (λ t. xor (xor (odd x) ((ap (record_side s) e ∙ sym (side_record s ps ws (x / 2) hx)) t)) (xor (odd y) (sym (side-node s ps ws (y / 2) hy) t)))
    o

-- A known node has a ref below 256.
known_low : (ws : Words) (n : ℕ) → kind_at (types_of ws) n ≢ 0 → n < 256
known_low ws n z = omega (arith, known_in ws n z, types_few ws)

-- A type whose record is at p is met with a type of a known node.
pub record RecordMet (s ws : Words) (q : Meeting) (x y p : ℕ) (r : Meeting) (c : Bool) : Type 0 where
  pub at : (ps : Words) → p ≡ place ps (x / 2) → Meets s ps ws q x y r c

module _ (s ws : Words) (q : Meeting) (x y p k : ℕ) (zp : p ≢ 0) (ek : k ≡ at s (p + 1)) (lk : 1 < k) (zy : kind_at (types_of ws) (y / 2) ≢ 0) (j : ℕ) (ej : j ≡ kind_at (types_of ws) (y / 2)) where
  low : y / 2 < 256
  low = known_low ws (y / 2) zy

  node_kind_lem : (ps : Words) → KindOf s ps ws (y / 2) j
  node_kind_lem ps = kind-node s ps ws (y / 2) j low ej

  module _ (ps : Words) (ep : p ≡ place ps (x / 2)) where
    high : 256 ≤ x / 2
    high = omega (arith, place_high ps (x / 2) (λ e. zp (ep ∙ e)))

    its_kind : KindOf s ps ws (x / 2) k
    its_kind = kind_record s ps ws (x / 2) p k ep zp ek (omega arith)

  pub record_kinds : j ≢ k → RecordMet s ws q x y p q true
  record_kinds n = record { at = λ ps ep. roots_kinds s ps ws q x y k j (its_kind ps ep) (node_kind_lem ps) (omega arith) (λ e. zy (sym ej ∙ e)) (λ e. n (sym e)) }

  -- They are of one kind: Errors, that of a record and that of a node,
  pub record_errors : j ≡ k → k ≡ kind_error → RecordMet s ws q x y p q true
  record_errors same o = record { at = λ ps ep. roots_errors s ps ws q x y k (its_kind ps ep) (subst (KindOf s ps ws (y / 2)) same (node_kind_lem ps)) (omega arith) o (let z = high ps ep in omega (arith, low)) }

  -- or any.
  module _ (same : j ≡ k) (c d : ℕ) (ec : c ≡ at s (p + 3)) (ed : d ≡ id_at (types_of ws) (y / 2)) where
    same_kind : (ps : Words) → KindOf s ps ws (y / 2) k
    same_kind ps = subst (KindOf s ps ws (y / 2)) same (node_kind_lem ps)

    pub record_ids : c ≢ d → RecordMet s ws q x y p q true
    record_ids n = record { at = λ ps ep. known_ids s ps ws q x y k (its_kind ps ep) (same_kind ps) (omega arith) c d (id_record s ps ws (x / 2) p c (high ps ep) ep ec) (id_node s ps ws (y / 2) d low ed) n }

    record_inverted : (i : ℕ) → Bit (sides_across s p ws x y) i → i ≡ 1 → (r : Meeting) (b : Bool) → Inverts s q x y k c r b → RecordMet s ws q x y p r b
    record_inverted i o ei r b f = record { at = λ ps ep. known_inverted s ps ws q x y k (its_kind ps ep) (same_kind ps) (omega arith) c d (id_record s ps ws (x / 2) p c (high ps ep) ep ec) (id_node s ps ws (y / 2) d low ed) i (across_apart s ps ws p x y i ep (high ps ep) low o) ei r b f }

    pub record_apart : (i : Bool) → i ≡ sides_across s p ws x y → i ≡ true → (r : Meeting) (b : Bool) → Inverts s q x y k c r b → RecordMet s ws q x y p r b
    record_apart i ei t r b f = record_inverted (from_bool i) (side_bit i (sides_across s p ws x y) (from_bool i) ei refl) (ap from_bool t) r b f

pub record_joins : (s ws : Words) (q : Meeting) (x y p : ℕ) (r : Meeting) → Joins q x y r → RecordMet s ws q x y p r false
record_joins s ws q x y p r u = record { at = λ ps ep. meets_joins s ps ws q x y r u }

pub record_met : (s ps ws : Words) (q : Meeting) (x y p : ℕ) (r : Meeting) (c : Bool) → p ≡ place ps (x / 2) → RecordMet s ws q x y p r c → Meets s ps ws q x y r c
record_met s ps ws q x y p r c ep t = t.at ps ep

-- The cells from h mean what a row does, turned by b.
pub record Matches (s : Words) (m : SignedSol) (h b : ℕ) (o : Row) : Type 0 where
  pub same : row s m (record_types s h) ≡ turned s (odd b) (row s m (take o.n o.types))

-- They are met one by one.
pub record CellsMet (s ps ws : Words) (q : Meeting) (h b : ℕ) (o : Row) (r : Meeting) (c : Bool) : Type 0 where
  pub at : (m : SignedSol) → Meaning s ps ws m → Holds s m q → Matches s m h b o → After s m r c

-- j cells are met with the types of the row, and the chain goes on at c: what is left of both means the same.
pub record Crosses (s ps ws : Words) (q : Meeting) (h b : ℕ) (o : Row) (r : Meeting) (c j : ℕ) : Type 0 where
  pub few : j ≤ o.n
  pub long : o.n ≤ length o.types
  pub fuel : o.n < length s
  pub met : CellsMet s ps ws q h b o r false
  pub rest : (m : SignedSol) → Matches s m h b o → row s m (map (type_in_cell s) (chain_of (length s - j) s c)) ≡ turned s (odd b) (row s m (drop j (take o.n o.types)))

pub crosses_start : (s ps ws : Words) (q : Meeting) (h b y n : ℕ) → 8 < length s → n ≤ 8 → Crosses s ps ws q h b (row_at ws y n) q h 0
unfolding cell_types chain
crosses_start s ps ws q h b y n f l = record {
  few = omega arith;
  long = omega (arith, types_at-length ws y);
  fuel = omega arith;
  met = record { at = λ m w k e. record { holds = k; free = refl } };
  rest = λ m e. ap (λ k. row s m (map (type_in_cell s) (chain_of k s h))) (let z : length s - 0 ≡ length s = omega arith in z) ∙ ap (row s m) (sym (cell_types_are s (chain s h))) ∙ e.same;
}

-- Those that are left need not be met.
pub cells_left : (s ps ws : Words) (q : Meeting) (h b : ℕ) (o : Row) (r : Meeting) (c j : ℕ) → Crosses s ps ws q h b o r c j → CellsMet s ps ws q h b o r false
cells_left s ps ws q h b o r c j k = k.met

module _ (s ps ws : Words) (q : Meeting) (h b : ℕ) (o : Row) (r : Meeting) (c j : ℕ) (k : Crosses s ps ws q h b o r c j) where
  count : length (take o.n o.types) ≡ o.n
  count = length-take-le o.n o.types k.long

  -- The cells end before the row does.
  pub crosses_fewer : c ≡ 0 → j ≢ o.n → CellsMet s ps ws q h b o r true
  crosses_fewer z n = record {
    at = λ m w l e.
        let a : 0 ≡ length (drop j (take o.n o.types)) = row_length_lem s m (odd b) [] (drop j (take o.n o.types)) (ap (λ (x : Words). row s m (map (type_in_cell s) x)) (sym (cells-none s (length s - j) c z)) ∙ k.rest m e) in
        absurd (n (omega (arith, k.few, a, length-drop j (take o.n o.types), count)));
  }

  -- A cell more.
  module _ (z : c ≢ 0) where
    more : (m : SignedSol) → Matches s m h b o → row s m (type_in_cell s c ∷ map (type_in_cell s) (chain_of (length s - (j + 1)) s (at s c))) ≡ turned s (odd b) (row s m (drop j (take o.n o.types)))
    more m e = ap (λ (x : Words). row s m (map (type_in_cell s) x)) (sym (cells_more s j c (omega (arith, k.few, k.fuel)) z)) ∙ k.rest m e

    pub crosses_more : o.n ≤ j → CellsMet s ps ws q h b o r true
    crosses_more l = record {
      at = λ m w y e.
          let a = row_length_lem s m (odd b) _ [] (more m e ∙ ap (λ (x : Words). turned s (odd b) (row s m x)) (drop_of_length-le (take o.n o.types) {i = j} (omega (arith, count)))) in
          absurd (omega arith);
    }

    module _ (l : j < o.n) where
      pair : (m : SignedSol) → Matches s m h b o → row s m (type_in_cell s c ∷ map (type_in_cell s) (chain_of (length s - (j + 1)) s (at s c))) ≡ turned s (odd b) (row s m (at o.types j ∷ drop (j + 1) (take o.n o.types)))
      pair m e =
          more m e
          ∙ ap (λ (x : Words). turned s (odd b) (row s m x))
          (drop-cons (take o.n o.types) j 0 (omega (arith, count)) ∙ (λ t. get_or-take o.n o.types j 0 l t ∷ drop (sym (add-one j) t) (take o.n o.types)))

      crosses_next : {t : Meeting} → CellsMet s ps ws q h b o t false → (n : ℕ) → n ≡ at s c → Crosses s ps ws q h b o t n (j + 1)
      crosses_next g n en = record {
        few = omega arith;
        long = k.long;
        fuel = k.fuel;
        met = g;
        rest = λ m e. ap (λ i. row s m (map (type_in_cell s) (chain_of (length s - (j + 1)) s i))) en ∙ row-rest s m (odd b) _ _ _ _ (pair m e);
      }

      -- It is passed over,
      pub crosses_over : (n : ℕ) → n ≡ at s c → Crosses s ps ws q h b o r n (j + 1)
      crosses_over n en = crosses_next k.met n en

      -- or met.
      pub cells_on : (v x g y : ℕ) → v ≡ at s (c + 1) → x ≡ 2048 + v % 2048 → g ≡ at o.types j → y ≡ turn b g → (u : Meeting) (d : Bool) → Meets s ps ws r x y u d → CellsMet s ps ws q h b o u d
      cells_on v x g y ev ex eg ey u d met = record {
        at = λ m w f e. met.at m w (k.met.at m w f e).holds
            (ap (means s m) (ex ∙ ap (λ i. 2048 + i % 2048) ev)
            ∙ row_same s m (odd b) _ _ (pair m e) 0 (omega arith)
            ∙ sym (means-turn s m b (at o.types j))
            ∙ ap (means s m) (sym (ey ∙ ap (turn b) eg)));
      }

      pub crosses_on : (u : Meeting) → CellsMet s ps ws q h b o u false → (n : ℕ) → n ≡ at s c → Crosses s ps ws q h b o u n (j + 1)
      crosses_on u m n en = crosses_next m n en

-- The children of a type that has a record and of a type of a node.
pub across_meets : (s ps ws : Words) (q : Meeting) (x y k j p h i b : ℕ) (o : Row) (r : Meeting) (c : Bool) →
    KindOf s ps ws (x / 2) k → k ≢ 0 → 1024 ≤ x / 2 → y / 2 < 256 → j ≡ kind_at (types_of ws) (y / 2) → j ≢ 0 → ChildTypes ws (y / 2) o → p ≡ place ps (x / 2) → h ≡ at s (p + 4) → i ≡ h → Bit (sides_across s p ws x y) b → CellsMet s ps ws q i b o r c → Meets s ps ws q x y r c
across_meets s ps ws q x y k j p h i b o r c ek zk hx hy ej zj f ep eh ei t d = record {
  at = λ m w l e. d.at m w l (record { same = below m w e ∙ ap (λ (v : Bool). turned s v (row s m (take o.n o.types))) (sym (across_apart s ps ws p x y b ep (omega arith) hy t).is) });
}
  where
    below : (m : SignedSol) → Meaning s ps ws m → means s m x ≡ means s m y → row s m (record_types s i) ≡ turned s (apart s ps ws x y) (row s m (take o.n o.types))
    below m w e =
        let a = over_record s ps ws m (x / 2) k p h i w ek zk (omega arith) ep eh ei in
        let g = (gathers_node s ps ws (y / 2) j o (kind-node s ps ws (y / 2) j hy ej) zj hy f).are m w in
        (made_parts s (type_side s ps ws x) (type_side s ps ws y) a.kind g.kind a.id g.id (row s m (record_types s i)) (row s m (take o.n o.types))
        (sym (type_sort s m x (side_of s ps ws (x / 2)) a.kind a.id (row s m (record_types s i)) a.is) ∙ e ∙ type_sort s m y (side_of s ps ws (y / 2)) g.kind g.id (row s m (take o.n o.types)) g.is)).below
