-- The children of a ref, told as a row of types.
use Rattle.std.specs.Prelude.{ℕ, zero, suc, ◌+◌, ◌-◌, ◌%◌, ◌≤◌, ◌<◌, ◌≡◌, refl, Bool, true, false, [], ◌∷◌, ◌++◌, map, ◌≢◌, ltb, length, set, take}
use Rattle.std.proofs.Common.{⊎_elim, lt-ltb, le-ltb, sym, ◌∙◌, ap, append_assoc, append-nil, add-one, arith, length-set, take-suc-set}
use Rattle.rules.specs.Lists.{Words}
use Rattle.rules.specs.Sheet.{at, chain, chain_of}
use Rattle.rules.specs.Types.{Ty}
use Rattle.rules.specs.Transfer.{cell_types, type_of_word}
use Rattle.rules.specs.Answer.{word_of_type}
use Rattle.rules.specs.Solutions.{rep}
use Rattle.rules.specs.Pigeonholes.{lt_or}
use Rattle.rules.specs.SignedTerms.{Signed, SignedSol, made, label}
use Rattle.table.specs.declared.Row.{Row}
use Rattle.table.specs.Packing.{types_of, kind_at, id_at}
use Rattle.table.specs.Nodes.{word_type}
use Rattle.table.specs.ChildTypes.{ChildTypes}
use Rattle.refs.specs.Meaning.{node_types, row, record_types, Meaning}
use Rattle.refs.specs.Refs.{KindOf, place, side_of, side-node, side_record, ref_low, record_plain}

-- The cells of a chain, of which there are at most eight.
pub record Cells (s : Words) (h : ℕ) (o : Row) : Type 0 where
  pub few : o.n ≤ 8
  pub long : o.n ≤ length o.types
  pub are : take o.n o.types ≡ record_types s h

-- The type in the cell at a place.
abbrev pub type_in_cell : Words → ℕ → ℕ
type_in_cell s p = 2048 + at s (p + 1) % 2048

pub cell_types_are : (s : Words) (ps : Words) → map (λ (c : Ty). 2048 + word_of_type c % 2048) (map (λ p. type_of_word (at s (p + 1))) ps) ≡ map (type_in_cell s) ps
cell_types_are s [] = refl
cell_types_are s (p ∷ ps) = λ i. (2048 + word_type (at s (p + 1)) i % 2048) ∷ cell_types_are s ps i

-- j types are written, and the cells at cs are left.
pub record Walks (s : Words) (h : ℕ) (ns cs : Words) (j : ℕ) : Type 0 where
  pub long : length ns ≡ 8
  pub few : j ≤ 8
  pub rest : take j ns ++ map (type_in_cell s) cs ≡ record_types s h

pub walks_start : (s : Words) (h : ℕ) (ns cs : Words) → length ns ≡ 8 → cs ≡ chain s h → Walks s h ns cs 0
unfolding cell_types
walks_start s h ns cs e q = record {
  long = e;
  few = omega arith;
  rest = ap (map (type_in_cell s)) q ∙ sym (cell_types_are s (chain s h));
}

pub walks_end : (s : Words) (h : ℕ) (ns cs : Words) (j : ℕ) → Walks s h ns cs j → cs ≡ [] → Cells s h (record { n = j; types = ns })
walks_end s h ns cs j w e = record { few = w.few; long = omega (arith, w.few, w.long); are = sym (append-nil (take j ns)) ∙ ap (λ (l : Words). take j ns ++ map (type_in_cell s) l) (sym e) ∙ w.rest }

pub walks_on : (s : Words) (h : ℕ) (ns cs : Words) (c : ℕ) (ds : Words) (j v x : ℕ) → Walks s h ns cs j → cs ≡ c ∷ ds → j ≢ 8 → v ≡ at s (c + 1) → x ≡ 2048 + v % 2048 → Walks s h (set ns j x) ds (j + 1)
walks_on s h ns cs c ds j v x w e y ev ex = record {
  long = length-set ns j x ∙ w.long;
  few = omega (arith, w.few, y);
  rest =
      ap (λ (l : Words). l ++ map (type_in_cell s) ds) (ap (λ k. take k (set ns j x)) (add-one j) ∙ take-suc-set ns j x (omega (arith, w.few, w.long, y)))
      ∙ append_assoc (take j ns) (x ∷ []) (map (type_in_cell s) ds)
      ∙ (λ t. take j ns ++ ((ex ∙ ap (λ k. 2048 + k % 2048) ev) t ∷ map (type_in_cell s) ds))
      ∙ ap (λ (l : Words). take j ns ++ map (type_in_cell s) l) (sym e)
      ∙ w.rest;
}

-- Nothing is left at 0, and elsewhere a cell.
pub cells-none : (s : Words) (k c : ℕ) → c ≡ 0 → chain_of k s c ≡ []
unfolding chain_of
cells-none s zero c e = refl
cells-none s (suc k) c e = ap (chain_of (suc k) s) e

pub cells_more : (s : Words) (j c : ℕ) → j < length s → c ≢ 0 → chain_of (length s - j) s c ≡ c ∷ chain_of (length s - (j + 1)) s (at s c)
unfolding chain_of
cells_more s j zero h q = absurd (q refl)
cells_more s j (suc i) h q = ap (λ k. chain_of k s (suc i)) (let e : length s - j ≡ suc (length s - (j + 1)) = omega arith in e)

-- A term of a side, some kind and id over another.
pub record Over (s : Words) (t : Signed) (i : Bool) (u : Signed) : Type 0 where
  pub kind : ℕ
  pub id : ℕ
  pub is : t ≡ made s i kind id u

-- What a ref means is over what the row says.
pub record Gathers (s ps ws : Words) (r : ℕ) (o : Row) : Type 0 where
  pub few : o.n ≤ 8
  pub long : o.n ≤ length o.types
  pub are : (m : SignedSol) → Meaning s ps ws m → Over s (m (r % 2048)) (side_of s ps ws r) (row s m (take o.n o.types))

pub gathers_node : (s ps ws : Words) (r k : ℕ) (o : Row) → KindOf s ps ws r k → k ≢ 0 → r < 256 → ChildTypes ws r o → Gathers s ps ws r o
gathers_node s ps ws r k o e z h c = record {
  few = c.few;
  long = c.long;
  are = λ m w. record {
    kind = kind_at (types_of ws) r;
    id = label w.records.name (kind_at (types_of ws) r) (id_at (types_of ws) r) r;
    is = ref_low m r (omega arith) ∙ w.nodes.root r h (λ q. z (e.node h ∙ q)) c.root ∙ (λ t. made s (sym (side-node s ps ws r h) t) (kind_at (types_of ws) r) (label w.records.name (kind_at (types_of ws) r) (id_at (types_of ws) r) r) (row s m (sym c.are t)));
  };
}

pub known_node : (s ps ws : Words) (r k : ℕ) → KindOf s ps ws r k → k ≢ 0 → r < 256 → kind_at (types_of ws) r ≢ 0
known_node s ps ws r k e z h = λ q. z (e.node h ∙ q)

-- The ref of a record that has a kind is over its cells.
pub over_record : (s ps ws : Words) (m : SignedSol) (r k p h j : ℕ) → Meaning s ps ws m → KindOf s ps ws r k → k ≢ 0 → 256 ≤ r → p ≡ place ps r → h ≡ at s (p + 4) → j ≡ h → Over s (m (r % 2048)) (side_of s ps ws r) (row s m (record_types s j))
over_record s ps ws m r k p h j w e z l ep eh ej = record {
  kind = at s (place ps r + 1);
  id = label w.records.name (at s (place ps r + 1)) (at s (place ps r + 3)) r;
  is =
      record_plain s ps m w.records r (e.inside l z) (λ q. z (sym (e.is l z) ∙ q)) (λ q. e.plain l (sym (e.is l z) ∙ q))
      ∙ (λ t. made s (sym (side_record s ps ws r l) t) (at s (place ps r + 1)) (label w.records.name (at s (place ps r + 1)) (at s (place ps r + 3)) r) (row s m (record_types s (sym (ej ∙ eh ∙ ap (λ q. at s (q + 4)) ep) t))));
}

pub gathers_record : (s ps ws : Words) (r k p h j : ℕ) (o : Row) → KindOf s ps ws r k → k ≢ 0 → 256 ≤ r → p ≡ place ps r → h ≡ at s (p + 4) → j ≡ h → Cells s j o → Gathers s ps ws r o
gathers_record s ps ws r k p h j o e z l ep eh ej c = record {
  few = c.few;
  long = c.long;
  are = λ m w.
      let v = over_record s ps ws m r k p h j w e z l ep eh ej in
      record { kind = v.kind; id = v.id; is = v.is ∙ ap (λ (x : Words). made s (side_of s ps ws r) v.kind v.id (row s m x)) (sym c.are) };
}

-- The types below a ref, by its node or its record.
unfoldable pub below : Words → Words → Words → ℕ → Words
below s ps ws r = elim (ltb r 256) [ true ↦ node_types ws r | false ↦ record_types s (at s (place ps r + 4)) ]

pub below_low : (s ps ws : Words) (r : ℕ) → r < 256 → below s ps ws r ≡ node_types ws r
unfolding below
below_low s ps ws r h = rw (lt-ltb r 256 h, below)

pub below_high : (s ps ws : Words) (r : ℕ) → 256 ≤ r → below s ps ws r ≡ record_types s (at s (place ps r + 4))
unfolding below
below_high s ps ws r h = rw (le-ltb r 256 h, below)

-- They are what the row says.
pub record Below (s ps ws : Words) (r : ℕ) (o : Row) : Type 0 where
  pub root : r < 256 → rep (types_of ws) r ≡ r
  pub few : o.n ≤ 8
  pub long : o.n ≤ length o.types
  pub are : take o.n o.types ≡ below s ps ws r

pub below_node : (s ps ws : Words) (r : ℕ) (o : Row) → r < 256 → ChildTypes ws r o → Below s ps ws r o
below_node s ps ws r o h c = record { root = λ l. c.root; few = c.few; long = c.long; are = c.are ∙ sym (below_low s ps ws r h) }

pub below_record : (s ps ws : Words) (r p h : ℕ) (o : Row) → 256 ≤ r → p ≡ place ps r → h ≡ at s (p + 4) → Cells s h o → Below s ps ws r o
below_record s ps ws r p h o l ep eh c = record {
  root = λ q. absurd (omega (arith, l, q));
  few = c.few;
  long = c.long;
  are = c.are ∙ ap (record_types s) (eh ∙ ap (λ k. at s (k + 4)) ep) ∙ sym (below_high s ps ws r l);
}

pub gathers_below : (s ps ws : Words) (r k : ℕ) (o : Row) → KindOf s ps ws r k → k ≢ 0 → Below s ps ws r o → Gathers s ps ws r o
gathers_below s ps ws r k o e z b = record { few = b.few; long = b.long; are = λ m w. ⊎_elim (low m w) (high m w) (lt_or r 256) }
  where
    low : (m : SignedSol) → Meaning s ps ws m → r < 256 → Over s (m (r % 2048)) (side_of s ps ws r) (row s m (take o.n o.types))
    low m w h = (gathers_node s ps ws r k o e z h (record { root = b.root h; few = b.few; long = b.long; are = b.are ∙ below_low s ps ws r h })).are m w

    high : (m : SignedSol) → Meaning s ps ws m → 256 ≤ r → Over s (m (r % 2048)) (side_of s ps ws r) (row s m (take o.n o.types))
    high m w l =
        let v = over_record s ps ws m r k (place ps r) (at s (place ps r + 4)) (at s (place ps r + 4)) w e z l refl refl refl in
        record { kind = v.kind; id = v.id; is = v.is ∙ ap (λ (x : Words). made s (side_of s ps ws r) v.kind v.id (row s m x)) (sym (b.are ∙ below_high s ps ws r l)) }
