-- Results of a search (`Result`: types and trees) in slots of one lent slice. A slot is a packed table and a buffer of trees behind it.
-- What stands in slots, and that it depends on their words alone.
use Rattle.std.specs.Prelude.{ℕ, ◌+◌, ◌*◌, ◌≤◌, ◌<◌, min, ◌≡◌, List, [], ◌∷◌, ◌++◌, ◌⊎◌, length, get_or, drop}
use Rattle.std.proofs.Common.{sym, ◌∙◌, ap, subst, ⊎_elim, eq-or-lt_of_le, arith, length-drop, length-append, get_or-drop}
use Rattle.std.proofs.Math.ListN.{get_or-append}
use Rattle.std.proofs.Math.Seq.{get_or-append_seam}
use Rattle.rules.specs.Lists.{Words}
use Rattle.rules.specs.Limits.{limit_nodes}
use Rattle.rules.specs.Sheet.{at}
use Rattle.rules.specs.Types.{Types}
use Rattle.rules.specs.Search.{Trees, end, Result}
use Rattle.table.specs.Packing.{up_to, node_of, types_of, Counted, Packed}
use Rattle.table.specs.Nodes.{up_to-same}
use Rattle.table.specs.Writes.{node-same}
use Rattle.trees.specs.Forests.{Holds}
use Rattle.trees.specs.Changes.{lies_same}

-- The words of a slot, and where its trees stand in it.
abbrev pub slot_length : ℕ
slot_length = 1282

abbrev pub slot_trees : ℕ
slot_trees = 1025

-- A table stands at a place: the words from there on are packed, and are these types.
pub record Table (ws : Words) (a : ℕ) (ts : Types) : Type 0 where
  pub packed : Packed (drop a ws)
  pub is : types_of (drop a ws) ≡ ts

-- A result stands in the slot at a place.
pub record Slot (ws : Words) (a : ℕ) (r : Result) : Type 0 where
  pub room : a + slot_length ≤ length ws
  pub table : Table ws a r.0
  pub trees : Holds ws (a + slot_trees) r.1

-- Results stand in the slots from a place on.
pub record Slots (ws : Words) (a : ℕ) (rs : List Result) : Type 0 where
  pub at : (k : ℕ) → k < length rs → Slot ws (a + slot_length * k) (get_or rs k ([], end))

-- A slot is written, and what lies outside it is as it was.
pub record Written (ws us : Words) (a : ℕ) (r : Result) : Type 0 where
  pub len : length us ≡ length ws
  pub slot : Slot us a r
  pub low : (i : ℕ) → i < a → at us i ≡ at ws i
  pub high : (i : ℕ) → a + slot_length ≤ i → at us i ≡ at ws i

-- Words that are the same as far as a table has nodes are the same table.
pub types_same : (ws us : Words) → at us 0 ≡ at ws 0 → ((i : ℕ) → i < 4 * at ws 0 + 1 → i < 1025 → at us i ≡ at ws i) → types_of us ≡ types_of ws
unfolding types_of
types_same ws us e h =
    ap (λ n. up_to (node_of us) (min n limit_nodes)) e
    ∙ up_to-same (node_of us) (node_of ws) (min (at ws 0) limit_nodes) (λ m l. node-same ws us m (λ j p q. h (4 * m + j) (omega arith) (omega arith)))

-- A table goes where its words go.
pub table_move : (ws us : Words) (a b : ℕ) (ts : Types) → b + 1025 ≤ length us → ((i : ℕ) → i < 4 * at ws a + 1 → i < 1025 → at us (b + i) ≡ at ws (a + i)) → Table ws a ts → Table us b ts
table_move ws us a b ts room h t = record {
  packed = record {
    long = simp length-drop (omega arith);
    few = omega (arith, first, t.packed.few);
    counted = subst Counted (sym same) t.packed.counted;
  };
  is = same ∙ t.is;
}
  where
    here : at (drop a ws) 0 ≡ at ws a
    here = get_or-drop a ws 0 0 ∙ ap (at ws) (omega arith)

    word : (i : ℕ) → i < 4 * at ws a + 1 → i < 1025 → at (drop b us) i ≡ at (drop a ws) i
    word i l m = get_or-drop b us i 0 ∙ h i l m ∙ sym (get_or-drop a ws i 0)

    first : at (drop b us) 0 ≡ at (drop a ws) 0
    first = word 0 (omega arith) (omega arith)

    same : types_of (drop b us) ≡ types_of (drop a ws)
    same = types_same (drop a ws) (drop b us) first (λ i l m. word i (omega (arith, here)) m)

-- So do trees, and what stands in a slot.
pub trees_move : (ws us : Words) (a b : ℕ) (ts : Trees) → ((i : ℕ) → i < 257 → at us (b + i) ≡ at ws (a + i)) → Holds ws a ts → Holds us b ts
trees_move ws us a b ts h t = record {
  count = ap (at us) (let e : b ≡ b + 0 = omega arith in e) ∙ h 0 (omega arith) ∙ ap (at ws) (let e : a + 0 ≡ a = omega arith in e) ∙ t.count;
  few = t.few;
  lies = lies_same ws us (a + 1) (b + 1) ts
      (λ i l. ap (at us) (let e : b + 1 + i ≡ b + (1 + i) = omega arith in e) ∙ h (1 + i) (omega (arith, t.few)) ∙ ap (at ws) (let e : a + (1 + i) ≡ a + 1 + i = omega arith in e)) t.lies;
}

pub slot_move : (ws us : Words) (a b : ℕ) (r : Result) → b + slot_length ≤ length us → ((i : ℕ) → i < slot_length → at us (b + i) ≡ at ws (a + i)) → Slot ws a r → Slot us b r
slot_move ws us a b r room h s = record {
  room = room;
  table = table_move ws us a b r.0 (omega arith) (λ i l m. h i (omega arith)) s.table;
  trees = trees_move ws us (a + slot_trees) (b + slot_trees) r.1
      (λ i l. ap (at us) (let e : b + slot_trees + i ≡ b + (slot_trees + i) = omega arith in e) ∙ h (slot_trees + i) (omega arith) ∙ ap (at ws) (let e : a + (slot_trees + i) ≡ a + slot_trees + i = omega arith in e)) s.trees;
}

pub slots_move : (ws us : Words) (a b : ℕ) (rs : List Result) → b + slot_length * length rs ≤ length us → ((i : ℕ) → i < slot_length * length rs → at us (b + i) ≡ at ws (a + i)) → Slots ws a rs → Slots us b rs
slots_move ws us a b rs room h s = record {
  at = λ k l. slot_move ws us (a + slot_length * k) (b + slot_length * k) (get_or rs k ([], end)) (omega arith)
      (λ i m. ap (at us) (let e : b + slot_length * k + i ≡ b + (slot_length * k + i) = omega arith in e) ∙ h (slot_length * k + i) (omega arith) ∙ ap (at ws) (let e : a + (slot_length * k + i) ≡ a + slot_length * k + i = omega arith in e)) (s.at k l);
}

-- What stands in slots that are as they were.
pub slot_kept : (ws us : Words) (a : ℕ) (r : Result) → length us ≡ length ws → ((i : ℕ) → a ≤ i → i < a + slot_length → at us i ≡ at ws i) → Slot ws a r → Slot us a r
slot_kept ws us a r e h s = slot_move ws us a a r (omega (arith, s.room)) (λ i l. h (a + i) (omega arith) (omega arith)) s

pub slots_kept : (ws us : Words) (a : ℕ) (rs : List Result) → length us ≡ length ws → ((i : ℕ) → a ≤ i → i < a + slot_length * length rs → at us i ≡ at ws i) → Slots ws a rs → Slots us a rs
slots_kept ws us a rs e h s = record {
  at = λ k l. slot_kept ws us (a + slot_length * k) (get_or rs k ([], end)) e (λ i p q. h i (omega arith) (omega arith)) (s.at k l);
}

-- No results, and one more behind n.
pub slots_none : (ws : Words) (a : ℕ) → Slots ws a []
slots_none ws a = record { at = λ k l. absurd (omega arith) }

pub slots_more : (ws : Words) (a n : ℕ) (rs : List Result) (r : Result) → length rs ≡ n → Slots ws a rs → Slot ws (a + slot_length * n) r → Slots ws a (rs ++ (r ∷ []))
slots_more ws a n rs r e s t = record { at = λ k l. ⊎_elim (λ p. last k p) (λ p. first k p) (either k (omega (arith, length-append rs (r ∷ [])))) }
  where
    either : (k : ℕ) → k ≤ length rs → (k ≡ length rs) ⊎ (k < length rs)
    either k h = eq-or-lt_of_le h

    first : (k : ℕ) → k < length rs → Slot ws (a + slot_length * k) (get_or (rs ++ (r ∷ [])) k ([], end))
    first k p = subst (Slot ws (a + slot_length * k)) (sym (get_or-append rs (r ∷ []) ([], end) k p)) (s.at k p)

    last : (k : ℕ) → k ≡ length rs → Slot ws (a + slot_length * k) (get_or (rs ++ (r ∷ [])) k ([], end))
    last k p = rw p (subst (Slot ws (a + slot_length * length rs)) (sym (get_or-append_seam rs r [] ([], end))) (rw e t))
