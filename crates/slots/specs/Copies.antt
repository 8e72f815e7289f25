-- Slots copied within one slice: what the code is told and leaves, with the laws that it cites.
use Rattle.std.specs.Prelude.{ℕ, ◌+◌, ◌*◌, ◌≤◌, ◌<◌, ◌≡◌, refl, ◌⊎◌, length, drop}
use Rattle.std.proofs.Common.{◌∙◌, ap, subst, inl, inr, ⊎_elim, arith, length-drop, get_or-drop}
use Rattle.rules.specs.Lists.{Words}
use Rattle.rules.specs.Sheet.{at}
use Rattle.rules.specs.Types.{Types}
use Rattle.rules.specs.Search.{Trees, Result}
use Rattle.table.specs.Packing.{types_of, Packed}
use Rattle.trees.specs.Forests.{Holds, Held, Apart}
use Rattle.trees.specs.Carries.{Carries}
use Rattle.trees.specs.Changes.{Copies, holds_same}
use Rattle.slots.specs.Slots.{slot_length, slot_trees, Table, Slot, Written, table_move}

-- Two slots that have no word in common.
pub record Beside (a b : ℕ) : Type 0 where
  pub either : (a + slot_length ≤ b) ⊎ (b + slot_length ≤ a)

-- Some result stands in the slot.
pub record Filled (ws : Words) (a : ℕ) : Type 0 where
  pub result : Result
  pub slot : Slot ws a result

-- A table is copied, and what lies outside its words is as it was.
pub record Tabled (ws us : Words) (a b : ℕ) : Type 0 where
  pub len : length us ≡ length ws
  pub table : Table us b (types_of (drop a ws))
  pub low : (i : ℕ) → i < b → at us i ≡ at ws i
  pub high : (i : ℕ) → b + slot_trees ≤ i → at us i ≡ at ws i

-- A slot is copied.
pub record Doubles (ws us : Words) (a b : ℕ) : Type 0 where
  pub at : (r : Result) → Slot ws a r → Written ws us b r

-- A packed table has its count first, of at most 256 nodes, and room for them.
pub count_few : (ws : Words) (a r : ℕ) → Packed (drop a ws) → r ≡ at ws a → r ≤ 256
count_few ws a r p e = omega (arith, e, get_or-drop a ws 0 0 ∙ ap (at ws) (let z : a + 0 ≡ a = omega arith in z), p.few)

pub table_room : (ws : Words) (a : ℕ) → Packed (drop a ws) → a + 1025 ≤ length ws
table_room ws a p = omega (arith, length-drop a ws, p.long)

-- The words of n nodes are the whole table.
pub tabled : (ws us : Words) (a b n : ℕ) → n ≡ at ws a → n ≤ 256 → Packed (drop a ws) → b + 1282 ≤ length ws → Carries ws ws us a b (4 * n + 1) → Tabled ws us a b
tabled ws us a b n e few p room c = record {
  len = c.len;
  table = table_move ws us a b (types_of (drop a ws)) (omega (arith, c.len)) (λ i l m. c.there i (omega arith)) (record { packed = p; is = refl });
  low = c.low;
  high = λ i l. c.high i (omega arith);
}

pub filled_packed : (ws : Words) (a : ℕ) → Filled ws a → Packed (drop a ws)
filled_packed ws a f = f.slot.table.packed

pub filled_trees : (ws : Words) (a r : ℕ) → Filled ws a → r ≡ at ws (a + 1025) → r ≤ 256
filled_trees ws a r f e = omega (arith, f.slot.trees.count, f.slot.trees.few)

pub filled_room : (ws : Words) (a : ℕ) → Filled ws a → a + 1282 ≤ length ws
filled_room ws a f = f.slot.room

pub trees_apart : (a b : ℕ) → Beside a b → Apart (a + 1025) (b + 1025)
trees_apart a b p = record { either = ⊎_elim (λ q. inl (omega arith)) (λ q. inr (omega arith)) p.either }

-- The trees of a slot beside the copied table are as they were.
pub trees_kept : (ws us : Words) (a b c : ℕ) (ts : Trees) → Tabled ws us a b → Beside c b → Holds ws (c + 1025) ts → Holds us (c + 1025) ts
trees_kept ws us a b c ts t p h = holds_same ws us (c + 1025) ts (λ i l m. ⊎_elim (λ q. t.low i (omega arith)) (λ q. t.high i (omega arith)) p.either) h

pub trees_few : (ws us : Words) (a b c : ℕ) → Filled ws c → Beside c b → Tabled ws us a b → at us (c + 1025) ≤ 256
trees_few ws us a b c f p t = let h = trees_kept ws us a b c f.result.1 t p f.slot.trees in omega (arith, h.count, h.few)

-- A table copied, and trees behind it.
pub with_trees : (ws us vs : Words) (a b : ℕ) (ts : Trees) → Tabled ws us a b → b + 1282 ≤ length ws → Held us vs (b + 1025) ts → Written ws vs b (types_of (drop a ws), ts)
with_trees ws us vs a b ts t room h = record {
  len = h.len ∙ t.len;
  slot = record {
    room = omega (arith, h.len, t.len);
    table = table_move us vs b b (types_of (drop a ws)) (omega (arith, h.len, t.len)) (λ i l m. h.low (b + i) (omega arith)) t.table;
    trees = h.holds;
  };
  low = λ i l. h.low i (omega arith) ∙ t.low i l;
  high = λ i l. h.high i (omega arith) ∙ t.high i (omega arith);
}

pub doubled : (ws us vs : Words) (a b : ℕ) → Beside a b → b + 1282 ≤ length ws → Tabled ws us a b → Copies us us vs (a + 1025) (b + 1025) → Doubles ws vs a b
doubled ws us vs a b p room t c = record { at = λ r s. one r s }
  where
    one : (r : Result) → Slot ws a r → Written ws vs b r
    one r s = subst (λ (ts : Types). Written ws vs b (ts, r.1)) s.table.is (with_trees ws us vs a b r.1 t room (c.trees r.1 (trees_kept ws us a b a r.1 t p s.trees)))
