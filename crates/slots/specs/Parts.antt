-- A part of a slice that was lent and came back: what stands in the one stands in the other.
use Rattle.std.specs.Prelude.{ℕ, ◌+◌, ◌-◌, ◌*◌, ◌≤◌, ◌<◌, ◌≡◌, List, ◌++◌, length, take, drop}
use Rattle.std.proofs.Common.{sym, ◌∙◌, ap, arith, length-drop, get_or-append-add, get_or-take, get_or-drop, length-take-le}
use Rattle.std.proofs.Math.ListN.{get_or-append}
use borrow.Rule.Slice.PartMut.{put_mid, post_of, same_len_mid}
use Rattle.rules.specs.Lists.{Words}
use Rattle.rules.specs.Sheet.{at}
use Rattle.rules.specs.Types.{Types}
use Rattle.rules.specs.Search.{Result}
use Rattle.slots.specs.Slots.{slot_length, Table, Slots, table_move, slots_move}

-- The words from a on, as they are lent.
abbrev pub part : ℕ → Words → Words
part a ws = take (length ws - a) (drop a ws)

pub part_length : (a : ℕ) (ws : Words) → length (part a ws) ≡ length ws - a
part_length a ws = length-take-le (length ws - a) (drop a ws) (omega (arith, length-drop a ws))

pub part_at : (a : ℕ) (ws : Words) (i : ℕ) → i < length ws - a → at (part a ws) i ≡ at ws (a + i)
part_at a ws i h = get_or-take (length ws - a) (drop a ws) i 0 h ∙ get_or-drop a ws i 0

-- The part of ws from a on was lent, and came back as ys, as long as it was.
pub record Lent (a : ℕ) (ws ys back : Words) : Type 0 where
  pub low : (i : ℕ) → i < a → at back i ≡ at ws i
  pub part : (j : ℕ) → j < length ws - a → at back (a + j) ≡ at ys j
  pub long : length back ≡ length ws

pub lent : (a : ℕ) (ws ys : Words) → a ≤ length ws → length ys ≡ length (part a ws) → Lent a ws ys (put_mid a (length ws - a) ws ys)
lent a ws ys room kept =
    let zs = post_of a (length ws - a) ws in
    let front : length (take a ws) ≡ a = length-take-le a ws room in
    let size : length ys ≡ length ws - a = kept ∙ part_length a ws in
    record {
      low = λ i h. get_or-append (take a ws) (ys ++ zs) 0 i (omega arith) ∙ get_or-take a ws i 0 h;
      part = λ j h. ap (λ (n : ℕ). at (take a ws ++ (ys ++ zs)) (n + j)) (sym front) ∙ get_or-append-add (take a ws) (ys ++ zs) j 0 ∙ get_or-append ys zs 0 j (omega arith);
      long = same_len_mid a (length ws - a) ws ys kept;
    }

-- A table that stands at the part's front is the part's own.
pub part-table : (a : ℕ) (ws : Words) (ts : Types) → Table ws a ts → Table (part a ws) 0 ts
part-table a ws ts t = table_move ws (part a ws) a 0 ts (omega (arith, long, part_length a ws)) (λ i l m. ap (at (part a ws)) (let z : 0 + i ≡ i = omega arith in z) ∙ part_at a ws i (omega (arith, long))) t
  where
    long : 1025 ≤ length ws - a
    long = omega (arith, length-drop a ws, t.packed.long)

-- Results in the part that came back.
pub slots_back : (a b : ℕ) (ws ys back : Words) (rs : List Result) → Lent a ws ys back → a + b + slot_length * length rs ≤ length ws → Slots ys b rs → Slots back (a + b) rs
slots_back a b ws ys back rs l room s = slots_move ys back b (a + b) rs (omega (arith, l.long))
    (λ i h. ap (at back) (let z : a + b + i ≡ a + (b + i) = omega arith in z) ∙ l.part (b + i) (omega arith)) s

-- Results before the part.
pub slots_front : (a b : ℕ) (ws ys back : Words) (rs : List Result) → Lent a ws ys back → b + slot_length * length rs ≤ a → a ≤ length ws → Slots ws b rs → Slots back b rs
slots_front a b ws ys back rs l room long s = slots_move ws back b b rs (omega (arith, l.long)) (λ i h. l.low (b + i) (omega arith)) s
