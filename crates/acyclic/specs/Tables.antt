-- Whole tables: the places of a table's nodes in a buffer, the walks down from each node, the tables of a chain, of a sheet and of a question; and what of a buffer a check may change.
use Rattle.std.specs.Prelude.{ℕ, zero, suc, ◌+◌, ◌≤◌, ◌<◌, ◌≡◌, refl, Bool, true, false, List, ◌≢◌, T}
use Rattle.std.proofs.Common.{sym, ◌∙◌, ap, subst, inr, zero-add, ⊎_elim, not-suc-le-zero, le_of_suc-le-suc, below_more}
use native.Mathlib.Omega.{arith}
use Rattle.std.proofs.Math.ListN.{length}
use Rattle.rules.specs.Lists.{Words}
use Rattle.rules.specs.Sheet.{at, chain, chain_of}
use Rattle.rules.specs.Transfer.{table}
use Rattle.rules.specs.Types.{Ty}
use Rattle.rules.specs.Acyclic.{acyclic}
use Rattle.rules.specs.AcyclicLaws.{child, lt_or, no_children, Down, one, on}
use Rattle.rules.specs.NoCycles.{acyclic_if_none}
use Rattle.rules.specs.CheckedTables.{table_length_lem}
use Rattle.acyclic.specs.Nodes.{Inside, child_cell, deep_cyclic}
use Rattle.acyclic.specs.Walk.{Walking, Walked}
use Rattle.chart.specs.Index.{Indexed, chain-within}

-- A table's nodes are no more than the slice has words.
pub list_room : (s : Words) (h : ℕ) (ws : Words) → length s ≤ length ws → 0 + length (chain s h) ≤ length ws
list_room s h ws k = omega (arith, chain-within s h)

-- No place is 0.
place_set : (k : ℕ) (s : Words) (h n : ℕ) → n < length (chain_of k s h) → at (chain_of k s h) n ≢ 0
unfolding chain_of
place_set zero s h n l e = not-suc-le-zero l
place_set (suc k) s zero n l e = not-suc-le-zero l
place_set (suc k) s (suc h) zero l e = omega arith
place_set (suc k) s (suc h) (suc n) l e = place_set k s (at s (suc h)) n (le_of_suc-le-suc l) e

-- Walks down from the nodes in turn: those below n are finished.
pub record Walks (s : Words) (h : ℕ) (ws : Words) (n : ℕ) : Type 0 where
  pub walking : Walking s h ws
  pub finished : (m : ℕ) → m < n → at ws m ≡ 0

pub walks_start : (s : Words) (h : ℕ) (ws us : Words) (r : ℕ) → length s ≤ length ws → length us ≡ length ws → Indexed s h ws us 0 r → Inside s h → Walks s h us 0
unfolding chain
walks_start s h ws us r k q x i =
    let same : (m : ℕ) → m < length (chain s h) → at us m ≡ at (chain s h) m = λ m l. ap (at us) (sym (zero-add m)) ∙ x.place m (omega (arith, x.count)) in
    let none : (m : ℕ) → m < length (chain s h) → at us m ≡ 0 → ⊥ = λ m l z. place_set (length s) s h m l (sym (same m l) ∙ z) in
    record {
      walking = record {
        long = omega (arith, chain-within s h);
        named = i;
        place = λ m l. inr (same m l);
        closed = λ m l z. absurd (none m l z);
        free = λ m l z. absurd (none m l z);
      };
      finished = λ m l. absurd (not-suc-le-zero l);
    }

-- From a node that is no node there is no way down.
starts : (s : Words) (h n m : ℕ) → Down (table s h) n m → n < length (chain s h)
starts s h n m (one j k) = subst (λ x. n < x) (table_length_lem s h) (⊎_elim (λ l. l) (λ l. absurd (not-suc-le-zero (subst (λ (ts : List Ty). j < length ts) (no_children (table s h) n l) k))) (lt_or n (length (table s h))))
starts s h n m (on {y} d j k) = starts s h n y d

true_is : (b : Bool) → T b → true ≡ b
true_is true t = refl
true_is false t = absurd t

module _ (s : Words) (h : ℕ) (ls us : Words) (r : ℕ) (e : Indexed s h ls us 0 r) where
  pub node_in : (n : ℕ) → n < r → n < length (chain s h)
  node_in n l = omega (arith, e.count)

  -- One node more.
  pub walks_on : (n : ℕ) (ws out : Words) (b : Bool) → n < r → Walks s h ws n → Walked s h n r ws out b → b ≡ true → Walks s h out (n + 1)
  walks_on n ws out b l w d g = record {
    walking = d.walking g;
    finished = below_more (λ m. at out m ≡ 0) n (λ m k. d.kept g m (omega (arith, e.count)) (w.finished m k)) (d.finished g);
  }

  -- A way down of as many steps as there are nodes.
  pub walks_deep : (n : ℕ) (ws out : Words) (b : Bool) → Inside s h → n < r → Walked s h n r ws out b → b ≡ false → false ≡ acyclic (table s h)
  walks_deep n ws out b i l d g = deep_cyclic s h i n (node_in n l) ((subst (λ k. Walked s h n k ws out b) e.count d).deep g)

  -- All nodes are finished.
  pub walks_end : (n : ℕ) (ws : Words) → r ≤ n → Walks s h ws n → true ≡ acyclic (table s h)
  walks_end n ws l w = true_is _ (acyclic_if_none (table s h)
      (λ m j k. let q = starts s h m (child (table s h) m j) (one j k) in let c = child_cell s h m q j k in rw (c.2, table_length_lem s h) (w.walking.named.inside m q c.0 c.1))
      (λ m d. let q = starts s h m m d in w.walking.free m q (w.finished m (omega (arith, e.count))) d))
