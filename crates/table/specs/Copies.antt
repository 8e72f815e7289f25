-- Laws of copying a table: the words of the nodes that it has are all that it is.
use Rattle.std.specs.Prelude.{ℕ, zero, suc, ◌+◌, ◌*◌, ◌≤◌, ◌<◌, min, ◌≡◌, refl, [], ◌∷◌, length, set}
use Rattle.std.proofs.Common.{sym, ◌∙◌, ap, subst, le_of_suc-le-suc, not-suc-le-zero, arith, length-set, get_or-set_same}
use Rattle.rules.specs.Lists.{Words}
use Rattle.rules.specs.Limits.{limit_nodes}
use Rattle.rules.specs.Sheet.{at}
use Rattle.words.specs.Buffers.{copied, copied-length}
use Rattle.table.specs.Packing.{up_to, node_of, types_of, Counted, Packed, Becomes}
use Rattle.table.specs.Nodes.{up_to-same, types_length}
use Rattle.table.specs.Writes.{node-same}

pub copied_at : (n i : ℕ) (from to : Words) → i < n → i < length from → i < length to → at (copied n from to) i ≡ at from i
unfolding copied
copied_at zero i from to h a b = absurd (not-suc-le-zero h)
copied_at (suc n) i [] to h a b = absurd (not-suc-le-zero a)
copied_at (suc n) i (x ∷ xs) [] h a b = absurd (not-suc-le-zero b)
copied_at (suc n) zero (x ∷ xs) (y ∷ ys) h a b = refl
copied_at (suc n) (suc i) (x ∷ xs) (y ∷ ys) h a b = copied_at n i xs ys (le_of_suc-le-suc h) (le_of_suc-le-suc a) (le_of_suc-le-suc b)

-- c is the count of a table, and w the same.
pub copied-table : (from to us : Words) (c w : ℕ) → Packed from → 1025 ≤ length to → c ≡ length (types_of from) → w ≡ c → us ≡ copied (4 * w + 1) from to → Becomes us (types_of from)
unfolding types_of
copied-table from to us c w g long ec ew e = rw e (record {
  packed = record {
    long = omega (arith, copied-length (4 * w + 1) from to);
    few = omega (arith, first, g.few);
    counted = subst Counted (sym same) g.counted;
  };
  is = same;
})
  where
    first : at (copied (4 * w + 1) from to) 0 ≡ at from 0
    first = copied_at (4 * w + 1) 0 from to (omega arith) (omega (arith, g.long)) (omega arith)

    low : c ≤ limit_nodes
    low = omega (arith, types_length from)

    node : (m : ℕ) → m < c → node_of (copied (4 * w + 1) from to) m ≡ node_of from m
    node m h = node-same from (copied (4 * w + 1) from to) m (λ j a b. copied_at (4 * w + 1) (4 * m + j) from to (omega arith) (omega (arith, g.long, low)) (omega (arith, low)))

    same : types_of (copied (4 * w + 1) from to) ≡ types_of from
    same =
        ap (λ n. up_to (node_of (copied (4 * w + 1) from to)) (min n limit_nodes)) first
        ∙ up_to-same (node_of (copied (4 * w + 1) from to)) (node_of from) (min (at from 0) limit_nodes) (λ i h. node i (omega (arith, types_length from)))

-- A table without nodes.
pub cleared-table : (ws : Words) → 1025 ≤ length ws → Becomes (set ws 0 0) []
unfolding types_of up_to
cleared-table ws long = record {
  packed = record {
    long = omega (arith, length-set ws 0 0);
    few = omega (arith, none);
    counted = subst Counted (sym empty) (record { inside = λ n h. absurd (not-suc-le-zero h); sizes = λ r h e. absurd (not-suc-le-zero h) });
  };
  is = empty;
}
  where
    none : at (set ws 0 0) 0 ≡ 0
    none = get_or-set_same ws 0 0 0 (omega arith)

    empty : types_of (set ws 0 0) ≡ []
    empty = ap (λ n. up_to (node_of (set ws 0 0)) (min n limit_nodes)) none
