-- The types that stand for a candidate's type parameters: its fresh unknowns, upright.
use Rattle.std.specs.Prelude.{ℕ, zero, suc, ◌+◌, ◌*◌, ◌≤◌, ◌<◌, ◌≡◌, refl, false, List, map, length, set, take}
use Rattle.std.proofs.Common.{sym, ◌∙◌, ap, ⊎_elim, add-zero, eq-or-lt_of_le, arith, length-set, ext_get_or, get_or-take, get_or-set_same, get_or-set_other, length-take-le}
use Rattle.std.proofs.lemmas.List.{length-map}
use Rattle.std.proofs.Math.ListN.{get_or-eq_default}
use Rattle.rules.specs.Lists.{Words, range}
use Rattle.rules.specs.Sheet.{at}
use Rattle.rules.specs.Types.{Ty, Types}
use Rattle.rules.specs.Pigeonholes.{lt_or}
use Rattle.rules.specs.Transfer.{type_of_word}
use Rattle.rules.specs.Answer.{word_of_type}
use Rattle.rules.specs.Search.{fresh_params}
use Rattle.table.specs.Packing.{TypeWords}
use Rattle.table.specs.Nodes.{type_word}
use Rattle.queries.specs.Few.{map_at}

-- n nodes from b on.
unfoldable pub standing : ℕ → ℕ → List Ty
standing b n = map (λ k. (false, k)) (range b n)

pub standing-fresh : (ts : Types) (n : ℕ) → standing (length ts) n ≡ fresh_params ts n
unfolding standing fresh_params
standing-fresh ts n = refl

-- The first n of ps are their type words.
pub record Stands (b n : ℕ) (ps : Words) : Type 0 where
  pub is : map type_of_word (take n ps) ≡ standing b n
  pub small : TypeWords (take n ps)
  pub room : n ≤ length ps

pub stood_length : (b n : ℕ) (ps : Words) → Stands b n ps → n ≡ length (take n ps)
stood_length b n ps t = sym (length-take-le n ps t.room)

pub stood_small : (b n : ℕ) (ps : Words) → Stands b n ps → TypeWords (take n ps)
stood_small b n ps t = t.small

-- k of n are written.
pub record Standing (b n k : ℕ) (ps : Words) : Type 0 where
  pub room : n ≤ length ps
  pub each : (j : ℕ) → j < k → at ps j ≡ 2 * (b + j)

pub standing-none : (b n : ℕ) (ps : Words) → n ≤ length ps → Standing b n 0 ps
standing-none b n ps l = record { room = l; each = λ j h. absurd (omega arith) }

pub standing_more : (b n k w : ℕ) (ps : Words) → Standing b n k ps → k < n → w ≡ 2 * (b + k) → Standing b n (k + 1) (set ps k w)
standing_more b n k w ps t h q = record {
  room = omega (arith, t.room, length-set ps k w);
  each = λ j lj. ⊎_elim
      (λ e. ap (λ x. at (set ps k w) x) e ∙ get_or-set_same ps k w 0 (omega (arith, t.room)) ∙ q ∙ ap (λ x. 2 * (b + x)) (sym e))
      (λ lt. get_or-set_other ps k j w 0 (λ e. omega arith) ∙ t.each j lt)
      (eq-or-lt_of_le (let z : j ≤ k = omega arith in z));
}

range_length : (i n : ℕ) → length (range i n) ≡ n
unfolding range
range_length i zero = refl
range_length i (suc n) = ap suc (range_length (suc i) n)

range_at : (i n j : ℕ) → j < n → at (range i n) j ≡ i + j
unfolding range
range_at i zero j h = absurd (omega arith)
range_at i (suc n) zero h = sym (add-zero i)
range_at i (suc n) (suc j) h = range_at (suc i) n j (omega arith) ∙ (let z : suc i + j ≡ i + suc j = omega arith in z)

upright : (m : ℕ) → type_of_word (2 * m) ≡ (false, m)
unfolding word_of_type
upright m = ap type_of_word (let z : 2 * m ≡ 2 * m + 0 = omega arith in z) ∙ type_word (false, m)

pub standing_done : (b n k : ℕ) (ps : Words) → Standing b n k ps → n ≤ k → b + n ≤ 256 → Stands b n ps
unfolding standing
standing_done b n k ps t h few = record {
  is = ext_get_or (false, 0) (map type_of_word (take n ps)) (map (λ k. (false, k)) (range b n))
      (length-map (take n ps) type_of_word ∙ long ∙ sym (length-map (range b n) (λ k. (false, k)) ∙ range_length b n))
      (λ j lj. let m : j < n = omega (arith, length-map (take n ps) type_of_word, long) in
      map_at type_of_word (false, 0) (take n ps) j (omega (arith, long)) ∙ ap type_of_word (word j m) ∙ upright (b + j)
      ∙ sym (map_at (λ k. (false, k)) (false, 0) (range b n) j (omega (arith, range_length b n)) ∙ ap (λ k. (false, k)) (range_at b n j m)));
  small = record { small = λ j. ⊎_elim (λ m. omega (arith, word j m)) (λ m. let z : at (take n ps) j ≡ 0 = get_or-eq_default (take n ps) 0 (omega (arith, long)) in omega arith) (lt_or j n) };
  room = t.room;
}
  where
    long : length (take n ps) ≡ n
    long = length-take-le n ps t.room

    word : (j : ℕ) → j < n → at (take n ps) j ≡ 2 * (b + j)
    word j m = get_or-take n ps j 0 (omega (arith, long)) ∙ t.each j (omega arith)
