-- The caller's types as the answer has them: the question's nodes exported, and the answer written.
use Rattle.std.specs.Prelude.{ℕ, zero, suc, ◌+◌, ◌*◌, ◌≤◌, ◌<◌, ◌≡◌, refl, Bool, false, length, get_or, take}
use Rattle.std.proofs.Math.Path.{sym, subst}
use Rattle.std.proofs.Common.{◌∙◌, ap, add-zero, add-suc, suc-add, zero-add, not-suc-le-zero, arith, length-take, get_or-take, ext_get_or}
use mathlib.Core.List.{List, [], ◌∷◌, map}
use Rattle.std.proofs.lemmas.List.{length-map}
use Rattle.rules.specs.Lists.{Words, range}
use Rattle.rules.specs.Sheet.{at}
use Rattle.rules.specs.Types.{Ty, Types}
use Rattle.rules.specs.Solutions.{AllIn}
use Rattle.rules.specs.Transfer.{type_of_word, export_types}
use Rattle.rules.specs.Run.{got}
use Rattle.rules.specs.Search.{Trees}
use Rattle.rules.specs.Answer.{word_of_type, answer}
use Rattle.rules.specs.Calls.{answer_after}
use Rattle.rules.specs.Neat.{Neat, range_in}
use Rattle.table.specs.Packing.{types_of}
use Rattle.table.specs.Nodes.{word_type, types_few}
use Rattle.table.specs.Writes.{even_type}
use Rattle.transfer.specs.Leaves.{type_at}
use Rattle.transfer.specs.Imports.{types_in, Inside, Imports}
use Rattle.transfer.specs.Callers.{inside_from, export_fits}
use Rattle.trees.specs.Forests.{Holds}
use Rattle.answer.specs.Whole.{exported, Answers}

-- Nodes 0, 1, 2 and on, upright.
abbrev pub upright : ℕ → List Ty
upright n = map (λ k. (false, k)) (range 0 n)

-- The first n of a row are their type words.
pub record Row (row : Words) (n : ℕ) : Type 0 where
  pub room : n ≤ length row
  pub is : types_in n row ≡ upright n

-- The first i of them are written.
pub record Filling (row : Words) (n i : ℕ) : Type 0 where
  pub within : i ≤ n
  pub room : n ≤ length row
  pub each : (j : ℕ) → j < i → at row j ≡ 2 * j

range_length : (i n : ℕ) → length (range i n) ≡ n
unfolding range
range_length i zero = refl
range_length i (suc n) = ap suc (range_length (suc i) n)

range_at : (i n j : ℕ) → j < n → get_or (map {B = Ty} (λ k. (false, k)) (range i n)) j (false, 0) ≡ (false, i + j)
unfolding range
range_at i zero j h = absurd (not-suc-le-zero h)
range_at i (suc n) zero h = ap {B = Ty} (λ k. (false, k)) (sym (add-zero i))
range_at i (suc n) (suc j) h = range_at (suc i) n j (omega arith) ∙ ap {B = Ty} (λ k. (false, k)) (suc-add i j ∙ sym (add-suc i j))

pub filling_done : (row : Words) (n i : ℕ) → Filling row n i → n ≤ i → Row row n
unfolding types_in
filling_done row n i f h = record {
  room = f.room;
  is = ext_get_or (false, 0) (map type_of_word (take n row)) (upright n) (length-map (take n row) type_of_word ∙ size ∙ sym (length-map {B = Ty} (range 0 n) (λ k. (false, k)) ∙ range_length 0 n))
      (λ j l. one j (omega (arith, length-map (take n row) type_of_word, size)));
}
  where
    size : length (take n row) ≡ n
    size = omega (arith, length-take n row, f.room)

    one : (j : ℕ) → j < n → get_or (map type_of_word (take n row)) j (false, 0) ≡ get_or (upright n) j (false, 0)
    one j l = type_at (take n row) j ∙ ap type_of_word (get_or-take n row j 0 l ∙ f.each j (omega (arith, f.within))) ∙ even_type j ∙ sym (range_at 0 n j l ∙ ap {B = Ty} (λ k. (false, k)) (zero-add j))

pub nodes_few : (ws : Words) (n : ℕ) → n ≤ length (types_of ws) → n ≤ 256
nodes_few ws n h = omega (arith, types_few ws)

-- Those nodes exported: the table, and a type word for each.
pub record Exported (ts : Types) (n : ℕ) (out row : Words) : Type 0 where
  pub room : n ≤ length row
  pub table : types_of out ≡ (exported ts n).1
  pub types : take n row ≡ map word_of_type (exported ts n).0

words_back : (xs : Words) → map word_of_type (map type_of_word xs) ≡ xs
words_back [] = refl
words_back (x ∷ xs) = λ t. word_type x t ∷ words_back xs t

module _ (ws : Words) where
  pub caller_neat : Neat (types_of ws) → Neat (types_of ws)
  caller_neat h = h

  pub caller_room : (ms : Words) → 256 ≤ length ms → length (types_of ws) ≤ length ms
  caller_room ms h = omega (arith, types_few ws)

  module _ (n : ℕ) (h : n ≤ length (types_of ws)) (row : Words) (r : Row row n) where
    row_in : Inside (types_of ws) (take n row)
    row_in = inside_from (types_of ws) n row (subst (AllIn (length (types_of ws))) (sym r.is) (range_in 0 n (length (types_of ws)) (omega arith)))

    pub row_inside : Inside (types_of ws) (take n row)
    row_inside = row_in

    pub row-exported : (out vs : Words) (ok : Bool) → Neat (types_of ws) → Imports (export_types (types_of ws) (types_in n row)) out row vs n ok → Exported (types_of ws) n out vs
    unfolding types_in
    row-exported out vs ok g i = record {
      room = omega (arith, j.replaces.len, r.room);
      table = sym (ap (λ (o : List Ty × Types). o.1) both);
      types = sym (ap (λ (o : List Ty × Types). map word_of_type o.0) both ∙ words_back (take n vs));
    }
      where
        j : Imports (export_types (types_of ws) (types_in n row)) out row vs n ok
        j = i

        both : ◌≡◌ {A = List Ty × Types} (exported (types_of ws) n) (types_in n vs, types_of out)
        both = ap (export_types (types_of ws)) (sym r.is) ∙ j.comes.is (export_fits ws out row vs n ok g row_in j)

-- The answer of two trees, two flags and the caller's types is written.
pub record Writes (fork : Words) (a : ℕ) (drop : Words) (b : ℕ) (inv self : Bool) (ts : Types) (n : ℕ) (before after : Words) : Type 0 where
  pub at : (t u : Trees) → Holds fork a t → Holds drop b u → after ≡ answer_after (got (answer t u inv self n ts)) before

pub types_length : (ts : Types) (n : ℕ) (out row : Words) → Exported ts n out row → n ≡ length (take n row)
types_length ts n out row e = omega (arith, length-take n row, e.room)

pub writes : (fork : Words) (a : ℕ) (drop : Words) (b : ℕ) (inv self : Bool) (ts : Types) (n : ℕ) (out row before after : Words) (r : ℕ) → Exported ts n out row → Answers fork a drop b inv self out (take n row) before after r → Writes fork a drop b inv self ts n before after
writes fork a drop b inv self ts n out row before after r e w = record { at = λ t u ht hu. w.after t u n ts ht hu e.table e.types }
