-- Laws of the loop that writes the cells of a node's children.
use Rattle.std.specs.Prelude.{ℕ, ◌+◌, ◌-◌, ◌*◌, ◌≤◌, ◌<◌, ◌≡◌, false, length, get_or, drop}
use Rattle.std.proofs.Math.Path.{refl}
use Rattle.std.proofs.Common.{sym, ◌∙◌, ap, ap₂, add-one, length-drop, drop-cons}
use mathlib.Core.List.{List, [], ◌∷◌}
use native.Mathlib.Omega.{arith}
use Rattle.std.proofs.Math.Seq.{drop-length}
use Rattle.rules.specs.Lists.{Words}
use Rattle.rules.specs.Types.{Ty}
use Rattle.rules.specs.Answer.{head_or_zero, word_of_type, pack_cells}
use Rattle.answer.specs.Writing.{Wrote, Left, link_of, link_head, left_more, left_done, left_as}

pub cells-length : (p : ℕ) (cs : List Ty) → length (pack_cells p cs) ≡ 2 * length cs
unfolding pack_cells
cells-length p [] = refl
cells-length p (t ∷ ts) = omega (arith, cells-length (p + 2) ts)

-- What is left after a place of the list.
pub drop-one : {A : Type 0} (l : List A) (j : ℕ) (d : A) → j < length l → drop j l ≡ get_or l j d ∷ drop (j + 1) l
drop-one l j d h = drop-cons l j d h ∙ ap (λ m. get_or l j d ∷ drop m l) (sym (add-one j))

pub drop_all : {A : Type 0} (l : List A) (j : ℕ) → j ≡ length l → drop j l ≡ []
drop_all l j e = ap (λ m. drop m l) e ∙ drop-length l

module _ (ws : Words) (p : ℕ) (cs : List Ty) where
  pub cells_more : (us vs : Words) (j k next t : ℕ) → k ≡ length cs → j < k → next ≡ link_of (k - (j + 1)) (p + 2 * j + 2) → t ≡ word_of_type (get_or cs j (false, 0)) → Left ws us p (p + 2 * j) (pack_cells p cs) (pack_cells (p + 2 * j) (drop j cs)) → Wrote us vs (p + 2 * j) (next ∷ t ∷ []) → Left ws vs p (p + 2 * (j + 1)) (pack_cells p cs) (pack_cells (p + 2 * (j + 1)) (drop (j + 1) cs))
  unfolding pack_cells
  cells_more us vs j k next t e h en et l w =
      left_as ws vs p (p + 2 * j + 2) (p + 2 * (j + 1)) (pack_cells p cs) (pack_cells (p + 2 * j + 2) (drop (j + 1) cs)) (pack_cells (p + 2 * (j + 1)) (drop (j + 1) cs)) far (ap (λ q. pack_cells q (drop (j + 1) cs)) far)
      (left_more ws us vs p (p + 2 * j) (p + 2 * j + 2) (pack_cells p cs) (next ∷ t ∷ []) (pack_cells (p + 2 * j + 2) (drop (j + 1) cs)) refl
      (left_as ws us p (p + 2 * j) (p + 2 * j) (pack_cells p cs) (pack_cells (p + 2 * j) (drop j cs)) (next ∷ t ∷ pack_cells (p + 2 * j + 2) (drop (j + 1) cs)) refl split l) w)
    where
      far : p + 2 * j + 2 ≡ p + 2 * (j + 1)
      far = omega arith

      next_is : next ≡ head_or_zero (p + 2 * j + 2) (drop (j + 1) cs)
      next_is = en ∙ link_head (p + 2 * j + 2) (drop (j + 1) cs) (k - (j + 1)) (omega (arith, length-drop (j + 1) cs))

      split : pack_cells (p + 2 * j) (drop j cs) ≡ next ∷ t ∷ pack_cells (p + 2 * j + 2) (drop (j + 1) cs)
      split =
          ap (pack_cells (p + 2 * j)) (drop-one cs j (false, 0) (omega arith))
          ∙ ap₂ (λ (x y : ℕ). x ∷ y ∷ pack_cells (p + 2 * j + 2) (drop (j + 1) cs)) (sym next_is) (sym et)

  pub cells_done : (us : Words) (j k : ℕ) → k ≡ length cs → j ≤ k → k ≤ j → k ≤ 8 → p + 16 ≤ length ws → length us ≡ length ws → Left ws us p (p + 2 * j) (pack_cells p cs) (pack_cells (p + 2 * j) (drop j cs)) → Wrote ws us p (pack_cells p cs)
  unfolding pack_cells
  cells_done us j k e h g few room len l =
      left_done ws us p (p + 2 * j) (pack_cells p cs) (omega arith)
      (left_as ws us p (p + 2 * j) (p + 2 * j) (pack_cells p cs) (pack_cells (p + 2 * j) (drop j cs)) [] refl (ap (pack_cells (p + 2 * j)) (drop_all cs j (omega arith))) l)
