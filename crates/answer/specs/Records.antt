-- The records of trees, from the words that the trees are kept in, and the laws of the function that writes them.
use Rattle.std.specs.Prelude.{ℕ, suc, ◌+◌, ◌-◌, ◌*◌, ◌≤◌, ◌<◌, min, ◌≡◌, refl, [], ◌∷◌, ◌++◌, ◌≢◌, length}
use Rattle.std.proofs.Common.{◌∙◌, ap, arith, length-append, get_or-append-add}
use Rattle.std.proofs.Math.ListN.{get_or-append}
use Rattle.rules.specs.Lists.{Words}
use Rattle.rules.specs.Sheet.{at}
use Rattle.rules.specs.Search.{Trees, end, tree, tree_size}
use Rattle.rules.specs.Answer.{tree_head, pack_trees}
use Rattle.trees.specs.Forests.{node_word, word_kind, word_id, word_below, tree_words, Fit, Lies}
use Rattle.trees.specs.Changes.{words_size}
use Rattle.answer.specs.Writing.{Wrote, link_of, wrote_none, wrote_then, wrote_as}

-- Trees whose words stand from lo up to hi are written from place p on.
pub record Packs (ws : Words) (lo hi : ℕ) (out us : Words) (p : ℕ) : Type 0 where
  pub trees : (ts : Trees) → Lies ws lo ts → hi ≡ lo + tree_size ts → Wrote out us p (pack_trees p ts)

pub trees_length_lem : (p : ℕ) (t : Trees) → length (pack_trees p t) ≡ 4 * tree_size t
unfolding pack_trees tree_size
trees_length_lem p end = refl
trees_length_lem p (tree k i c n) = omega (arith, length-append (pack_trees (p + 4) c) (pack_trees (p + 4 + 4 * tree_size c) n), trees_length_lem (p + 4) c, trees_length_lem (p + 4 + 4 * tree_size c) n)

link_tree : (n p : ℕ) (t : Trees) → n ≡ tree_size t → link_of n p ≡ tree_head p t
unfolding link_of tree_head tree_size
link_tree n p end e = ap (λ m. link_of m p) e
link_tree n p (tree k i c r) e = ap (λ m. link_of m p) e

-- What a word holds.
word_fields : (k i n : ℕ) → k < 8 → i < 4096 → (word_kind (node_word k i n) ≡ k) × (word_id (node_word k i n) ≡ i) × (word_below (node_word k i n) ≡ n)
word_fields k i n hk hi = (omega arith, omega arith, omega arith)

-- The words of a node's children and of those behind it.
lies_children : (ws : Words) (lo k i : ℕ) (c n : Trees) → Lies ws lo (tree k i c n) → Lies ws (lo + 1) c
unfolding Fit tree_words tree_size
lies_children ws lo k i c n l = record {
  there = λ j h.
      ap (at ws) (let z : lo + 1 + j ≡ lo + suc j = omega arith in z) ∙ l.there (suc j) (omega arith) ∙ get_or-append (tree_words c) (tree_words n) 0 j (omega (arith, words_size c));
  fit = l.fit.2;
}

lies_behind : (ws : Words) (lo k i : ℕ) (c n : Trees) → Lies ws lo (tree k i c n) → Lies ws (lo + 1 + tree_size c) n
unfolding Fit tree_words tree_size
lies_behind ws lo k i c n l = record {
  there = λ j h.
      ap (at ws) (let z : lo + 1 + tree_size c + j ≡ lo + suc (length (tree_words c) + j) = omega (arith, words_size c) in z)
      ∙ l.there (suc (length (tree_words c) + j)) (omega (arith, words_size c))
      ∙ get_or-append-add (tree_words c) (tree_words n) j 0;
  fit = l.fit.3;
}

lies_first : (ws : Words) (lo k i : ℕ) (c n : Trees) → Lies ws lo (tree k i c n) → at ws lo ≡ node_word k i (tree_size c)
unfolding tree_words tree_size
lies_first ws lo k i c n l = ap (at ws) (let z : lo ≡ lo + 0 = omega arith in z) ∙ l.there 0 (omega arith)

-- No words.
pub packs_none : (ws out : Words) (lo hi p : ℕ) → lo ≡ hi → p + 4 * (hi - lo) ≤ length out → Packs ws lo hi out out p
unfolding tree_size pack_trees
packs_none ws out lo hi p e room = record { trees = λ ts l h. go ts h }
  where
    go : (ts : Trees) → hi ≡ lo + tree_size ts → Wrote out out p (pack_trees p ts)
    go end h = wrote_none out p (omega arith)
    go (tree k i c n) h = absurd (omega arith)

-- A record, the records below it and those behind it.
pub packs_more : (ws out us vs xs : Words) (lo hi p b m : ℕ) → lo ≢ hi → lo ≤ hi → b ≡ word_below (at ws lo) → m ≡ min b (hi - lo - 1) → Wrote out us p (link_of (hi - lo - 1 - m) (p + 4 + 4 * m) ∷ word_kind (at ws lo) ∷ word_id (at ws lo) ∷ link_of m (p + 4) ∷ []) → Packs ws (lo + 1) (lo + 1 + m) us vs (p + 4) → Packs ws (lo + 1 + m) hi vs xs (p + 4 + 4 * m) → Packs ws lo hi out xs p
unfolding tree_size pack_trees Fit
packs_more ws out us vs xs lo hi p b m ne le eb em w f g = record { trees = λ ts l h. go ts l h }
  where
    go : (ts : Trees) → Lies ws lo ts → hi ≡ lo + tree_size ts → Wrote out xs p (pack_trees p ts)
    go end l h = absurd (ne (omega arith))
    go (tree k i c n) l h =
        let e = lies_first ws lo k i c n l in
        let fields = word_fields k i (tree_size c) l.fit.0 l.fit.1 in
        let below : word_below (at ws lo) ≡ tree_size c = ap word_below e ∙ fields.2 in
        let size : m ≡ tree_size c = omega arith in
        let behind : p + 4 + 4 * m ≡ p + 4 + 4 * tree_size c = omega arith in
        let first = wrote_as out us p p (link_of (hi - lo - 1 - m) (p + 4 + 4 * m) ∷ word_kind (at ws lo) ∷ word_id (at ws lo) ∷ link_of m (p + 4) ∷ []) (tree_head (p + 4 + 4 * tree_size c) n ∷ k ∷ i ∷ tree_head (p + 4) c ∷ []) refl
        (cc (ap (link_of (hi - lo - 1 - m)) behind ∙ link_tree (hi - lo - 1 - m) (p + 4 + 4 * tree_size c) n (omega arith), ap word_kind e ∙ fields.0, ap word_id e ∙ fields.1, link_tree m (p + 4) c size)) w in
        let second = f.trees c (lies_children ws lo k i c n l) (omega arith) in
        let third = wrote_as vs xs (p + 4 + 4 * m) (p + 4 + 4 * tree_size c) (pack_trees (p + 4 + 4 * m) n) (pack_trees (p + 4 + 4 * tree_size c) n) behind (ap (λ q. pack_trees q n) behind) (g.trees n (rw size (lies_behind ws lo k i c n l)) (omega arith)) in
        wrote_then out us xs p (p + 4) (tree_head (p + 4 + 4 * tree_size c) n ∷ k ∷ i ∷ tree_head (p + 4) c ∷ []) (pack_trees (p + 4) c ++ pack_trees (p + 4 + 4 * tree_size c) n) refl first
        (wrote_then us vs xs (p + 4) (p + 4 + 4 * tree_size c) (pack_trees (p + 4) c) (pack_trees (p + 4 + 4 * tree_size c) n) (omega (arith, trees_length_lem (p + 4) c)) second third)
