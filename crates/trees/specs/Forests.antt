-- Trees of impls in words: a word for each node, in pre-order. A buffer of trees is a count of nodes and their words behind it.
use Rattle.std.specs.Prelude.{ℕ, ◌+◌, ◌*◌, ◌/◌, ◌%◌, ◌≤◌, ◌<◌, ◌≡◌, ◌⊎◌, [], ◌∷◌, ◌++◌, length}
use Rattle.rules.specs.Lists.{Words}
use Rattle.rules.specs.Limits.{limit_tree_nodes}
use Rattle.rules.specs.Sheet.{at}
use Rattle.rules.specs.Search.{Trees, end, tree, tree_size}

-- The words of a buffer: the count, and room for the most nodes.
abbrev pub trees_length : ℕ
trees_length = 257

-- A node's word: its kind (below 8), its id (below 4,096), and how many nodes the trees below it have.
abbrev pub node_word : ℕ → ℕ → ℕ → ℕ
node_word k i n = k + 8 * (i + 4096 * n)

-- What a node's word holds.
abbrev pub word_kind : ℕ → ℕ
word_kind w = w % 8

abbrev pub word_id : ℕ → ℕ
word_id w = w / 8 % 4096

abbrev pub word_below : ℕ → ℕ
word_below w = w / 32768

-- The words of trees, in pre-order.
unfoldable pub tree_words : Trees → Words
tree_words end = []
tree_words (tree k i c n) = node_word k i (tree_size c) ∷ (tree_words c ++ tree_words n)

-- Kinds and ids have room in a word.
unfoldable pub Fit : Trees → Type 0
Fit end = Unit {0}
Fit (tree k i c n) = (k < 8) × (i < 4096) × Fit c × Fit n

-- The words of trees stand from a place on.
pub record Lies (ws : Words) (a : ℕ) (ts : Trees) : Type 0 where
  pub there : (i : ℕ) → i < tree_size ts → at ws (a + i) ≡ at (tree_words ts) i
  pub fit : Fit ts

-- A buffer at b holds trees.
pub record Holds (ws : Words) (b : ℕ) (ts : Trees) : Type 0 where
  pub count : at ws b ≡ tree_size ts
  pub few : tree_size ts ≤ limit_tree_nodes
  pub lies : Lies ws (b + 1) ts

-- The buffer at b holds trees now, and what lies outside it is as it was.
pub record Held (ws us : Words) (b : ℕ) (ts : Trees) : Type 0 where
  pub len : length us ≡ length ws
  pub holds : Holds us b ts
  pub low : (i : ℕ) → i < b → at us i ≡ at ws i
  pub high : (i : ℕ) → b + trees_length ≤ i → at us i ≡ at ws i

-- One tree.
pub record Single (ts : Trees) : Type 0 where
  pub kind : ℕ
  pub id : ℕ
  pub children : Trees
  pub is : ts ≡ tree kind id children end

-- Two buffers that have no word in common.
pub record Apart (a b : ℕ) : Type 0 where
  pub either : (a + trees_length ≤ b) ⊎ (b + trees_length ≤ a)
