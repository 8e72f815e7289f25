-- Document 01, "Turning a call away", last part: the answer's words.
use Rattle.std.specs.Prelude.{ℕ, ◌+◌, ◌*◌, Bool, false, List, [], ◌∷◌, ◌++◌, map, length}
use Rattle.rules.specs.Lists.{Words, range, bit}
use Rattle.rules.specs.Layout.{answer_length, tree_length, node_length, cell_length}
use Rattle.rules.specs.Types.{Ty, unknown, known, Types}
use Rattle.rules.specs.Transfer.{export_types}
use Rattle.rules.specs.Search.{Trees, end, tree, tree_size}

-- A head: the place p, or 0 where the list there is empty.
unfoldable pub head_or_zero : {A : Type 0} → ℕ → List A → ℕ
head_or_zero p [] = 0
head_or_zero p (x ∷ xs) = p

-- The same for trees.
unfoldable pub tree_head : ℕ → Trees → ℕ
tree_head p end = 0
tree_head p (tree k i c n) = p

-- Tree records from place p, in pre-order: next sibling, kind, id, child head.
unfoldable pub pack_trees : ℕ → Trees → Words
pack_trees p end = []
pack_trees p (tree k i c n) =
    let inner = p + tree_length in
    let next = inner + tree_length * tree_size c in
    tree_head next n ∷ k ∷ i ∷ tree_head inner c ∷ (pack_trees inner c ++ pack_trees next n)

-- A type word.
unfoldable pub word_of_type : Ty → ℕ
word_of_type t = 2 * t.1 + bit t.0

-- Cells from place p.
unfoldable pub pack_cells : ℕ → List Ty → Words
pack_cells p [] = []
pack_cells p (t ∷ ts) = head_or_zero (p + cell_length) ts ∷ word_of_type t ∷ pack_cells (p + cell_length) ts

-- Nodes from place p, each followed by its child cells. An unknown is kind 0, with no children.
unfoldable pub pack_nodes : ℕ → Types → Words
pack_nodes p [] = []
pack_nodes p (n ∷ ns) =
    let cells = p + node_length in
    elim n.state [
      | unknown ↦ head_or_zero cells ns ∷ 0 ∷ 0 ∷ 0 ∷ 0 ∷ pack_nodes cells ns
      | known i k d cs ↦
          let next = cells + cell_length * length cs in
          head_or_zero next ns ∷ k ∷ bit i ∷ d ∷ head_or_zero cells cs ∷ (pack_cells cells cs ++ pack_nodes next ns)
    ]

-- The answer: two trees (fork and drop; for impl its tree and none), two flags, and what `export` of the caller's types gives for the question's nodes 0, 1, 2 and on, n of them.
-- Tree head, drop tree head, table head, words used, inverted, self-inverse; then trees, nodes, and last the type word of each of those types.
unfoldable pub answer : Trees → Trees → Bool → Bool → ℕ → Types → Words
answer t u inv self n ts =
    let w = export_types ts (map (λ k. (false, k)) (range 0 n)) in
    let forks = pack_trees answer_length t in
    let drops = pack_trees (answer_length + length forks) u in
    let p = answer_length + length forks + length drops in
    let nodes = pack_nodes p w.1 in
    let body = forks ++ drops ++ nodes ++ map word_of_type w.0 in
    head_or_zero answer_length forks ∷ head_or_zero (answer_length + length forks) drops ∷ head_or_zero p nodes ∷ (answer_length + length body) ∷ bit inv ∷ bit self ∷ body
