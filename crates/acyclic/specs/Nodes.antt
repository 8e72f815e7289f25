-- The nodes of a table by the words of its slice: the cells of a node, the nodes that they name, and ways down, against the table's own children and heights.
use Prim.Native.Nat.{ℕ, zero, suc, ◌+◌, ◌/◌, ◌≤◌, ◌<◌}
use Rattle.std.specs.Prelude.{◌≡◌, Bool, ◌≢◌, eqb, length}
use Rattle.std.proofs.Math.Path.{refl, sym, ap, subst}
use Rattle.std.proofs.Common.{◌∙◌, le_of_suc-le-suc, not-suc-le-zero, eq-eqb, ne_eqb}
use Rattle.std.proofs.Math.Bool.{true, false}
use mathlib.Core.List.{List, [], ◌∷◌, map}
use native.Mathlib.Omega.{arith}
use Rattle.std.proofs.Math.Dec.{T}
use Rattle.std.proofs.Math.ListN.{get_or}
use Rattle.rules.specs.Lists.{Words}
use Rattle.rules.specs.Layout.{node_kind, node_children, cell_type, kind_unknown}
use Rattle.rules.specs.Sheet.{at, chain, chain_of}
use Rattle.rules.specs.Types.{Ty}
use Rattle.rules.specs.Transfer.{type_of_word, cell_types, node_state, table}
use Rattle.rules.specs.Values.{table_ok}
use Rattle.rules.specs.Acyclic.{children, heights, acyclic}
use Rattle.rules.specs.AcyclicLaws.{children_at, child, flat_rank, flat_rank_below, height_step, map-length, above-child}
use Rattle.rules.specs.Members.{In, first, later, in_at}
use Rattle.rules.specs.Readings.{flat_inside}
use Rattle.rules.specs.CheckedTables.{table_length_lem, table_state, table-flat, table-formed}

-- The head of the children of the node at a place: an unknown has none.
unfoldable pub children_head : Words → ℕ → ℕ
children_head s p = elim (eqb (at s (p + node_kind)) kind_unknown) [ true ↦ 0 | false ↦ at s (p + node_children) ]

-- The cells of node n of the table from head h.
unfoldable pub cells : Words → ℕ → ℕ → Words
cells s h n = chain s (children_head s (at (chain s h) n))

-- The node that the type word of a cell names.
unfoldable pub cell_node : Words → ℕ → ℕ
cell_node s c = at s (c + cell_type) / 2

-- Each cell of a table names a node of it.
pub record Inside (s : Words) (h : ℕ) : Type 0 where
  pub inside : (n : ℕ) → n < length (chain s h) → (c : ℕ) → In c (cells s h n) → cell_node s c < length (chain s h)

-- There is a way down of k steps from node n.
pub data Deep (s : Words) (h : ℕ) : ℕ → ℕ → Type 0 where
  here : {n : ℕ} → Deep s h 0 n
  down : {k n : ℕ} (c : ℕ) → In c (cells s h n) → Deep s h k (cell_node s c) → Deep s h (suc k) n

-- What code reads of a node and of a cell.
pub head_unknown : (s : Words) (p k : ℕ) → k ≡ at s (p + node_kind) → k ≡ 0 → 0 ≡ children_head s p
unfolding children_head
head_unknown s p k e z = rw (eq-eqb (at s (p + node_kind)) 0 (sym e ∙ z), children_head)

pub head_known : (s : Words) (p k v r : ℕ) → k ≡ at s (p + node_kind) → k ≢ 0 → v ≡ at s (p + node_children) → r ≡ v → r ≡ children_head s p
unfolding children_head
head_known s p k v r e z f g = rw (ne_eqb (at s (p + node_kind)) 0 (λ q. z (e ∙ q)), children_head) (g ∙ f)

pub names : (s : Words) (c w r : ℕ) → w ≡ at s (c + cell_type) → r ≡ w / 2 → r ≡ cell_node s c
unfolding cell_node
names s c w r e f = f ∙ ap (λ x. x / 2) e

chain-none : (s : Words) → chain s 0 ≡ []
unfolding chain chain_of
chain-none [] = refl
chain-none (w ∷ s) = refl

-- The children of a node are the types in its cells.
state_children : (s : Words) (p : ℕ) → children (node_state s p) ≡ cell_types s (children_head s p)
unfolding node_state children_head children cell_types
state_children s p = go (eqb (at s (p + node_kind)) kind_unknown) refl
  where
    go : (b : Bool) → eqb (at s (p + node_kind)) kind_unknown ≡ b → children (node_state s p) ≡ cell_types s (children_head s p)
    go true e = rw (e, node_state, children_head) (sym (ap (map (λ c. type_of_word (at s (c + cell_type)))) (chain-none s)))
    go false e = rw (e, node_state, children_head) refl

-- The node of the type in cell j.
cell_at : (s cs : Words) (j : ℕ) → j < length cs → (get_or (map (λ c. type_of_word (at s (c + cell_type))) cs) j (false, 0)).1 ≡ cell_node s (get_or cs j 0)
unfolding cell_node type_of_word
cell_at s [] j k = absurd (not-suc-le-zero k)
cell_at s (c ∷ cs) zero k = refl
cell_at s (c ∷ cs) (suc j) k = cell_at s cs j (le_of_suc-le-suc k)

-- What stands in a list stands at some place of it.
in_place : {c : ℕ} {cs : Words} → In c cs → (j : ℕ) × (j < length cs) × (get_or cs j 0 ≡ c)
in_place first = (0, omega arith, refl)
in_place (later i) = let r = in_place i in (suc r.0, omega (arith, r.1), r.2)

module _ (s : Words) (h n : ℕ) (l : n < length (chain s h)) where
  children-cells : children_at (table s h) n ≡ map (λ c. type_of_word (at s (c + cell_type))) (cells s h n)
  unfolding children_at cells cell_types
  children-cells = ap children (table_state s h n (subst (λ m. n < m) (sym (table_length_lem s h)) l)) ∙ state_children s (at (chain s h) n)

  children-count : length (children_at (table s h) n) ≡ length (cells s h n)
  children-count = ap length children-cells ∙ map-length (λ c. type_of_word (at s (c + cell_type))) (cells s h n)

  child_at : (j : ℕ) → j < length (cells s h n) → child (table s h) n j ≡ cell_node s (get_or (cells s h n) j 0)
  unfolding child
  child_at j k = ap (λ (ts : List Ty). (get_or ts j (false, 0)).1) children-cells ∙ cell_at s (cells s h n) j k

  -- Child j of a node is named by a cell of it,
  pub child_cell : (j : ℕ) → j < length (children_at (table s h) n) → (c : ℕ) × In c (cells s h n) × (child (table s h) n j ≡ cell_node s c)
  child_cell j k =
      let m = subst (λ i. j < i) children-count k in
      (get_or (cells s h n) j 0, in_at (cells s h n) j 0 m, child_at j m)

  -- and what a cell names is a child.
  pub cell_child : (c : ℕ) → In c (cells s h n) → (j : ℕ) × (j < length (children_at (table s h) n)) × (child (table s h) n j ≡ cell_node s c)
  cell_child c i =
      let r = in_place i in
      (r.0, subst (λ m. r.0 < m) (sym children-count) r.1, child_at r.0 r.1 ∙ ap (cell_node s) r.2)

-- 8 or 12 passed: each cell of the table names a node of it.
pub table_inside : (s w : Words) (params h : ℕ) → T (table_ok s w params h) → Inside w h
table_inside s w params h t = record {
  inside = λ n l c i.
      let r = cell_child w h n l c i in
      subst (λ m. m < length (chain w h)) r.2 (subst (λ m. child (table w h) n r.0 < m) (table_length_lem w h) (flat_inside (table w h) (table-formed w h s params t) (table-flat w h) n r.0 r.1));
}

-- A node with a way down of k steps has a height of k or more.
module _ (s : Words) (h : ℕ) (i : Inside s h) where
  deep_height : {k n : ℕ} → n < length (chain s h) → Deep s h k n → k ≤ get_or (heights k (table s h)) n 0
  unfolding child
  deep_height l here = omega arith
  deep_height {n = n} l (down {k} c m d) =
      let r = cell_child s h n l c m in
      let u = above-child (heights k (table s h)) (children_at (table s h) n) r.0 r.1 in
      let v = deep_height (i.inside n l c m) d in
      let w : k ≤ get_or (heights k (table s h)) (child (table s h) n r.0) 0 = subst (λ x. k ≤ get_or (heights k (table s h)) x 0) (sym r.2) v in
      subst (λ x. suc k ≤ x) (sym (height_step k (table s h) n)) (omega (arith, u, w))

  -- A way down of as many steps as the table has nodes: some type reaches itself.
  pub deep_cyclic : (n : ℕ) → n < length (chain s h) → Deep s h (length (chain s h)) n → false ≡ acyclic (table s h)
  unfolding flat_rank
  deep_cyclic n l d = go (acyclic (table s h)) refl
    where
      go : (b : Bool) → acyclic (table s h) ≡ b → false ≡ acyclic (table s h)
      go false e = sym e
      go true e = absurd (omega (
        arith,
        flat_rank_below (table s h) (subst T (sym e) tt) n (subst (λ m. n < m) (sym (table_length_lem s h)) l),
        subst (λ m. m ≤ get_or (heights m (table s h)) n 0) (sym (table_length_lem s h)) (deep_height l d),
      ))
