-- A type table in words. Word 0 counts the nodes; node n has the four words from 4 * n + 1 on: a head (the kind, 0 for unknown; inverted or not; the count of its children;
-- which type of its root it is; the size of its class), and up to eight children at three type words to a word. The last word has the id above its two children;
-- where there are no children it is the id.
use Rattle.std.specs.Prelude.{ℕ, zero, suc, ◌+◌, ◌*◌, ◌/◌, ◌%◌, ◌≤◌, ◌<◌, min, ◌≡◌, ◌≢◌, Bool, true, false, List, [], ◌∷◌, ◌++◌, eqb, length, take}
use Rattle.rules.specs.Lists.{Words}
use Rattle.rules.specs.Limits.{limit_sheet, limit_nodes}
use Rattle.rules.specs.Sheet.{at}
use Rattle.rules.specs.Types.{Ty, TypeState, unknown, known, TypeNode, Types, new_node, node_at, state_at, size_at}
use Rattle.rules.specs.Transfer.{type_of_word}
use Rattle.rules.specs.Solutions.{rep, WellFormed}
use Rattle.rules.specs.Readings.{Acyclic}

-- The words of a table.
abbrev pub table_length : ℕ
table_length = 1025

-- f 0, f 1, .. f (n - 1).
unfoldable pub up_to : {A : Type 0} → (ℕ → A) → ℕ → List A
up_to f zero = []
up_to f (suc n) = up_to f n ++ (f n ∷ [])

-- What a head holds: the kind, inverted or not, how many children, which type of its root the node is, the size of its class.
abbrev pub head_kind : ℕ → ℕ
head_kind h = h % 16

abbrev pub head_inverted : ℕ → Bool
head_inverted h = eqb (h / 16 % 2) 1

abbrev pub head_arity : ℕ → ℕ
head_arity h = h / 32 % 16

abbrev pub head_up : ℕ → ℕ
head_up h = h / 512 % 512

abbrev pub head_size : ℕ → ℕ
head_size h = h / 262144 % 512

-- The eight children that three words have room for.
unfoldable pub eight : ℕ → ℕ → ℕ → List Ty
eight a b c =
    type_of_word (a % 512) ∷ type_of_word (a / 512 % 512) ∷ type_of_word (a / 262144 % 512) ∷
    type_of_word (b % 512) ∷ type_of_word (b / 512 % 512) ∷ type_of_word (b / 262144 % 512) ∷
    type_of_word (c % 512) ∷ type_of_word (c / 512 % 512) ∷ []

-- What a kind, an inversion, an id and children are: unknown where the kind is 0.
unfoldable pub state_of : ℕ → Bool → ℕ → List Ty → TypeState
state_of zero i d cs = unknown
state_of (suc k) i d cs = known i (suc k) d cs

-- The id that the last word has, by the count of children.
unfoldable pub id_from : ℕ → ℕ → ℕ
id_from zero c = c
id_from (suc m) c = c / 262144

-- The node that four words are.
unfoldable pub node_from : ℕ → ℕ → ℕ → ℕ → TypeNode
node_from h a b c = record { up = type_of_word (head_up h); state = state_of (head_kind h) (head_inverted h) (id_from (head_arity h) c) (take (head_arity h) (eight a b c)); size = head_size h }

-- Node n of a table.
unfoldable pub node_of : Words → ℕ → TypeNode
node_of ws n = node_from (at ws (4 * n + 1)) (at ws (4 * n + 2)) (at ws (4 * n + 3)) (at ws (4 * n + 4))

-- What the words of node n are with another head.
unfoldable pub with_head : ℕ → Words → ℕ → TypeNode
with_head h ws n = node_from h (at ws (4 * n + 2)) (at ws (4 * n + 3)) (at ws (4 * n + 4))

-- The table that words are.
unfoldable pub types_of : Words → Types
types_of ws = up_to (node_of ws) (min (at ws 0) limit_nodes)

-- Of a state: its kind (0 for unknown), its inversion and its id.
unfoldable pub kind_in : TypeState → ℕ
kind_in unknown = 0
kind_in (known i k d cs) = k

unfoldable pub inverted_in : TypeState → Bool
inverted_in unknown = false
inverted_in (known i k d cs) = i

unfoldable pub id_in : TypeState → ℕ
id_in unknown = 0
id_in (known i k d cs) = d

-- Of a node: which type of its root it is, and kind, inversion and id of its state.
unfoldable pub up_at : Types → ℕ → Ty
up_at ts n = (node_at ts n).up

unfoldable pub kind_at : Types → ℕ → ℕ
kind_at ts n = kind_in (state_at ts n)

unfoldable pub inverted_at : Types → ℕ → Bool
inverted_at ts n = inverted_in (state_at ts n)

unfoldable pub id_at : Types → ℕ → ℕ
id_at ts n = id_in (state_at ts n)

-- How many nodes have root r.
unfoldable pub members : Types → ℕ → ℕ
members [] r = 0
members (nd ∷ ts) r = elim (eqb nd.up.1 r) [ true ↦ suc (members ts r) | false ↦ members ts r ]

-- A table whose roots are nodes, and whose classes are counted.
pub record Counted (ts : Types) : Type 0 where
  pub inside : (n : ℕ) → n < length ts → rep ts n < length ts
  pub sizes : (r : ℕ) → r < length ts → rep ts r ≡ r → size_at ts r ≡ members ts r

-- Words that are a table: room for the most nodes, and no more nodes than that.
pub record Packed (ws : Words) : Type 0 where
  pub long : table_length ≤ length ws
  pub few : at ws 0 ≤ limit_nodes
  pub counted : Counted (types_of ws)

-- Node n is written, and nothing else.
pub record Put (ws us : Words) (n : ℕ) (nd : TypeNode) : Type 0 where
  pub len : length us ≡ length ws
  pub count : at us 0 ≡ at ws 0
  pub there : node_of us n ≡ nd
  pub rest : (m : ℕ) → m ≢ n → node_of us m ≡ node_of ws m

-- As many words and nodes as before, which are such a table.
pub record Rewritten (ws us : Words) (ts : Types) : Type 0 where
  pub len : length us ≡ length ws
  pub count : at us 0 ≡ at ws 0
  pub is : types_of us ≡ ts

-- A node is pushed: r is its number. At the limit nothing changes.
pub record Pushes (ws us : Words) (st : TypeState) (r : ℕ) : Type 0 where
  pub packed : Packed us
  pub number : r ≡ length (types_of ws)
  pub room : r < limit_nodes → types_of us ≡ types_of ws ++ (new_node r st ∷ [])
  pub full : limit_nodes ≤ r → us ≡ ws

-- A table becomes another.
pub record Becomes (us : Words) (ts : Types) : Type 0 where
  pub packed : Packed us
  pub is : types_of us ≡ ts

-- Two different roots of a table.
pub record Roots (ts : Types) (x y : Ty) : Type 0 where
  pub left_in : x.1 < length ts
  pub right_in : y.1 < length ts
  pub left_root : rep ts x.1 ≡ x.1
  pub right_root : rep ts y.1 ≡ y.1
  pub apart : x.1 ≢ y.1

-- A head with such fields.
pub record Head (h k u size m : ℕ) (i : Bool) : Type 0 where
  pub kind : head_kind h ≡ k
  pub up_word : head_up h ≡ u
  pub size_word : head_size h ≡ size
  pub arity : head_arity h ≡ m
  pub inverted : head_inverted h ≡ i

-- An id that fits above as many children: any where there are none.
pub record Above (d n : ℕ) : Type 0 where
  pub small : 0 < n → d < limit_sheet

-- Words that are types of a table: each below 512.
pub record TypeWords (cs : Words) : Type 0 where
  pub small : (j : ℕ) → at cs j < 512

-- Words that are a well-formed, acyclic table.
pub record Good (ws : Words) : Type 0 where
  pub packed : Packed ws
  pub formed : WellFormed (types_of ws)
  pub acyclic : Acyclic (types_of ws)
