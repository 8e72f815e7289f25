-- What a transfer in words does: the mapping in a slice, what is kept all along, and what each function comes to.
use Rattle.std.specs.Prelude.{ℕ, zero, suc, ◌+◌, ◌-◌, ◌*◌, ◌/◌, ◌≤◌, ◌<◌, ◌≡◌, ◌≢◌, Bool, true, false, List, map, length, set, take}
use Rattle.std.proofs.Math.Option.{Option, none, some}
use Rattle.rules.specs.Lists.{Words}
use Rattle.rules.specs.Limits.{limit_nodes}
use Rattle.rules.specs.Sheet.{at}
use Rattle.rules.specs.Types.{Ty, unknown, known, Types, new_node, invert_if, state_at, size_at}
use Rattle.rules.specs.Solutions.{rep}
use Rattle.rules.specs.Slim.{Slim}
use Rattle.rules.specs.RootRank.{rank}
use Rattle.rules.specs.AcyclicLaws.{children_at}
use Rattle.rules.specs.Transfer.{Transfer, mapped, param_for, transfer_each, transfer_in, type_of_word}
use Rattle.rules.specs.Carried.{pushed}
use Rattle.table.specs.Packing.{types_of, Packed, Pushes, Becomes, kind_at, inverted_at, id_at, TypeWords}

-- The parameters, where there are any.
unfoldable pub params_of : Bool → Words → Option (List Ty)
params_of true ps = some (map type_of_word ps)
params_of false ps = none

-- A word that says where a root went: 0 for nowhere, else a type word and 1.
unfoldable pub entry : ℕ → Option Ty
entry zero = none
entry (suc w) = some (type_of_word w)

-- A mapping in words: a word for each of N nodes.
pub record Maps (N : ℕ) (m : List (ℕ × Ty)) (ms : Words) : Type 0 where
  pub is : (n : ℕ) → n < N → entry (at ms n) ≡ mapped m n

-- Room for it, and its types are those of a table in words.
pub record Mapping (N : ℕ) (ms : Words) : Type 0 where
  pub long : N ≤ length ms
  pub small : (n : ℕ) → n < N → at ms n ≤ 512

-- A type of the source from which every way down has fewer than k steps.
pub record Level (src : Types) (t : Ty) (k : ℕ) : Type 0 where
  pub inside : t.1 < length src
  pub low : rank src t.1 < k

-- The same of a root.
pub record Rooted (src : Types) (r k : ℕ) : Type 0 where
  pub inside : r < length src
  pub root : rep src r ≡ r
  pub low : rank src r < k

-- The same of the types that some type words are.
pub record Levels (src : Types) (ts : Words) (k : ℕ) : Type 0 where
  pub each : (j : ℕ) → j < length ts → Level src (type_of_word (at ts j)) k

-- A node of a table, its own root.
pub record Own (ts : Types) (n : ℕ) : Type 0 where
  pub inside : n < length ts
  pub root : rep ts n ≡ n
  pub alone : size_at ts n ≡ 1

-- A node that is not unknown.
pub record Known (ts : Types) (n : ℕ) : Type 0 where
  pub is : kind_at ts n ≢ 0

-- m is how many children node n has, and the source is slim: what stands there fits a node of a table.
pub record Alike (src : Types) (n m : ℕ) : Type 0 where
  pub slim : Slim src
  pub count : m ≡ length (children_at src n)

-- Nodes stay, with their roots.
pub record Keeps (ts us : Types) : Type 0 where
  pub long : length ts ≤ length us
  pub roots : (n : ℕ) → n < length ts → rep us n ≡ rep ts n
  pub sizes : (n : ℕ) → n < length ts → size_at us n ≡ size_at ts n

-- What root type r stands for as a Param.
unfoldable pub param_as : Types → Option (List Ty) → Ty → Option Ty
param_as src ps r = elim (param_for ps (state_at src r.1)) [ some u ↦ some (invert_if r.0 u) | none ↦ none ]

-- What stands for root type r already: where it went, or its parameter.
unfoldable pub settled : Types → Option (List Ty) → List (ℕ × Ty) → Ty → Option Ty
settled src ps m r = elim (mapped m r.1) [ some u ↦ some (invert_if r.0 u) | none ↦ param_as src ps r ]

-- The new node n of root type r, once the children of r have gone.
unfoldable pub filled : ℕ → Types → Option (List Ty) → Ty → ℕ → Transfer → Ty × Transfer
filled k src ps r n m =
    let q = transfer_each (transfer_in k src ps) (children_at src r.1) m in
    ((r.0, n), (q.1.0, set q.1.1 n (new_node n (known (inverted_at src r.1) (kind_at src r.1) (id_at src r.1) q.0))))

-- A new node for root type r: unknown, or filled in after its children.
unfoldable pub fresh : ℕ → Types → Option (List Ty) → Ty → Transfer → Ty × Transfer
fresh k src ps r m = elim (state_at src r.1) [ unknown ↦ ((r.0, length m.1), pushed m r.1) | known i kd d cs ↦ filled k src ps r (length m.1) (pushed m r.1) ]

-- A type has gone: us and ms are the table and the mapping that it leaves, r says where it went.
pub record Moved (N : ℕ) (us ms : Words) (o : Ty × Transfer) (r : ℕ) : Type 0 where
  pub is : types_of us ≡ o.1.1
  pub maps : Maps N o.1.0 ms
  pub type : entry r ≡ some o.0

-- It has gone, or r is 0: exactly where the table would have more nodes than the limit.
pub record Moves (N : ℕ) (us ms : Words) (o : Ty × Transfer) (r : ℕ) : Type 0 where
  pub full : r ≡ 0 → limit_nodes < length o.1.1
  pub done : r ≢ 0 → Moved N us ms o r

-- What a function that moves a type does, whichever list the mapping stands for: o says what it comes to.
pub record Transfers (src : Types) (o : Transfer → Ty × Transfer) (ws ms us ns : Words) (r : ℕ) : Type 0 where
  pub packed : Packed us
  pub mapping : Mapping (length src) ns
  pub keeps : Keeps (types_of ws) (types_of us)
  pub small : r ≤ 512
  pub moves : (m : List (ℕ × Ty)) → Maps (length src) m ms → Moves (length src) us ns (o (m, types_of ws)) r

-- Types have gone.
pub record AllMoved (N : ℕ) (us ms vs : Words) (o : List Ty × Transfer) : Type 0 where
  pub is : types_of us ≡ o.1.1
  pub maps : Maps N o.1.0 ms
  pub types : map type_of_word vs ≡ o.0

pub record AllMove (N : ℕ) (us ms vs : Words) (o : List Ty × Transfer) (r : Bool) : Type 0 where
  pub full : r ≡ false → limit_nodes < length o.1.1
  pub done : r ≡ true → AllMoved N us ms vs o

-- What a function that moves the first n of some types does, in place.
pub record TransfersAll (src : Types) (o : Transfer → List Ty × Transfer) (ws ms us ns ts vs : Words) (n : ℕ) (r : Bool) : Type 0 where
  pub packed : Packed us
  pub mapping : Mapping (length src) ns
  pub keeps : Keeps (types_of ws) (types_of us)
  pub small : r ≡ true → TypeWords (take n vs)
  pub len : length vs ≡ length ts
  pub rest : (j : ℕ) → n ≤ j → at vs j ≡ at ts j
  pub moves : (m : List (ℕ × Ty)) → Maps (length src) m ms → AllMove (length src) us ns (take n vs) (o (m, types_of ws)) r

-- What root type r stands for as a Param, in a word.
pub record Param (src : Types) (ps : Option (List Ty)) (r q : ℕ) : Type 0 where
  pub small : q ≤ 512
  pub is : entry q ≡ param_as src ps (type_of_word r)

-- Where root type r went, in a word.
pub record Gone (ms : Words) (r q : ℕ) : Type 0 where
  pub small : q ≤ 512
  pub none : q ≡ 0 → at ms (r / 2) ≡ 0
  pub there : q ≢ 0 → at ms (r / 2) ≢ 0
  pub is : q ≢ 0 → entry q ≡ some (invert_if (type_of_word r).0 (type_of_word (at ms (r / 2) - 1)))

-- The same, told of types of records alone: b says that the source is packed.
pub record GoneRecord (b : Bool) (ms : Words) (t q : ℕ) : Type 0 where
  pub records : q ≢ 0 → b ≡ false
  pub gone : q ≢ 0 → Gone ms t q

-- What stands for root type r already, in a word.
pub record Settles (src : Types) (ps : Option (List Ty)) (ms : Words) (r q : ℕ) : Type 0 where
  pub small : q ≤ 512
  pub is : (m : List (ℕ × Ty)) → Maps (length src) m ms → entry q ≡ settled src ps m (type_of_word r)

-- Root type r becomes node n, unknown as yet. At the limit nothing changes.
pub record Enters (ws ms us ns : Words) (r n : ℕ) : Type 0 where
  pub pushes : Pushes ws us unknown n
  pub room : n < limit_nodes → ns ≡ set ms (r / 2) (2 * n + 1)
  pub full : limit_nodes ≤ n → ns ≡ ms

-- The type of node n, inverted as root type r is, in a word.
pub record Typed (r n q : ℕ) : Type 0 where
  pub small : q ≤ 512
  pub some_type : q ≢ 0
  pub is : entry q ≡ some ((type_of_word r).0, n)

-- The children of node n of a source, in a buffer.
pub record Read (src : Types) (n : ℕ) (vs : Words) (m : ℕ) : Type 0 where
  pub long : 8 ≤ length vs
  pub count : m ≡ length (children_at src n)
  pub is : map type_of_word (take m vs) ≡ children_at src n

-- Node n is filled in as node r / 2 of the source is, with such children.
pub record Fills (src : Types) (ws us cs : Words) (r n q : ℕ) : Type 0 where
  pub becomes : Becomes us (set (types_of ws) n (new_node n (known (inverted_at src (r / 2)) (kind_at src (r / 2)) (id_at src (r / 2)) (map type_of_word cs))))
  pub typed : Typed r n q
