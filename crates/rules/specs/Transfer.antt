-- `TypeTransfer` of the Rust: moving types from one table to another, by `transfer`, `import` and `export`; and a table as the words of a slice have it.
use Rattle.std.specs.Prelude.{ℕ, zero, suc, ◌+◌, ◌/◌, ◌%◌, true, false, List, [], ◌∷◌, ◌++◌, map, eqb, length, get_or, set}
use Rattle.std.proofs.Math.Option.{Option, none, some}
use Rattle.rules.specs.Lists.{Words}
use Rattle.rules.specs.Layout.{node_kind, node_inverted, node_id, node_children, cell_type, kind_unknown, kind_param}
use Rattle.rules.specs.Sheet.{at, chain}
use Rattle.rules.specs.Types.{Ty, TypeState, unknown, known, Types, new_node, invert_if, find, state_at, ImplType}

-- The mapping, which root of the source went where, and the table that is filled.
abbrev pub Transfer : Type 0
Transfer = List (ℕ × Ty) × Types

-- Where a root went.
unfoldable pub mapped : List (ℕ × Ty) → ℕ → Option Ty
mapped [] n = none
mapped (p ∷ ps) n = elim (eqb p.0 n) [ true ↦ some p.1 | false ↦ mapped ps n ]

-- What a Param of the source stands for, where parameters are given.
unfoldable pub param_for : Option (List Ty) → TypeState → Option Ty
param_for none st = none
param_for (some ps) unknown = none
param_for (some ps) (known i k d cs) = elim (eqb k kind_param) [ true ↦ some (invert_if i (get_or ps d (false, 0))) | false ↦ none ]

-- Types in turn.
unfoldable pub transfer_each : (Ty → Transfer → Ty × Transfer) → List Ty → Transfer → List Ty × Transfer
transfer_each f [] m = ([], m)
transfer_each f (t ∷ ts) m =
    let r = f t m in
    let q = transfer_each f ts r.1 in
    (r.0 ∷ q.0, q.1)

-- `transfer_type`, to k levels: where its root went, or its parameter; else a new node, pushed before its children.
unfoldable pub transfer_in : ℕ → Types → Option (List Ty) → Ty → Transfer → Ty × Transfer
transfer_in zero src ps t m = (t, m)
transfer_in (suc k) src ps t m =
    let r = find src t in
    elim (mapped m.0 r.1) [
      | some u ↦ (invert_if r.0 u, m)
      | none ↦ elim (param_for ps (state_at src r.1)) [
        | some u ↦ (invert_if r.0 u, m)
        | none ↦
            let n = length m.1 in
            let m₁ : Transfer = ((r.1, (false, n)) ∷ m.0, m.1 ++ (new_node n unknown ∷ [])) in
            elim (state_at src r.1) [
              | unknown ↦ ((r.0, n), m₁)
              | known i kd d cs ↦
                  let q = transfer_each (λ c w. transfer_in k src ps c w) cs m₁ in
                  ((r.0, n), (q.1.0, set q.1.1 n (new_node n (known i kd d q.0))))
            ]
      ]
    ]

-- `transfer` of some types: no way down is longer than the source.
unfoldable pub transfer_types : Types → Option (List Ty) → List Ty → Transfer → List Ty × Transfer
transfer_types src ps ts m = transfer_each (transfer_in (suc (length src)) src ps) ts m

-- `import` of types into a table, with or without parameters.
unfoldable pub import_types : Types → Option (List Ty) → List Ty → Types → List Ty × Types
import_types src ps ts dst = let r = transfer_types src ps ts ([], dst) in (r.0, r.1.1)

-- `import` of an `ImplType`.
unfoldable pub import_impl_type : Types → Option (List Ty) → ImplType → Types → ImplType × Types
import_impl_type src ps q dst = let r = import_types src ps q.1 dst in ((q.0, r.0), r.1)

-- `transfer` of a list of them: the mapping goes on from one to the next.
unfoldable pub transfer_impl_types : Types → Option (List Ty) → List ImplType → Transfer → List ImplType × Transfer
transfer_impl_types src ps [] m = ([], m)
transfer_impl_types src ps (q ∷ qs) m =
    let a = transfer_types src ps q.1 m in
    let b = transfer_impl_types src ps qs a.1 in
    ((q.0, a.0) ∷ b.0, b.1)

-- `import` of a list of them.
unfoldable pub import_impl_types : Types → Option (List Ty) → List ImplType → Types → List ImplType × Types
import_impl_types src ps qs dst = let r = transfer_impl_types src ps qs ([], dst) in (r.0, r.1.1)

-- `export` of types: into a table of their own.
unfoldable pub export_types : Types → List Ty → List Ty × Types
export_types src ts = import_types src none ts []

-- `export` of an `ImplType`.
unfoldable pub export_impl_type : Types → ImplType → ImplType × Types
export_impl_type src q = import_impl_type src none q []

-- A type word is 2 × node plus 1 if inverted.
unfoldable pub type_of_word : ℕ → Ty
type_of_word w = (eqb (w % 2) 1, w / 2)

-- The types in the cells of a chain.
unfoldable pub cell_types : Words → ℕ → List Ty
cell_types s h = map (λ c. type_of_word (at s (c + cell_type))) (chain s h)

-- What the type node at a place is.
unfoldable pub node_state : Words → ℕ → TypeState
node_state s p =
    elim (eqb (at s (p + node_kind)) kind_unknown) [
      | true ↦ unknown
      | false ↦ known (eqb (at s (p + node_inverted)) 1) (at s (p + node_kind)) (at s (p + node_id)) (cell_types s (at s (p + node_children)))
    ]

-- New nodes, from number n on.
unfoldable pub new_nodes : ℕ → List TypeState → Types
new_nodes n [] = []
new_nodes n (st ∷ sts) = new_node n st ∷ new_nodes (suc n) sts

-- The table from a head: node n is record n of the chain.
unfoldable pub table : Words → ℕ → Types
table s h = new_nodes 0 (map (node_state s) (chain s h))
