-- Document 01, "The type table": `Types` of the Rust with `find`, `kind`, `occurs`, `self_inverse`, `unify`, `unify_types` and `unify_impl_type`.
use Rattle.std.specs.Prelude.{ℕ, zero, suc, ◌+◌, Bool, true, false, not, ◌&&◌, ◌||◌, List, [], ◌∷◌, map, eqb, ltb, length, get_or, set}
use Rattle.rules.specs.Lists.{Words, any, all}
use Rattle.rules.specs.Layout.{kind_closure, kind_error}
use Rattle.rules.specs.Sheet.{kind_flag, row_own_inverse, row_may_meet}

-- `Type`: inverted or not, and a node of a table.
abbrev pub Ty : Type 0
Ty = Bool × ℕ

-- `TypeState`: unknown; or known, with inversion, kind, id and children (of a Closure the last is the return type).
pub data TypeState : Type 0 where
  unknown : TypeState
  known : Bool → ℕ → ℕ → List Ty → TypeState

-- `TypeNode`: of every node, which type of its class's root it is; of a root also what the class is and its size.
-- (The Rust keeps links towards the root; how many there are between cannot be observed.)
pub record TypeNode : Type 0 where
  pub up : Ty
  pub state : TypeState
  pub size : ℕ

-- `Types`.
abbrev pub Types : Type 0
Types = List TypeNode

-- A new node n, its own root.
unfoldable pub new_node : ℕ → TypeState → TypeNode
new_node n st = record { up = (false, n); state = st; size = 1 }

-- Node n of a table.
unfoldable pub node_at : Types → ℕ → TypeNode
node_at ts n = get_or ts n (new_node 0 unknown)

-- One inversion on another.
abbrev pub xor : Bool → Bool → Bool
xor true b = not b
xor false b = b

-- `invert_if`.
unfoldable pub invert_if : Bool → Ty → Ty
invert_if b t = (xor b t.0, t.1)

-- A state, inverted or not.
unfoldable pub invert_state : Bool → TypeState → TypeState
invert_state b unknown = unknown
invert_state b (known i k d cs) = known (xor b i) k d cs

-- `find`: the type of a root that a type is.
unfoldable pub find : Types → Ty → Ty
find ts t = invert_if t.0 (node_at ts t.1).up

-- What node n is.
unfoldable pub state_at : Types → ℕ → TypeState
state_at ts n = (node_at ts n).state

-- The size of the class of root n.
unfoldable pub size_at : Types → ℕ → ℕ
size_at ts n = (node_at ts n).size

-- `kind`: what a type is.
unfoldable pub kind : Types → Ty → TypeState
kind ts t = let r = find ts t in invert_state r.0 (state_at ts r.1)

-- `occurs`: the class of root v is that of a type, or of a type within it, to k levels.
unfoldable pub occurs_in : ℕ → Types → ℕ → Ty → Bool
occurs_in zero ts v t = false
occurs_in (suc k) ts v t =
    let r = find ts t in
    elim (eqb r.1 v) [ true ↦ true | false ↦ elim (state_at ts r.1) [ unknown ↦ false | known i kd d cs ↦ any (λ c. occurs_in k ts v c) cs ] ]

-- No way down is longer than the table.
abbrev pub occurs : Types → ℕ → Ty → Bool
occurs ts v t = occurs_in (suc (length ts)) ts v t

-- `self_inverse`: every type in it is its own inverse, to k levels.
unfoldable pub self_inverse_in : ℕ → Words → Types → Ty → Bool
self_inverse_in zero s ts t = false
self_inverse_in (suc k) s ts t =
    elim (kind ts t) [ unknown ↦ false | known i kd d cs ↦ elim (kind_flag s row_own_inverse kd d) [ true ↦ all (λ c. self_inverse_in k s ts c) cs | false ↦ false ] ]

-- `self_inverse`: no way down is longer than the table.
unfoldable pub self_inverse : Words → Types → Ty → Bool
self_inverse s ts t = self_inverse_in (suc (length ts)) s ts t

-- `UnifyResult`.
pub data UnifyResult : Type 0 where
  success failure indeterminate : UnifyResult

-- `UnifyResult::and`.
abbrev pub and : UnifyResult → UnifyResult → UnifyResult
and success w = w
and failure w = failure
and indeterminate success = indeterminate
and indeterminate failure = failure
and indeterminate indeterminate = indeterminate

-- `UnifyResult::from_bool`.
unfoldable pub from_bool : Bool → UnifyResult
from_bool true = success
from_bool false = failure

-- The nodes of the class of root lo belong to the class of which type t is.
unfoldable pub relabel : ℕ → Ty → TypeNode → TypeNode
relabel lo t nd = elim (eqb nd.up.1 lo) [ true ↦ record { up = invert_if nd.up.0 t; state = nd.state; size = nd.size } | false ↦ nd ]

-- What is known of either.
unfoldable pub or_else : TypeState → TypeState → TypeState
or_else unknown st = st
or_else (known i k d cs) st = known i k d cs

-- The class of root lo goes under that of root hi.
unfoldable pub hang : Types → Ty → Ty → Types
hang ts lo hi =
    let b = xor hi.0 lo.0 in
    set (map (relabel lo.1 (b, hi.1)) ts) hi.1
    (record { up = (false, hi.1); state = or_else (state_at ts hi.1) (invert_state b (state_at ts lo.1)); size = size_at ts hi.1 + size_at ts lo.1 })

-- The class of root a is larger than that of root b.
unfoldable pub larger : Types → Ty → Ty → Bool
larger ts a b = ltb (size_at ts b.1) (size_at ts a.1)

-- Joining puts the smaller class under the larger, on a tie the first under the second.
unfoldable pub join : Types → Ty → Ty → Types
join ts a b = elim (larger ts a b) [ true ↦ hang ts b a | false ↦ hang ts a b ]

-- What a join comes to, and the table that it leaves.
abbrev pub Unified : Type 0
Unified = UnifyResult × Types

-- Pairs of types in turn: all are tried even after a failure.
unfoldable pub unify_each : (Types → Ty → Ty → Unified) → Types → List Ty → List Ty → Unified
unify_each f ts [] ys = (success, ts)
unify_each f ts (x ∷ xs) [] = (success, ts)
unify_each f ts (x ∷ xs) (y ∷ ys) =
    let m = f ts x y in
    let r = unify_each f m.1 xs ys in
    (and m.0 r.0, r.1)

-- `unify_types`: none is tried where counts differ.
unfoldable pub unify_types : (Types → Ty → Ty → Unified) → Types → List Ty → List Ty → Unified
unify_types f ts xs ys = elim (eqb (length xs) (length ys)) [ true ↦ unify_each f ts xs ys | false ↦ (failure, ts) ]

-- The last of some types.
unfoldable pub last_of : List Ty → List Ty
last_of [] = []
last_of (x ∷ []) = x ∷ []
last_of (x ∷ (y ∷ ys)) = last_of (y ∷ ys)

-- The children of two types of one kind and id: none is tried where counts differ, but for the return types of Closures.
unfoldable pub unify_children : (Types → Ty → Ty → Unified) → Types → ℕ → List Ty → List Ty → Unified
unify_children f ts k xs ys =
    elim (eqb (length xs) (length ys)) [
      | true ↦ unify_each f ts xs ys
      | false ↦ elim (eqb k kind_closure) [ true ↦ (failure, (unify_each f ts (last_of xs) (last_of ys)).1) | false ↦ (failure, ts) ]
    ]

-- Two known types. Error against a known type is indeterminate. Met inverted (inv), only kinds whose flag allows it go on, their children met inverted.
unfoldable pub unify_known : (Types → Ty → Ty → Unified) → Words → Types → Bool → ℕ → ℕ → List Ty → ℕ → ℕ → List Ty → Unified
unify_known f s ts inv k d xs k' d' ys =
    elim (eqb k kind_error || eqb k' kind_error) [
      | true ↦ (indeterminate, ts)
      | false ↦ elim (eqb k k' && eqb d d' && (not inv || kind_flag s row_may_meet k d)) [ true ↦ unify_children f ts k xs (map (invert_if inv) ys) | false ↦ (failure, ts) ]
    ]

-- Two roots whose children were met: joined on success.
unfoldable pub join_on_success : Unified → Ty → Ty → Unified
join_on_success m a b = elim m.0 [ success ↦ (success, join m.1 a b) | failure ↦ m | indeterminate ↦ m ]

-- An unknown and another root: an unknown never joins a type that contains it.
unfoldable pub bind_unknown : Types → Ty → Ty → Unified
bind_unknown ts x y = elim (occurs ts x.1 y || occurs ts y.1 x) [ true ↦ (failure, ts) | false ↦ (success, join ts x y) ]

-- Two different roots, by what they are. An unknown joins Error.
unfoldable pub unify_states : (Types → Ty → Ty → Unified) → Words → Types → Ty → Ty → TypeState → TypeState → Unified
unify_states f s ts x y unknown st = bind_unknown ts x y
unify_states f s ts x y (known i k d xs) unknown = bind_unknown ts x y
unify_states f s ts x y (known i k d xs) (known j k' d' ys) = join_on_success (unify_known f s ts (xor (xor i x.0) (xor j y.0)) k d xs k' d' ys) x y

-- Two roots. A type against its own inverse succeeds if `self_inverse` holds.
unfoldable pub unify_roots : (Types → Ty → Ty → Unified) → Words → Types → Ty → Ty → Unified
unify_roots f s ts x y =
    elim (eqb x.1 y.1) [
      | true ↦ (from_bool (not (xor x.0 y.0) || self_inverse s ts x), ts)
      | false ↦ unify_states f s ts x y (state_at ts x.1) (state_at ts y.1)
    ]

-- `unify`, to n levels.
unfoldable pub unify_in : ℕ → Words → Types → Ty → Ty → Unified
unify_in zero s ts a b = (failure, ts)
unify_in (suc n) s ts a b = unify_roots (λ us t u. unify_in n s us t u) s ts (find ts a) (find ts b)

-- `unify`: no way down is longer than the table.
unfoldable pub unify : Words → Types → Ty → Ty → Unified
unify s ts a b = unify_in (suc (length ts)) s ts a b

-- `ImplType`: a trait?, and its arguments. 0 is `ImplType::Error`, with no arguments.
abbrev pub ImplType : Type 0
ImplType = ℕ × List Ty

-- `unify_impl_type`.
unfoldable pub unify_impl_type : Words → Types → ImplType → ImplType → Unified
unify_impl_type s ts a b =
    elim (eqb a.0 0 || eqb b.0 0) [
      | true ↦ (indeterminate, ts)
      | false ↦ elim (eqb a.0 b.0) [ true ↦ unify_types (unify s) ts a.1 b.1 | false ↦ (failure, ts) ]
    ]

-- `approx_eq`: the same trait, and none is Error.
unfoldable pub approx_eq : ImplType → ImplType → Bool
approx_eq a b = not (eqb a.0 0) && eqb a.0 b.0
