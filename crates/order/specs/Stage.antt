-- Refs on the table that a candidate's signature was brought into: where each stands, and what its words say of its node.
-- A type is a number: twice a ref, and one more if it is inverted. Refs are below 2,048: up to 255 a root of the question's table, from 256 on a type parameter, from 1,024 on a node of the signature's table by its record.
use Rattle.std.specs.Prelude.{ℕ, ◌+◌, ◌/◌, ◌%◌, ◌≤◌, ◌<◌, ◌≡◌, Bool, true, false, List, [], ◌∷◌, ◌≢◌, eqb, ltb, length}
use Rattle.std.proofs.Common.{sym, ◌∙◌, ap, ap₂, arith}
use Rattle.rules.specs.Lists.{Words}
use Rattle.rules.specs.Sheet.{at}
use Rattle.rules.specs.Types.{Ty, unknown, known, Types, node_at, xor, invert_if, find, state_at, size_at, unify_in}
use Rattle.rules.specs.Solutions.{WellFormed, Readable}
use Rattle.rules.specs.MostGeneral.{Won, unify_in_right}
use Rattle.rules.specs.Carried.{unify_in_carries}
use Rattle.rules.specs.UprightRoots.{RootsUpright, join-upright}
use Rattle.rules.specs.CommonSides.{xor_assoc}
use Rattle.table.specs.Packing.{types_of, kind_at, id_at}
use Rattle.table.specs.ChildTypes.{odd-sum}
use Rattle.refs.specs.Meaning.{odd, turn, record_side, node_types, record_types}
use Rattle.refs.specs.Refs.{place, side_of}

-- The type of a table that a type of refs is, where refs stand at φ.
unfoldable pub stands : (ℕ → Ty) → ℕ → Ty
stands φ t = invert_if (odd t) (φ (t / 2))

-- A ref that is no Param of the signature.
pub record Plain (s ps : Words) (r : ℕ) : Type 0 where
  pub not_param : 1024 ≤ r → at s (place ps r + 1) ≢ 1

-- Of a ref that is none: its kind, 0 where it is unknown; its id; its children; and the size of its class in the question's table.
unfoldable pub kind_word : Words → Words → Words → ℕ → ℕ
kind_word s ps ws r = elim (ltb r 256) [ true ↦ kind_at (types_of ws) r | false ↦ elim (ltb r 1024) [ true ↦ 0 | false ↦ at s (place ps r + 1) ] ]

unfoldable pub id_word : Words → Words → Words → ℕ → ℕ
id_word s ps ws r = elim (ltb r 256) [ true ↦ id_at (types_of ws) r | false ↦ at s (place ps r + 3) ]

unfoldable pub kids : Words → Words → Words → ℕ → Words
kids s ps ws r = elim (ltb r 256) [ true ↦ node_types ws r | false ↦ record_types s (at s (place ps r + 4)) ]

unfoldable pub base : Words → ℕ → ℕ
base ws r = elim (ltb r 256) [ true ↦ size_at (types_of ws) r | false ↦ 1 ]

-- Types of table ts one by one those of refs that stand there.
abbrev pub Kin : (ℕ → Ty) → (ℕ → Bool) → Types → List Ty → Words → Type 0
Kin φ live ts [] [] = Unit {0}
Kin φ live ts [] (w ∷ us) = ⊥
Kin φ live ts (c ∷ cs) [] = ⊥
Kin φ live ts (c ∷ cs) (w ∷ us) = (c.1 < length ts) × (live (w / 2) ≡ true) × (find ts c ≡ find ts (stands φ w)) × Kin φ live ts cs us

-- A known node of table ts with a side, a kind, an id and children.
pub record Shown (φ : ℕ → Ty) (live : ℕ → Bool) (ts : Types) (n : ℕ) (i : Bool) (k d : ℕ) (us : Words) : Type 0 where
  pub types : List Ty
  pub is : state_at ts n ≡ known i k d types
  pub kin : Kin φ live ts types us

-- A table that can be read, its roots upright.
pub record Run (ts : Types) : Type 0 where
  pub formed : WellFormed ts
  pub readable : Readable ts
  pub roots : RootsUpright ts

-- Where refs stand on a table: those that came are live. A Param stands where its parameter does, inverted as it is, and every other ref at a root of its own.
pub record Stage (s ps ws : Words) : Type 0 where
  pub table : Types
  pub live : ℕ → Bool
  pub to : ℕ → Ty
  pub run : Run table
  pub low : (r : ℕ) → live r ≡ true → r < 2048
  pub inside : (r : ℕ) → live r ≡ true → (to r).1 < length table
  pub param : (r : ℕ) → live r ≡ true → 1024 ≤ r → at s (place ps r + 1) ≡ 1 → (live (256 + at s (place ps r + 3)) ≡ true) × (to r ≡ invert_if (record_side s (place ps r)) (to (256 + at s (place ps r + 3))))
  pub own : (r : ℕ) → live r ≡ true → Plain s ps r → (to r ≡ (false, (to r).1)) × ((node_at table (to r).1).up ≡ to r)
  pub one : (r q : ℕ) → live r ≡ true → live q ≡ true → Plain s ps r → Plain s ps q → (to r).1 ≡ (to q).1 → r ≡ q
  pub size : (r : ℕ) → live r ≡ true → Plain s ps r → size_at table (to r).1 ≡ base ws r
  pub none : (r : ℕ) → live r ≡ true → Plain s ps r → kind_word s ps ws r ≡ 0 → state_at table (to r).1 ≡ unknown
  pub some : (r : ℕ) → live r ≡ true → Plain s ps r → kind_word s ps ws r ≢ 0 → Shown to live table (to r).1 (side_of s ps ws r) (kind_word s ps ws r) (id_word s ps ws r) (kids s ps ws r)

-- A success keeps a table readable, and roots upright.
pub run_on : (n : ℕ) (s : Words) (ts : Types) (a b : Ty) → Run ts → a.1 < length ts → b.1 < length ts → Won (unify_in n s ts a b).0 → Run (unify_in n s ts a b).1
run_on n s ts a b r ha hb w =
    let o = unify_in_right n s ts a b r.formed ha hb r.readable w in
    record { formed = o.0.formed; readable = o.1; roots = unify_in_carries RootsUpright join-upright n s ts a b r.roots }

-- Inverting a type inverts what it is found to be.
pub find_invert : (ts : Types) (b : Bool) (t : Ty) → find ts (invert_if b t) ≡ invert_if b (find ts t)
unfolding find invert_if
find_invert ts b t = λ z. (sym (xor_assoc b t.0 (node_at ts t.1).up.0) z, (node_at ts t.1).up.1)

pub invert_twice : (b c : Bool) (t : Ty) → invert_if b (invert_if c t) ≡ invert_if (xor b c) t
unfolding invert_if
invert_twice b c t = λ z. (xor_assoc b c t.0 z, t.1)

-- A type that is turned stands where it does, inverted.
pub stands-turn : (φ : ℕ → Ty) (b t : ℕ) → stands φ (turn b t) ≡ invert_if (odd b) (stands φ t)
unfolding stands odd
stands-turn φ b t =
    let a : turn b t % 2 ≡ (b + t) % 2 = omega arith in
    let c : turn b t / 2 ≡ t / 2 = omega arith in
    ap₂ (λ (i j : ℕ). invert_if (eqb i 1) (φ j)) a c
    ∙ ap (λ i. invert_if i (φ (t / 2))) (sym (odd-sum b t))
    ∙ sym (invert_twice (eqb (b % 2) 1) (eqb (t % 2) 1) (φ (t / 2)))
