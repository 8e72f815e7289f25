-- Laws of the readers: what stands in a node's words is what the node is.
use Prim.Native.Nat.{ℕ, zero, suc, ◌+◌, ◌-◌, ◌*◌, ◌/◌, ◌%◌, ◌≤◌, ◌<◌, min}
use Rattle.std.specs.Prelude.{◌≡◌, Bool, true, false, not, ◌≢◌, eqb}
use Rattle.std.proofs.Math.Path.{refl, sym, ap}
use Rattle.std.proofs.Common.{◌∙◌, ap₂, get_or-take, eq-eqb, ne_eqb}
use mathlib.Core.List.{List}
use Rattle.std.proofs.Math.Logic.{⊎_elim}
use Rattle.std.proofs.Math.Decide.{ℕ_discrete}
use native.Mathlib.Omega.{arith}
use Rattle.std.proofs.Math.ListN.{length, get_or, take, length-take, get_or-eq_default}
use Rattle.std.specs.Int.Bits.{bit_xor, xor_add_and, xor_zero_r}
use Rattle.std.proofs.lemmas.Nat.{and_mask}
use Rattle.rules.specs.Lists.{Words, bit}
use Rattle.rules.specs.Sheet.{at}
use Rattle.rules.specs.Types.{Ty, unknown, known, Types, new_node, node_at, xor, state_at, size_at, invert_if, find}
use Rattle.rules.specs.Pigeonholes.{lt_or}
use Rattle.rules.specs.Acyclic.{children}
use Rattle.rules.specs.AcyclicLaws.{children_at}
use Rattle.rules.specs.Transfer.{type_of_word}
use Rattle.rules.specs.Answer.{word_of_type}
use Rattle.rules.specs.Solutions.{rep}
use Rattle.table.specs.Packing.{types_of, node_of, node_from, id_from, state_of, eight, head_kind, head_up, head_size, head_arity, head_inverted, kind_in, inverted_in, id_in, up_at, kind_at, inverted_at, id_at}
use Rattle.table.specs.Nodes.{types_length, node_in, node_past, word_type, type_word}

-- A word of a node, at the place that was computed.
pub field_at : (ws : Words) (n m k r : ℕ) → m ≡ n → r ≡ at ws (4 * m + k) → r ≡ at ws (4 * n + k)
field_at ws n m k r e q = q ∙ ap (λ x. at ws (4 * x + k)) e

-- The count that is read.
pub count_low : (ws : Words) (n : ℕ) → n ≡ at ws 0 → n < 256 → n ≡ length (types_of ws)
count_low ws n e h = omega (arith, types_length ws)

pub count_high : (ws : Words) (n : ℕ) → n ≡ at ws 0 → 256 ≤ n → 256 ≡ length (types_of ws)
count_high ws n e h = omega (arith, types_length ws)

pub count_min : (ws : Words) (n : ℕ) → n ≡ at ws 0 → min n 256 ≡ length (types_of ws)
count_min ws n e = ap (λ k. min k 256) e ∙ sym (types_length ws)

-- c is the count, and w the head of node n.
module _ (ws : Words) (n c w : ℕ) (ec : c ≡ length (types_of ws)) (h : n < c) (e : w ≡ at ws (4 * n + 1)) where
  pub up_in : w / 512 % 512 ≡ word_of_type (up_at (types_of ws) n)
  unfolding up_at node_of node_from
  up_in = ap head_up e ∙ sym (ap (λ nd. word_of_type nd.up) (node_in ws n (omega arith)) ∙ word_type (head_up (at ws (4 * n + 1))))

  pub size_in : w / 262144 % 512 ≡ size_at (types_of ws) n
  unfolding size_at node_of node_from
  size_in = ap head_size e ∙ sym (ap (λ nd. nd.size) (node_in ws n (omega arith)))

-- A node that is there is one of the most.
pub few_nodes : (ws : Words) (n : ℕ) → n < length (types_of ws) → n < 256
few_nodes ws n h = omega (arith, types_length ws)

-- The same of a node that is there.
pub up_here : (ws : Words) (n w : ℕ) → n < length (types_of ws) → w ≡ at ws (4 * n + 1) → w / 512 % 512 ≡ word_of_type (up_at (types_of ws) n)
up_here ws n w h e = up_in ws n (length (types_of ws)) w refl h e

module _ (ts : Types) (n c : ℕ) (ec : c ≡ length ts) (h : c ≤ n) where
  pub up_past : 0 ≡ word_of_type (up_at ts n)
  unfolding up_at new_node word_of_type
  up_past = sym (ap (λ nd. word_of_type nd.up) (node_past ts n (omega arith)))

  pub size_past : 1 ≡ size_at ts n
  unfolding size_at new_node
  size_past = sym (ap (λ nd. nd.size) (node_past ts n (omega arith)))

  pub kind_past : 0 ≡ kind_at ts n
  unfolding kind_at state_at new_node kind_in
  kind_past = sym (ap (λ nd. kind_in nd.state) (node_past ts n (omega arith)))

state_kind : (k : ℕ) (i : Bool) (d : ℕ) (cs : List Ty) → kind_in (state_of k i d cs) ≡ k
unfolding kind_in state_of
state_kind zero i d cs = refl
state_kind (suc k) i d cs = refl

-- w is the head of node n.
pub kind_here : (ws : Words) (n c w : ℕ) → c ≡ length (types_of ws) → n < c → w ≡ at ws (4 * n + 1) → w % 16 ≡ kind_at (types_of ws) n
unfolding kind_at state_at node_of node_from
kind_here ws n c w ec h e = ap head_kind e ∙ sym (ap (λ nd. kind_in nd.state) (node_in ws n (omega arith)) ∙ state_kind (head_kind (at ws (4 * n + 1))) _ _ _)

-- What a node of the table is.
state_here : (ws : Words) (n : ℕ) → n < length (types_of ws) → state_at (types_of ws) n ≡ state_of (head_kind (at ws (4 * n + 1))) (head_inverted (at ws (4 * n + 1))) (id_from (head_arity (at ws (4 * n + 1))) (at ws (4 * n + 4))) (take (head_arity (at ws (4 * n + 1))) (eight (at ws (4 * n + 2)) (at ws (4 * n + 3)) (at ws (4 * n + 4))))
unfolding state_at node_of node_from
state_here ws n h = ap (λ nd. nd.state) (node_in ws n h)

known_kind : (j k : ℕ) (i : Bool) (d : ℕ) (cs : List Ty) → j ≡ k → k ≢ 0 → state_of j i d cs ≡ known i k d cs
unfolding state_of
known_kind zero k i d cs e z = absurd (z (sym e))
known_kind (suc j) k i d cs e z = ap (λ m. known i m d cs) e

unknown_kind : (j : ℕ) (i : Bool) (d : ℕ) (cs : List Ty) → j ≡ 0 → state_of j i d cs ≡ unknown
unfolding state_of
unknown_kind j i d cs e = ap (λ m. state_of m i d cs) e

-- The id that the last word has.
pub id_alone : (m c : ℕ) → m ≡ 0 → id_from m c ≡ c
unfolding id_from
id_alone m c e = ap (λ k. id_from k c) e

pub id_above : (m c : ℕ) → m ≢ 0 → id_from m c ≡ c / 262144
unfolding id_from
id_above zero c z = absurd (z refl)
id_above (suc m) c z = refl

-- k is the kind of node n: an unknown node has no inversion, no id and no children, a known one those of its words.
module _ (ws : Words) (n k : ℕ) (ek : k ≡ kind_at (types_of ws) n) where
  pub inside : k ≢ 0 → n < length (types_of ws)
  inside z = ⊎_elim (λ h. h) (λ l. absurd (z (ek ∙ sym (kind_past (types_of ws) n (length (types_of ws)) refl l)))) (lt_or n (length (types_of ws)))

  pub known_here : k ≢ 0 → state_at (types_of ws) n ≡ known (head_inverted (at ws (4 * n + 1))) k (id_from (head_arity (at ws (4 * n + 1))) (at ws (4 * n + 4))) (take (head_arity (at ws (4 * n + 1))) (eight (at ws (4 * n + 2)) (at ws (4 * n + 3)) (at ws (4 * n + 4))))
  known_here z =
      let q : head_kind (at ws (4 * n + 1)) ≡ k = kind_here ws n (length (types_of ws)) (at ws (4 * n + 1)) refl (inside z) refl ∙ sym ek in
      state_here ws n (inside z) ∙ known_kind _ k _ _ _ q z

  pub unknown_here : k ≡ 0 → state_at (types_of ws) n ≡ unknown
  unfolding state_at new_node state_of
  unknown_here z = ⊎_elim
      (λ h. state_here ws n h ∙ unknown_kind _ _ _ _ (kind_here ws n (length (types_of ws)) (at ws (4 * n + 1)) refl h refl ∙ sym ek ∙ z))
      (λ l. ap (λ nd. nd.state) (node_past (types_of ws) n l))
      (lt_or n (length (types_of ws)))

  pub inverted_none : k ≡ 0 → false ≡ inverted_at (types_of ws) n
  unfolding inverted_at inverted_in
  inverted_none z = sym (ap inverted_in (unknown_here z))

  pub id_none : k ≡ 0 → 0 ≡ id_at (types_of ws) n
  unfolding id_at id_in
  id_none z = sym (ap id_in (unknown_here z))

  pub children-none : k ≡ 0 → 0 ≡ length (children_at (types_of ws) n)
  unfolding children_at children
  children-none z = sym (ap (λ st. length (children st)) (unknown_here z))

  -- w is the head of node n.
  module _ (z : k ≢ 0) (w : ℕ) where
    pub inverted_here : w ≡ at ws (4 * n + 1) → eqb (w / 16 % 2) 1 ≡ inverted_at (types_of ws) n
    unfolding inverted_at inverted_in
    inverted_here e = ap head_inverted e ∙ sym (ap inverted_in (known_here z))

    -- d is its last word: the id, or the id above two children.
    pub id_bare : (d : ℕ) → d ≡ at ws (4 * n + 4) → w ≡ at ws (4 * n + 1) → w / 32 % 16 ≡ 0 → d ≡ id_at (types_of ws) n
    unfolding id_at id_in
    id_bare d ed e q = ed ∙ sym (ap id_in (known_here z) ∙ id_alone _ _ (sym (ap head_arity e) ∙ q))

    pub id_over : (d : ℕ) → d ≡ at ws (4 * n + 4) → w ≡ at ws (4 * n + 1) → w / 32 % 16 ≢ 0 → d / 262144 ≡ id_at (types_of ws) n
    unfolding id_at id_in
    id_over d ed e q = ap (λ c. c / 262144) ed ∙ sym (ap id_in (known_here z) ∙ id_above _ _ (λ y. q (ap head_arity e ∙ y)))

    arity_is : w ≡ at ws (4 * n + 1) → length (children_at (types_of ws) n) ≡ min (w / 32 % 16) 8
    unfolding children_at children eight
    arity_is e = ap (λ st. length (children st)) (known_here z) ∙ length-take (head_arity (at ws (4 * n + 1))) (eight (at ws (4 * n + 2)) (at ws (4 * n + 3)) (at ws (4 * n + 4))) ∙ ap (λ h. min (head_arity h) 8) (sym e)

    -- m is the count that it has: at most eight are there.
    pub arity_here : (m : ℕ) → w ≡ at ws (4 * n + 1) → m ≡ w / 32 % 16 → m < 8 → m ≡ length (children_at (types_of ws) n)
    arity_here m e q l = omega (arith, arity_is e)

    pub arity-most : (m : ℕ) → w ≡ at ws (4 * n + 1) → m ≡ w / 32 % 16 → 8 ≤ m → 8 ≡ length (children_at (types_of ws) n)
    arity-most m e q l = omega (arith, arity_is e)

-- So the lower of the two is its count.
pub arity_min : (ws : Words) (n k w : ℕ) → k ≡ kind_at (types_of ws) n → k ≢ 0 → w ≡ at ws (4 * n + 1) → min 8 (w / 32 % 16) ≡ length (children_at (types_of ws) n)
arity_min ws n k w ek z e = omega (arith, arity_is ws n k ek z w e)

-- No node has more children than eight.
pub children-most : (ws : Words) (n : ℕ) → length (children_at (types_of ws) n) ≤ 8
children-most ws n = elim (ℕ_discrete (kind_at (types_of ws) n) 0) [
  | yes z ↦ omega (arith, children-none ws n (kind_at (types_of ws) n) refl z)
  | no z ↦ omega (arith, arity_is ws n (kind_at (types_of ws) n) refl z (at ws (4 * n + 1)) refl)
]

-- The j-th of three type words in a word.
abbrev pub digit : ℕ → ℕ → ℕ
digit zero w = w % 512
digit (suc zero) w = w / 512 % 512
digit (suc (suc j)) w = w / 262144 % 512

pub digit_first : (j w : ℕ) → j ≡ 0 → w % 512 ≡ digit j w
digit_first j w e = sym (ap (λ k. digit k w) e)

pub digit_second : (j w : ℕ) → j ≡ 1 → w / 512 % 512 ≡ digit j w
digit_second j w e = sym (ap (λ k. digit k w) e)

pub digit_third : (j w : ℕ) → j ≢ 0 → j ≢ 1 → w / 262144 % 512 ≡ digit j w
digit_third zero w a b = absurd (a refl)
digit_third (suc zero) w a b = absurd (b refl)
digit_third (suc (suc j)) w a b = refl

module _ (ws : Words) (n : ℕ) where
  abbrev kids : List Ty
  kids = eight (at ws (4 * n + 2)) (at ws (4 * n + 3)) (at ws (4 * n + 4))

  eight_at : (j : ℕ) → j < 8 → type_of_word (digit (j % 3) (at ws (4 * n + (2 + j / 3)))) ≡ get_or kids j (false, 0)
  unfolding eight
  eight_at zero h = refl
  eight_at (suc zero) h = refl
  eight_at (suc (suc zero)) h = refl
  eight_at (suc (suc (suc zero))) h = refl
  eight_at (suc (suc (suc (suc zero)))) h = refl
  eight_at (suc (suc (suc (suc (suc zero))))) h = refl
  eight_at (suc (suc (suc (suc (suc (suc zero)))))) h = refl
  eight_at (suc (suc (suc (suc (suc (suc (suc zero))))))) h = refl
  eight_at (suc (suc (suc (suc (suc (suc (suc (suc j)))))))) h = absurd (omega arith)

  -- m is the count of children of node n, w the word that child j stands in, and r the child.
  module _ (j m : ℕ) (em : m ≡ length (children_at (types_of ws) n)) where
    pub child_here : (w r : ℕ) → j < m → w ≡ at ws (4 * n + (2 + j / 3)) → r ≡ digit (j % 3) w → r ≡ word_of_type (get_or (children_at (types_of ws) n) j (false, 0))
    unfolding children_at children
    child_here w r l e q =
        let k : kind_at (types_of ws) n ≢ 0 = λ z. omega (arith, children-none ws n (kind_at (types_of ws) n) refl z) in
        let a : length (children_at (types_of ws) n) ≡ min (head_arity (at ws (4 * n + 1))) 8 = arity_is ws n (kind_at (types_of ws) n) refl k (at ws (4 * n + 1)) refl in
        let s : children_at (types_of ws) n ≡ take (head_arity (at ws (4 * n + 1))) kids = ap children (known_here ws n (kind_at (types_of ws) n) refl k) in
        q ∙ ap (digit (j % 3)) e ∙ sym (word_type (digit (j % 3) (at ws (4 * n + (2 + j / 3))))) ∙ ap word_of_type (eight_at j (omega arith) ∙ sym (get_or-take (head_arity (at ws (4 * n + 1))) kids j (false, 0) (omega arith)) ∙ sym (ap (λ (cs : List Ty). get_or cs j (false, 0)) s))

    pub child_past : m ≤ j → 0 ≡ word_of_type (get_or (children_at (types_of ws) n) j (false, 0))
    unfolding word_of_type
    child_past l = sym (ap word_of_type (get_or-eq_default (children_at (types_of ws) n) (false, 0) (omega arith)))

-- `find`: i and u say whether type word t is inverted, and which type of its root its node is.
pub find_here : (ts : Types) (t u r : ℕ) (i : Bool) → i ≡ (type_of_word t).0 → u ≡ word_of_type (up_at ts (t / 2)) → r ≡ word_of_type (invert_if i (type_of_word u)) → r ≡ word_of_type (find ts (type_of_word t))
unfolding find up_at type_of_word
find_here ts t u r i ei e q = q ∙ ap₂ (λ (b : Bool) (v : Ty). word_of_type (invert_if b v)) ei (ap type_of_word e ∙ type_word (up_at ts (t / 2)))

pub up_small : (ws : Words) (n u : ℕ) → u ≡ word_of_type (up_at (types_of ws) n) → u < 512
up_small ws n u e = ⊎_elim
    (λ h. omega (arith, up_in ws n (length (types_of ws)) (at ws (4 * n + 1)) refl h refl))
    (λ l. omega (arith, up_past (types_of ws) n (length (types_of ws)) refl l))
    (lt_or n (length (types_of ws)))

pub up_fits : (ws : Words) (n u : ℕ) → u ≡ word_of_type (up_at (types_of ws) n) → u < 4294967294
up_fits ws n u e = omega (arith, up_small ws n u e)

pub odd_inverted : (t : ℕ) → eqb (t % 2) 1 ≡ (type_of_word t).0
unfolding type_of_word
odd_inverted t = refl

-- `invert_if` on a type word.
module _ (b : Bool) (t : ℕ) where
  pub invert_odd : b ≡ true → t % 2 ≡ 1 → t - 1 ≡ word_of_type (invert_if b (type_of_word t))
  unfolding word_of_type type_of_word invert_if
  invert_odd e o = let z : t - 1 ≡ 2 * (t / 2) + 0 = omega arith in z ∙ sym (ap (λ c. 2 * (t / 2) + bit (xor c (eqb (t % 2) 1))) e ∙ ap (λ c. 2 * (t / 2) + bit (not c)) (eq-eqb (t % 2) 1 o))

  pub invert_even : b ≡ true → t % 2 ≢ 1 → t + 1 ≡ word_of_type (invert_if b (type_of_word t))
  unfolding word_of_type type_of_word invert_if
  invert_even e o = let z : t + 1 ≡ 2 * (t / 2) + 1 = omega arith in z ∙ sym (ap (λ c. 2 * (t / 2) + bit (xor c (eqb (t % 2) 1))) e ∙ ap (λ c. 2 * (t / 2) + bit (not c)) (ne_eqb (t % 2) 1 o))

  pub invert_not : b ≡ false → t ≡ word_of_type (invert_if b (type_of_word t))
  unfolding invert_if
  invert_not e = sym (ap (λ c. word_of_type (invert_if c (type_of_word t))) e ∙ word_type t)

-- The lowest bit of a type word is its inversion.
pub invert_bit : (b : Bool) (t : ℕ) → bit_xor t (bit b) ≡ word_of_type (invert_if b (type_of_word t))
invert_bit true t = elim (ℕ_discrete (t % 2) 1) [
  | yes o ↦ (let q : bit_xor t 1 ≡ t - 1 = omega (arith, xor_add_and t 1, and_mask t 1) in q ∙ invert_odd true t refl o)
  | no o ↦ (let q : bit_xor t 1 ≡ t + 1 = omega (arith, xor_add_and t 1, and_mask t 1) in q ∙ invert_even true t refl o)
]
invert_bit false t = xor_zero_r t ∙ invert_not false t refl

pub root_half : (ts : Types) (n u : ℕ) → u ≡ word_of_type (up_at ts n) → u / 2 ≡ rep ts n
unfolding up_at rep word_of_type
root_half ts n u e = go (node_at ts n).up e
  where
    go : (t : Ty) → u ≡ 2 * t.1 + bit t.0 → u / 2 ≡ t.1
    go (true, m) q = omega arith
    go (false, m) q = omega arith
