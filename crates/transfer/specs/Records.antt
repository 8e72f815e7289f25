-- Laws of the readers of records: what a record's words are is what the node is.
use Rattle.std.specs.Prelude.{ℕ, zero, suc, ◌+◌, ◌*◌, ◌/◌, ◌%◌, ◌≤◌, ◌<◌, ◌≡◌, Bool, ◌≢◌, get_or}
use Rattle.std.proofs.Math.Path.{refl, sym, ap, ap₂}
use Rattle.std.proofs.Common.{◌∙◌, ⊎_elim, le_of_suc-le-suc, not-suc-le-zero, zero-add, add-zero, add-suc, suc-add}
use Rattle.std.proofs.Math.Bool.{true, false}
use mathlib.Core.List.{List, [], ◌∷◌, map}
use native.Mathlib.Omega.{arith}
use Rattle.std.proofs.Math.Dec.{eqb}
use Rattle.std.proofs.Math.ListN.{length, get_or-eq_default}
use borrow.Author.Tests.{eq-eqb, ne_eqb, eqb-true, eqb-false}
use Rattle.rules.specs.Lists.{Words, bit}
use Rattle.rules.specs.Sheet.{at, chain}
use Rattle.rules.specs.Types.{Ty, TypeState, unknown, known, TypeNode, new_node, node_at, xor, invert_if, find, state_at}
use Rattle.rules.specs.Pigeonholes.{lt_or}
use Rattle.rules.specs.Acyclic.{children}
use Rattle.rules.specs.AcyclicLaws.{children_at}
use Rattle.rules.specs.Transfer.{type_of_word, cell_types, node_state, new_nodes}
use Rattle.rules.specs.Answer.{word_of_type}
use Rattle.table.specs.Packing.{kind_in, inverted_in, id_in, kind_at, inverted_at, id_at}
use Rattle.table.specs.Nodes.{word_type, node_past}
use Rattle.transfer.specs.Source.{indexed}

pub mapped-length : {A B : Type 0} (f : A → B) (l : List A) → length (map f l) ≡ length l
mapped-length f [] = refl
mapped-length f (x ∷ l) = ap suc (mapped-length f l)

mapped_at : {B : Type 0} (f : ℕ → B) (l : Words) (n : ℕ) (d : B) → n < length l → get_or (map f l) n d ≡ f (at l n)
mapped_at f [] n d h = absurd (not-suc-le-zero h)
mapped_at f (x ∷ l) zero d h = refl
mapped_at f (x ∷ l) (suc n) d h = mapped_at f l n d (le_of_suc-le-suc h)

new_length : (i : ℕ) (sts : List TypeState) → length (new_nodes i sts) ≡ length sts
unfolding new_nodes
new_length i [] = refl
new_length i (st ∷ sts) = ap suc (new_length (suc i) sts)

new_at : (i : ℕ) (sts : List TypeState) (n : ℕ) → n < length sts → node_at (new_nodes i sts) n ≡ new_node (i + n) (get_or sts n unknown)
unfolding new_nodes node_at
new_at i [] n h = absurd (not-suc-le-zero h)
new_at i (st ∷ sts) zero h = ap (λ k. new_node k st) (sym (add-zero i))
new_at i (st ∷ sts) (suc n) h = new_at (suc i) sts n (le_of_suc-le-suc h) ∙ ap (λ k. new_node k (get_or sts n unknown)) (suc-add i n ∙ sym (add-suc i n))

module _ (s places : Words) where
  indexed-length : length (indexed s places) ≡ length places
  unfolding indexed
  indexed-length = new_length 0 (map (node_state s) places) ∙ mapped-length (node_state s) places

  pub indexed-count : length places ≡ length (indexed s places)
  indexed-count = sym indexed-length

  -- Node n is the record at its place, and its own root.
  indexed-node : (n : ℕ) → n < length places → node_at (indexed s places) n ≡ new_node n (node_state s (at places n))
  unfolding indexed
  indexed-node n h = new_at 0 (map (node_state s) places) n (omega (arith, mapped-length (node_state s) places)) ∙ ap₂ new_node (zero-add n) (mapped_at (node_state s) places n unknown h)

  indexed_past : (n : ℕ) → length places ≤ n → node_at (indexed s places) n ≡ new_node 0 unknown
  indexed_past n h = node_past (indexed s places) n (omega (arith, indexed-length))

  state_in : (n : ℕ) → n < length places → state_at (indexed s places) n ≡ node_state s (at places n)
  unfolding state_at new_node
  state_in n h = ap (λ (nd : TypeNode). nd.state) (indexed-node n h)

  state_past : (n : ℕ) → length places ≤ n → state_at (indexed s places) n ≡ unknown
  unfolding state_at new_node
  state_past n h = ap (λ (nd : TypeNode). nd.state) (indexed_past n h)

-- w is n, and r the word at that place.
pub place_at : (places : Words) (n w r : ℕ) → w ≡ n → r ≡ at places w → r ≡ at places n
place_at places n w r e q = q ∙ ap (at places) e

-- p is the place of node n, and w the fourth word from there.
pub head_at : (s places : Words) (n p w r : ℕ) → p ≡ at places n → w ≡ at s (p + 4) → r ≡ w → r ≡ at s (at places n + 4)
head_at s places n p w r e q z = z ∙ q ∙ ap (λ x. at s (x + 4)) e

-- `find`: w is the node of type word t.
module _ (s places : Words) (t w : ℕ) (ew : w ≡ t / 2) where
  pub find_own : w < length places → t ≡ word_of_type (find (indexed s places) (type_of_word t))
  unfolding find type_of_word invert_if new_node word_of_type
  find_own h = sym (ap (λ (nd : TypeNode). word_of_type (invert_if (eqb (t % 2) 1) nd.up)) (indexed-node s places (t / 2) (omega arith)) ∙ ap (λ b. 2 * (t / 2) + bit b) (upright (eqb (t % 2) 1)) ∙ word_type t)
    where
      upright : (b : Bool) → xor b false ≡ b
      upright true = refl
      upright false = refl

  pub find_past : length places ≤ w → t % 2 ≡ word_of_type (find (indexed s places) (type_of_word t))
  unfolding find type_of_word invert_if new_node word_of_type
  find_past h = sym (ap (λ (nd : TypeNode). word_of_type (invert_if (eqb (t % 2) 1) nd.up)) (indexed_past s places (t / 2) (omega arith)) ∙ go (eqb (t % 2) 1) refl)
    where
      go : (b : Bool) → eqb (t % 2) 1 ≡ b → 2 * 0 + bit (xor b false) ≡ t % 2
      go true e = sym (eqb-true (t % 2) 1 e)
      go false e = let n : t % 2 ≢ 1 = eqb-false (t % 2) 1 e in omega arith

-- What a record is, by its kind.
record_unknown : (s : Words) (p : ℕ) → at s (p + 1) ≡ 0 → node_state s p ≡ unknown
unfolding node_state
record_unknown s p e = rw (eq-eqb (at s (p + 1)) 0 e, node_state)

record_known : (s : Words) (p : ℕ) → at s (p + 1) ≢ 0 → node_state s p ≡ known (eqb (at s (p + 2)) 1) (at s (p + 1)) (at s (p + 3)) (cell_types s (at s (p + 4)))
unfolding node_state
record_known s p e = rw (ne_eqb (at s (p + 1)) 0 e, node_state)

record_kind : (s : Words) (p : ℕ) → kind_in (node_state s p) ≡ at s (p + 1)
unfolding node_state kind_in
record_kind s p = go (eqb (at s (p + 1)) 0) refl
  where
    go : (b : Bool) → eqb (at s (p + 1)) 0 ≡ b → kind_in (node_state s p) ≡ at s (p + 1)
    go true e = rw (e, node_state) (sym (eqb-true (at s (p + 1)) 0 e))
    go false e = rw (e, node_state)

module _ (s places : Words) (n : ℕ) where
  -- p is the place of node n, and w its kind word; m is n.
  pub kind_here : (m p w : ℕ) → m ≡ n → m < length places → p ≡ at places n → w ≡ at s (p + 1) → w ≡ kind_at (indexed s places) n
  unfolding kind_at
  kind_here m p w em h ep e = e ∙ ap (λ x. at s (x + 1)) ep ∙ sym (ap kind_in (state_in s places n (omega arith)) ∙ record_kind s (at places n))

  pub kind_past : (m : ℕ) → m ≡ n → length places ≤ m → 0 ≡ kind_at (indexed s places) n
  unfolding kind_at kind_in
  kind_past m em h = sym (ap kind_in (state_past s places n (omega arith)))

  -- k is the kind of node n.
  module _ (k : ℕ) (ek : k ≡ kind_at (indexed s places) n) where
    inside : k ≢ 0 → n < length places
    inside z = ⊎_elim (λ h. h) (λ l. absurd (z (ek ∙ sym (kind_past n refl l)))) (lt_or n (length places))

    known_here : k ≢ 0 → state_at (indexed s places) n ≡ known (eqb (at s (at places n + 2)) 1) (at s (at places n + 1)) (at s (at places n + 3)) (cell_types s (at s (at places n + 4)))
    known_here z = state_in s places n (inside z) ∙ record_known s (at places n) (λ q. z (ek ∙ sym (kind_here n (at places n) (at s (at places n + 1)) refl (inside z) refl refl) ∙ q))

    pub unknown_here : k ≡ 0 → state_at (indexed s places) n ≡ unknown
    unknown_here z = ⊎_elim
        (λ h. state_in s places n h ∙ record_unknown s (at places n) (kind_here n (at places n) (at s (at places n + 1)) refl h refl refl ∙ sym ek ∙ z))
        (λ l. state_past s places n l)
        (lt_or n (length places))

    pub inverted_none : k ≡ 0 → false ≡ inverted_at (indexed s places) n
    unfolding inverted_at inverted_in
    inverted_none z = sym (ap inverted_in (unknown_here z))

    pub id_none : k ≡ 0 → 0 ≡ id_at (indexed s places) n
    unfolding id_at id_in
    id_none z = sym (ap id_in (unknown_here z))

    pub children-none : k ≡ 0 → 0 ≡ length (children_at (indexed s places) n)
    unfolding children_at children
    children-none z = sym (ap (λ st. length (children st)) (unknown_here z))

    pub children_here : k ≢ 0 → children_at (indexed s places) n ≡ cell_types s (at s (at places n + 4))
    unfolding children_at children
    children_here z = ap children (known_here z)

    -- p is its place.
    module _ (z : k ≢ 0) (p : ℕ) (ep : p ≡ at places n) where
      pub inverted_here : (w : ℕ) → w ≡ at s (p + 2) → eqb w 1 ≡ inverted_at (indexed s places) n
      unfolding inverted_at inverted_in
      inverted_here w e = ap (λ x. eqb x 1) (e ∙ ap (λ x. at s (x + 2)) ep) ∙ sym (ap inverted_in (known_here z))

      pub id_here : (w : ℕ) → w ≡ at s (p + 3) → w ≡ id_at (indexed s places) n
      unfolding id_at id_in
      id_here w e = e ∙ ap (λ x. at s (x + 3)) ep ∙ sym (ap id_in (known_here z))

    -- h heads its children.
    pub count_here : (h r : ℕ) → k ≢ 0 → h ≡ at s (at places n + 4) → r ≡ length (chain s h) → r ≡ length (children_at (indexed s places) n)
    unfolding cell_types
    count_here h r z e q = q ∙ ap (λ x. length (chain s x)) e ∙ sym (ap (λ (cs : List Ty). length cs) (children_here z) ∙ mapped-length (λ c. type_of_word (at s (c + 1))) (chain s (at s (at places n + 4))))

  -- m is the count of its children, h heads them, and p is the place of child j.
  module _ (j m : ℕ) (em : m ≡ length (children_at (indexed s places) n)) where
    pub child_here : (h p r : ℕ) → j < m → h ≡ at s (at places n + 4) → p ≡ at (chain s h) j → r ≡ at s (p + 1) → r ≡ word_of_type (get_or (children_at (indexed s places) n) j (false, 0))
    unfolding cell_types
    child_here h p r l eh ep e =
        let k : kind_at (indexed s places) n ≢ 0 = λ z. omega (arith, children-none (kind_at (indexed s places) n) refl z) in
        let q : children_at (indexed s places) n ≡ cell_types s (at s (at places n + 4)) = children_here (kind_at (indexed s places) n) refl k in
        let c : length (children_at (indexed s places) n) ≡ length (chain s (at s (at places n + 4))) = sym (count_here (kind_at (indexed s places) n) refl (at s (at places n + 4)) (length (chain s (at s (at places n + 4)))) k refl refl) in
        sym (ap (λ (cs : List Ty). word_of_type (get_or cs j (false, 0))) q ∙ ap word_of_type (mapped_at (λ c. type_of_word (at s (c + 1))) (chain s (at s (at places n + 4))) j (false, 0) (omega arith)) ∙ word_type (at s (at (chain s (at s (at places n + 4))) j + 1)) ∙ cc)

    pub child_past : m ≤ j → 0 ≡ word_of_type (get_or (children_at (indexed s places) n) j (false, 0))
    unfolding word_of_type
    child_past l = sym (ap word_of_type (get_or-eq_default (children_at (indexed s places) n) (false, 0) (omega arith)))
