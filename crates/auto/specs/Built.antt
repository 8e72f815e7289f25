-- Built-in fork and drop: what is found as trees, and the laws that lead from a type's kind, inversion and id to `find_auto_impls`.
use Rattle.std.specs.Prelude.{ℕ, zero, suc, ◌-◌, ◌≤◌, ◌/◌, ◌%◌, Bool, not, ◌&&◌, ◌||◌, ◌≢◌, get_or, Option, Some, None}
use Rattle.std.proofs.Math.Path.{◌≡◌, refl, sym, ap}
use Rattle.std.proofs.Common.{◌∙◌, ap₂, arith}
use Rattle.std.proofs.Math.Bool.{true, false}
use mathlib.Core.List.{List, [], ◌∷◌, map}
use Rattle.std.proofs.Math.Nat.{suc-sub-suc, sub-zero}
use Rattle.std.proofs.Math.Dec.{eqb}
use borrow.Author.Tests.{eq-eqb, ne_eqb}
use Rattle.rules.specs.Lists.{Words, optional_list}
use Rattle.rules.specs.Layout.{header_fork, header_drop, header_duplicate, header_erase, header_closures, closure_flex, flex_fork, flex_drop, tree_def, tree_fork_closure, tree_drop_closure, kind_fn, kind_closure, kind_default}
use Rattle.rules.specs.Sheet.{at, field}
use Rattle.rules.specs.Types.{Ty, TypeState, unknown, known, Types, xor, find, kind, state_at, invert_state}
use Rattle.rules.specs.Transfer.{type_of_word}
use Rattle.rules.specs.Answer.{word_of_type}
use Rattle.rules.specs.Search.{Trees, leaf, find_auto_impl, find_auto_impls}
use Rattle.table.specs.Packing.{kind_in, inverted_in, id_in, kind_at, inverted_at, id_at}
use Rattle.table.specs.Nodes.{type_word}
use Rattle.auto.specs.declared.Leaf.{Leaf}

-- What is found, as trees.
unfoldable pub leaves : Option Leaf → List Trees
leaves None = []
leaves (Some l) = leaf l.kind l.id ∷ []

-- One of two, by a test.
abbrev pick : Bool → List Trees → List Trees → List Trees
pick true ts us = ts
pick false ts us = us

-- duplicate or erase, where header word h has it.
unfoldable pub set_leaf : Words → ℕ → List Trees
set_leaf s h = map (leaf tree_def) (optional_list (at s h))

-- A closure's own, where its flex has bit b.
unfoldable pub own_leaf : Words → ℕ → ℕ → ℕ → List Trees
own_leaf s b k id = pick (eqb ((field s header_closures id closure_flex / b) % 2) 1) (leaf k id ∷ []) []

-- `find_auto_impl` of a kind, an inversion and an id.
unfoldable pub auto_of : Words → ℕ → ℕ → ℕ → ℕ → Bool → ℕ → List Trees
auto_of s h b k kd inv id =
    pick (eqb kd kind_default || (eqb kd kind_fn && not inv)) (set_leaf s h) (pick (eqb kd kind_closure && not inv) (own_leaf s b k id) [])

pub set-none : (s : Words) (h w : ℕ) → w ≡ at s h → w ≡ 0 → leaves None ≡ set_leaf s h
unfolding leaves set_leaf optional_list
set-none s h w e z = sym (ap (λ x. map (leaf tree_def) (optional_list x)) (sym e ∙ z))

pub set-some : (s : Words) (h w : ℕ) → w ≡ at s h → w ≢ 0 → leaves (Some (record { kind = 2; id = w - 1 })) ≡ set_leaf s h
unfolding leaves set_leaf optional_list
set-some s h zero e z = absurd (z refl)
set-some s h (suc w) e z = ap (λ (x : ℕ). leaf 2 x ∷ []) (suc-sub-suc w 0 ∙ sub-zero w) ∙ ap (λ x. map (leaf tree_def) (optional_list x)) e

-- The same by what is one less, if there is such a number.
pub set_absent : (s : Words) (h w : ℕ) (r : Option Leaf) → w ≡ at s h → (1 ≤ w → ⊥) → r ≡ None → leaves r ≡ set_leaf s h
set_absent s h w r e z q = ap leaves q ∙ set-none s h w e (omega arith)

pub set_there : (s : Words) (h w i : ℕ) → w ≡ at s h → 1 ≤ w → i ≡ w - 1 → leaves (Some (record { kind = 2; id = i })) ≡ set_leaf s h
set_there s h w i e z q = ap (λ n. leaves (Some (record { kind = 2; id = n }))) q ∙ set-some s h w e (omega arith)

module _ (s : Words) (b k id i f : ℕ) (e : i ≡ id) (ef : f ≡ field s header_closures i closure_flex) where
  flex_is : f ≡ field s header_closures id closure_flex
  flex_is = ef ∙ ap (λ j. field s header_closures j closure_flex) e

  pub own_some : f / b % 2 ≡ 1 → leaves (Some (record { kind = k; id = id })) ≡ own_leaf s b k id
  unfolding leaves own_leaf
  own_some h = sym (ap (λ c. pick c (leaf k id ∷ []) []) (ap (λ x. eqb (x / b % 2) 1) (sym flex_is) ∙ eq-eqb (f / b % 2) 1 h))

  pub own_none : f / b % 2 ≢ 1 → leaves None ≡ own_leaf s b k id
  unfolding leaves own_leaf
  own_none h = sym (ap (λ c. pick c (leaf k id ∷ []) []) (ap (λ x. eqb (x / b % 2) 1) (sym flex_is) ∙ ne_eqb (f / b % 2) 1 h))

module _ (s : Words) (h b k kd id : ℕ) (inv : Bool) (r : Option Leaf) where
  pub auto_default : kd ≡ 12 → leaves r ≡ set_leaf s h → leaves r ≡ auto_of s h b k kd inv id
  unfolding auto_of
  auto_default e l = l ∙ sym (rw e)

  pub auto_fn : inv ≡ false → kd ≡ 7 → leaves r ≡ set_leaf s h → leaves r ≡ auto_of s h b k kd inv id
  unfolding auto_of
  auto_fn i e l = l ∙ sym (rw (e, i))

  pub auto_closure : inv ≡ false → kd ≡ 8 → leaves r ≡ own_leaf s b k id → leaves r ≡ auto_of s h b k kd inv id
  unfolding auto_of
  auto_closure i e l = l ∙ sym (rw (e, i))

pub auto_inverted : (s : Words) (h b k kd id : ℕ) (inv : Bool) → kd ≢ 12 → inv ≡ true → leaves None ≡ auto_of s h b k kd inv id
unfolding leaves auto_of
auto_inverted s h b k kd id inv d i = sym (ap (λ c. auto_of s h b k kd c id) i ∙ go (eqb kd 12) (eqb kd 7) (eqb kd 8) (ne_eqb kd 12 d))
  where
    go : (x f c : Bool) → x ≡ false → pick (x || (f && false)) (set_leaf s h) (pick (c && false) (own_leaf s b k id) []) ≡ []
    go x true true e = ap (λ y. pick (y || false) (set_leaf s h) []) e
    go x true false e = ap (λ y. pick (y || false) (set_leaf s h) []) e
    go x false true e = ap (λ y. pick (y || false) (set_leaf s h) []) e
    go x false false e = ap (λ y. pick (y || false) (set_leaf s h) []) e

pub auto_other : (s : Words) (h b k kd id : ℕ) (inv : Bool) → kd ≢ 12 → kd ≢ 7 → kd ≢ 8 → leaves None ≡ auto_of s h b k kd inv id
unfolding leaves auto_of
auto_other s h b k kd id inv d f c = sym (λ i. pick (ne_eqb kd 12 d i || (ne_eqb kd 7 f i && not inv)) (set_leaf s h) (pick (ne_eqb kd 8 c i && not inv) (own_leaf s b k id) []))

-- A state by its kind, inversion and id.
auto_state : (s : Words) (h b k : ℕ) (c : Bool) (st : TypeState) → auto_of s h b k (kind_in st) (xor c (inverted_in st)) (id_in st) ≡ find_auto_impl s h b k (invert_state c st)
unfolding auto_of set_leaf own_leaf find_auto_impl kind_in inverted_in id_in invert_state
auto_state s h b k c unknown = refl
auto_state s h b k c (known i kd id cs) = go (eqb kd kind_default || (eqb kd kind_fn && not (xor c i))) (eqb kd kind_closure && not (xor c i)) (eqb ((field s header_closures id closure_flex / b) % 2) 1)
  where
    go : (x y z : Bool) → ◌≡◌ {A = List Trees} (pick x (map (leaf tree_def) (optional_list (at s h))) (pick y (pick z (leaf k id ∷ []) []) [])) (elim x [ true ↦ map (leaf tree_def) (optional_list (at s h)) | false ↦ elim (y && z) [ true ↦ leaf k id ∷ [] | false ↦ [] ] ])
    go true y z = refl
    go false true true = refl
    go false true false = refl
    go false false z = refl

-- The type that is asked for, u being the type of its root.
pub auto_type : (s : Words) (ts : Types) (h b k t u kd id : ℕ) (x : Bool) (r : Option Leaf) → u ≡ word_of_type (find ts (type_of_word t)) → kd ≡ kind_at ts (u / 2) → id ≡ id_at ts (u / 2) → x ≡ xor (type_of_word u).0 (inverted_at ts (u / 2)) → leaves r ≡ auto_of s h b k kd x id → leaves r ≡ find_auto_impl s h b k (kind ts (type_of_word t))
unfolding kind kind_at inverted_at id_at type_of_word
auto_type s ts h b k t u kd id x r eu ek ed ex l =
    let root : type_of_word u ≡ find ts (type_of_word t) = ap type_of_word eu ∙ type_word (find ts (type_of_word t)) in
    l
    ∙ (λ i. auto_of s h b k (ek i) (ex i) (ed i))
    ∙ auto_state s h b k (type_of_word u).0 (state_at ts (u / 2))
    ∙ ap (λ (v : Ty). find_auto_impl s h b k (invert_state v.0 (state_at ts v.1))) root

-- The inversion of a type, from that of its root.
pub inversion_of : (ts : Types) (u : ℕ) (c i r : Bool) → c ≡ (type_of_word u).0 → i ≡ inverted_at ts (u / 2) → r ≡ xor c i → r ≡ xor (type_of_word u).0 (inverted_at ts (u / 2))
inversion_of ts u c i r e f g = g ∙ ap₂ xor e f

-- `find_auto_impls` by three tests.
choose : Bool → Bool → Bool → List Trees → List Trees → List Trees
choose x y z ts us = pick x [] (pick y ts (pick z us []))

first_arg : (args : Words) → get_or (map type_of_word args) 0 (false, 0) ≡ type_of_word (at args 0)
unfolding type_of_word
first_arg [] = refl
first_arg (w ∷ ws) = refl

module _ (s : Words) (ts : Types) (tr t : ℕ) (args : Words) (e : t ≡ at args 0) where
  forks : List Trees
  forks = find_auto_impl s header_duplicate flex_fork tree_fork_closure (kind ts (type_of_word t))

  drops : List Trees
  drops = find_auto_impl s header_erase flex_drop tree_drop_closure (kind ts (type_of_word t))

  chosen : choose (eqb tr 0) (eqb tr (at s header_fork)) (eqb tr (at s header_drop)) forks drops ≡ find_auto_impls s ts (tr, map type_of_word args)
  unfolding choose forks drops find_auto_impls
  chosen = go (eqb tr 0) (eqb tr (at s header_fork)) (eqb tr (at s header_drop)) (type_of_word t) (get_or (map type_of_word args) 0 (false, 0)) (ap type_of_word e ∙ sym (first_arg args))
    where
      go : (x y z : Bool) (a b : Ty) → a ≡ b → ◌≡◌ {A = List Trees} (pick x [] (pick y (find_auto_impl s header_duplicate flex_fork tree_fork_closure (kind ts a)) (pick z (find_auto_impl s header_erase flex_drop tree_drop_closure (kind ts a)) [])))
          (elim x [ true ↦ [] | false ↦ elim y [ true ↦ find_auto_impl s header_duplicate flex_fork tree_fork_closure (kind ts b) | false ↦ elim z [ true ↦ find_auto_impl s header_erase flex_drop tree_drop_closure (kind ts b) | false ↦ [] ] ] ])
      go true y z a b q = refl
      go false true z a b q = ap (λ c. find_auto_impl s header_duplicate flex_fork tree_fork_closure (kind ts c)) q
      go false false true a b q = ap (λ c. find_auto_impl s header_erase flex_drop tree_drop_closure (kind ts c)) q
      go false false false a b q = refl

  module _ (w : ℕ) (ew : w ≡ at s 12) where
    pub autos_fork : (r : Option Leaf) → tr ≢ 0 → tr ≡ w → leaves r ≡ find_auto_impl s 14 1 3 (kind ts (type_of_word t)) → leaves r ≡ find_auto_impls s ts (tr, map type_of_word args)
    unfolding choose forks
    autos_fork r z q l = l ∙ sym (λ i. choose (ne_eqb tr 0 z i) (eq-eqb tr (at s header_fork) (q ∙ ew) i) (eqb tr (at s header_drop)) forks drops) ∙ chosen

    module _ (v : ℕ) (ev : v ≡ at s 13) where
      pub autos_drop : (r : Option Leaf) → tr ≢ 0 → tr ≢ w → tr ≡ v → leaves r ≡ find_auto_impl s 15 2 4 (kind ts (type_of_word t)) → leaves r ≡ find_auto_impls s ts (tr, map type_of_word args)
      unfolding choose drops
      autos_drop r z p q l = l ∙ sym (λ i. choose (ne_eqb tr 0 z i) (ne_eqb tr (at s header_fork) (λ x. p (x ∙ sym ew)) i) (eq-eqb tr (at s header_drop) (q ∙ ev) i) forks drops) ∙ chosen

      pub autos_other : tr ≢ 0 → tr ≢ w → tr ≢ v → leaves None ≡ find_auto_impls s ts (tr, map type_of_word args)
      unfolding choose leaves
      autos_other z p q = sym (λ i. choose (ne_eqb tr 0 z i) (ne_eqb tr (at s header_fork) (λ x. p (x ∙ sym ew)) i) (ne_eqb tr (at s header_drop) (λ x. q (x ∙ sym ev)) i) forks drops) ∙ chosen

pub autos_none : (s : Words) (ts : Types) (tr : ℕ) (args : Words) → tr ≡ 0 → leaves None ≡ find_auto_impls s ts (tr, map type_of_word args)
unfolding leaves find_auto_impls
autos_none s ts tr args z = sym (ap (λ n. find_auto_impls s ts (n, map type_of_word args)) z)
