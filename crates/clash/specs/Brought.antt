-- A candidate's refs on the table that its signature was brought into.
-- A ref that came is a root of the question's table, a type parameter, or a node of the signature's table; each stands where it was, at its fresh unknown, or where it went.
use Rattle.std.specs.Prelude.{ℕ, ◌+◌, ◌-◌, ◌/◌, ◌%◌, ◌≤◌, ◌<◌, ◌≡◌, Bool, ◌||◌, ◌≢◌, T, eqb, get_or, take}
use Rattle.std.proofs.Math.Path.{refl, sym, ap, subst}
use Rattle.std.proofs.Common.{◌∙◌, ap₂}
use Rattle.std.proofs.Math.Bool.{true, false}
use mathlib.Core.List.{List, [], ◌∷◌, map}
use Rattle.std.proofs.Math.Option.{none, some}
use Rattle.std.proofs.Math.Logic.{⊎_elim}
use Rattle.std.proofs.Math.Decide.{ℕ_discrete}
use native.Mathlib.Omega.{arith}
use Rattle.std.proofs.Math.Dec.{ltb}
use Rattle.std.proofs.Math.ListN.{length}
use borrow.Author.Tests.{ltb-true, eqb-true, lt-ltb, le-ltb, eq-eqb, ne_eqb}
use Rattle.rules.specs.Lists.{Words}
use Rattle.rules.specs.Layout.{header_impls, impl_table_word, impl_args_word, kind_param}
use Rattle.rules.specs.Sheet.{at, chain, field, many, type_params, impl_generics, impl_table, impl_args}
use Rattle.rules.specs.Types.{Ty, TypeState, unknown, known, TypeNode, Types, new_node, node_at, invert_if, find, state_at, size_at, success, unify, unify_each, unify_types, ImplType, unify_impl_type}
use Rattle.rules.specs.AcyclicLaws.{children_at}
use Rattle.rules.specs.Transfer.{param_for, type_of_word, cell_types, node_state, table}
use Rattle.rules.specs.Search.{impl_signature, fresh_params, with_fresh}
use Rattle.rules.specs.Answer.{word_of_type}
use Rattle.rules.specs.Solutions.{rep, AllIn, ChildrenIn}
use Rattle.rules.specs.MostGeneral.{Won}
use Rattle.rules.specs.Pigeonholes.{lt_or}
use Rattle.rules.specs.CheckedTables.{table_length_lem, table_state}
use Rattle.rules.specs.Slim.{ParamBelow}
use Rattle.rules.specs.Neat.{Neat, fresh-length, signature_below}
use Rattle.rules.specs.SearchKeeps.{fresh_count, signed, met, signature_brought}
use Rattle.rules.specs.CommonTerms.{fresh_first}
use Rattle.rules.specs.CommonSides.{xor-none}
use Rattle.rules.specs.Loose.{fresh-param, fresh-node}
use Rattle.rules.specs.Placed.{carried, carried_state, AllHere, Placed, candidate_placed}
use Rattle.table.specs.Packing.{types_of, kind_at, id_at}
use Rattle.table.specs.Nodes.{types_few, type_word, word_type}
use Rattle.table.specs.Reads.{unknown_here}
use Rattle.table.specs.ChildTypes.{type_in, type_there}
use Rattle.unify.specs.Known.{known_fields}
use Rattle.queries.specs.declared.Query.{Query}
use Rattle.queries.specs.Queries.{four, query_of}
use Rattle.queries.specs.Sizes.{impl_few}
use Rattle.opening.specs.Sound.{Sound, finder}
use Rattle.opening.specs.Signing.{params_few}
use Rattle.refs.specs.Meaning.{odd, record_side}
use Rattle.refs.specs.Refs.{place, place_at, side_of, side-node, side_record}
use Rattle.order.specs.Stage.{stands, Plain, kind_word, id_word, kids, base, Kin, Shown, Stage}
use Rattle.order.specs.Brought.{Brought}
use Rattle.clash.specs.Readings.{unknown_state, known_state, word_node, record_word}

-- Which refs came, with the question's table, n type parameters and the nodes of the signature's table that are here;
unfoldable came_ref : Types → ℕ → (ℕ → Bool) → ℕ → Bool
came_ref ts n here r =
    elim (ltb r 256) [
      | true ↦ elim (ltb r (length ts)) [ true ↦ eqb (rep ts r) r | false ↦ false ]
      | false ↦ elim (ltb r 1024) [ true ↦ ltb r (256 + n) | false ↦ here (r - 1024) ]
    ]

-- and where they stand.
unfoldable ref_type : Types → (ℕ → Ty) → ℕ → Ty
ref_type ts φ r = elim (ltb r 256) [ true ↦ (false, r) | false ↦ elim (ltb r 1024) [ true ↦ (false, length ts + (r - 256)) | false ↦ φ (r - 1024) ] ]

-- A ref that came.
data Ref (ts : Types) (n : ℕ) (here : ℕ → Bool) (r : ℕ) : Type 0 where
  root : r < length ts → rep ts r ≡ r → Ref ts n here r
  fresh : (d : ℕ) → d < n → r ≡ 256 + d → Ref ts n here r
  node : (k : ℕ) → T (here k) → r ≡ 1024 + k → Ref ts n here r

-- A test that came to true, and what holds by one.
holds : (b : Bool) → b ≡ true → T b
holds b e = subst T (sym e) tt

held : (b : Bool) → T b → b ≡ true
held true t = refl
held false t = absurd t

module _ (ts : Types) (n : ℕ) (here : ℕ → Bool) where
  ref_of : (r : ℕ) → came_ref ts n here r ≡ true → Ref ts n here r
  unfolding came_ref
  ref_of r e = ⊎_elim (λ l. low l (ltb r (length ts)) refl) (λ l. ⊎_elim (middle l) high (lt_or r 1024)) (lt_or r 256)
    where
      low : r < 256 → (b : Bool) → ltb r (length ts) ≡ b → Ref ts n here r
      low l true q = root (ltb-true r (length ts) q) (eqb-true (rep ts r) r (rw (lt-ltb r 256 l, q, came_ref) at e))
      low l false q = absurd (holds false (rw (lt-ltb r 256 l, q, came_ref) at e))

      middle : 256 ≤ r → r < 1024 → Ref ts n here r
      middle l m = let b = ltb-true r (256 + n) (rw (le-ltb r 256 l, lt-ltb r 1024 m, came_ref) at e) in fresh (r - 256) (omega (arith, b)) (omega arith)

      high : 1024 ≤ r → Ref ts n here r
      high l = node (r - 1024) (holds (here (r - 1024)) (rw (le-ltb r 256 (omega arith), le-ltb r 1024 l, came_ref) at e)) (omega arith)

  root_came : (r : ℕ) → r < 256 → r < length ts → rep ts r ≡ r → came_ref ts n here r ≡ true
  unfolding came_ref
  root_came r l m e = rw (lt-ltb r 256 l, lt-ltb r (length ts) m, came_ref) (eq-eqb (rep ts r) r e)

  fresh_came : (d : ℕ) → n ≤ 8 → d < n → came_ref ts n here (256 + d) ≡ true
  unfolding came_ref
  fresh_came d l m = rw (le-ltb (256 + d) 256 (omega arith), lt-ltb (256 + d) 1024 (omega arith), came_ref) (lt-ltb (256 + d) (256 + n) (omega arith))

  node_came : (k : ℕ) → T (here k) → came_ref ts n here (1024 + k) ≡ true
  unfolding came_ref
  node_came k t = rw (le-ltb (1024 + k) 256 (omega arith), le-ltb (1024 + k) 1024 (omega arith), came_ref) (ap here (let z : 1024 + k - 1024 ≡ k = omega arith in z) ∙ held (here k) t)

module _ (ts : Types) (φ : ℕ → Ty) where
  root_type : (r : ℕ) → r < 256 → ref_type ts φ r ≡ (false, r)
  unfolding ref_type
  root_type r l = rw (lt-ltb r 256 l, ref_type)

  fresh_type : (d : ℕ) → d < 8 → ref_type ts φ (256 + d) ≡ (false, length ts + d)
  unfolding ref_type
  fresh_type d l = rw (le-ltb (256 + d) 256 (omega arith), lt-ltb (256 + d) 1024 (omega arith), ref_type) (ap (λ k. (false, length ts + k)) (let z : 256 + d - 256 ≡ d = omega arith in z))

  node_type : (k : ℕ) → ref_type ts φ (1024 + k) ≡ φ k
  unfolding ref_type
  node_type k = rw (le-ltb (1024 + k) 256 (omega arith), le-ltb (1024 + k) 1024 (omega arith), ref_type) (ap φ (let z : 1024 + k - 1024 ≡ k = omega arith in z))

-- The words of the types of roots that types are.
kids_are : (ws : Words) (cs : List Ty) → AllIn (length (types_of ws)) cs → map (λ (c : Ty). word_of_type (type_in ws c)) cs ≡ map (λ (c : Ty). word_of_type (find (types_of ws) c)) cs
kids_are ws [] a = refl
kids_are ws (c ∷ cs) a = ap₂ ◌∷◌ (ap word_of_type (type_there ws c a.0)) (kids_are ws cs a.1)

-- What the node of a record is by its kind: unknown, a Param, for which its parameter stands, or another.
module _ (s : Words) (p : ℕ) (us : List Ty) where
  given_param : at s (p + 1) ≡ 1 → param_for (some us) (node_state s p) ≡ some (invert_if (record_side s p) (get_or us (at s (p + 3)) (false, 0)))
  unfolding param_for
  given_param e = ap (param_for (some us)) (known_state s p (omega arith)) ∙ rw (eq-eqb (at s (p + 1)) kind_param e, param_for)

  given_none : at s (p + 1) ≢ 1 → param_for (some us) (node_state s p) ≡ none
  unfolding param_for
  given_none z = go (ℕ_discrete (at s (p + 1)) 0)
    where
      go : Dec (at s (p + 1) ≡ 0) → param_for (some us) (node_state s p) ≡ none
      go (yes e) = ap (param_for (some us)) (unknown_state s p e)
      go (no e) = ap (param_for (some us)) (known_state s p e) ∙ rw (ne_eqb (at s (p + 1)) kind_param z, param_for)

-- What the words say of a ref, by where it is.
module _ (s ps ws : Words) (r : ℕ) where
  root_words : r < 256 → (kind_word s ps ws r ≡ kind_at (types_of ws) r) × (id_word s ps ws r ≡ id_at (types_of ws) r) × (kids s ps ws r ≡ map (λ (c : Ty). word_of_type (type_in ws c)) (children_at (types_of ws) r)) × (base ws r ≡ size_at (types_of ws) r)
  unfolding kind_word id_word kids base
  root_words l = (rw (lt-ltb r 256 l, kind_word), rw (lt-ltb r 256 l, id_word), rw (lt-ltb r 256 l, kids), rw (lt-ltb r 256 l, base))

  fresh-words : 256 ≤ r → r < 1024 → kind_word s ps ws r ≡ 0
  unfolding kind_word
  fresh-words l m = rw (le-ltb r 256 l, lt-ltb r 1024 m, kind_word)

  base-one : 256 ≤ r → base ws r ≡ 1
  unfolding base
  base-one l = rw (le-ltb r 256 l, base)

  node_words : 1024 ≤ r → (kind_word s ps ws r ≡ at s (place ps r + 1)) × (id_word s ps ws r ≡ at s (place ps r + 3)) × (kids s ps ws r ≡ map (λ (c : Ty). 2048 + word_of_type c % 2048) (cell_types s (at s (place ps r + 4))))
  unfolding kind_word id_word kids
  node_words l = (rw (le-ltb r 256 (omega arith), le-ltb r 1024 l, kind_word), rw (le-ltb r 256 (omega arith), id_word), rw (le-ltb r 256 (omega arith), kids))

-- A type of which the word is read again.
stands_word : (φ : ℕ → Ty) (t : Ty) → stands φ (word_of_type t) ≡ invert_if t.0 (φ t.1)
unfolding stands odd type_of_word
stands_word φ t = ap (λ (u : Ty). invert_if u.0 (φ u.1)) (type_word t)

-- Types of words, and the words of types again.
map-after : (f : Ty → ℕ) (l : Words) → map f (map type_of_word l) ≡ map (λ w. f (type_of_word w)) l
map-after f [] = refl
map-after f (w ∷ l) = ap (λ (ws : Words). f (type_of_word w) ∷ ws) (map-after f l)

words_again : (f : ℕ → ℕ) (l : Words) → map (λ (c : Ty). f (word_of_type c)) (map type_of_word l) ≡ map f l
words_again f [] = refl
words_again f (w ∷ l) = ap₂ ◌∷◌ (ap f (word_type w)) (words_again f l)

-- The signature's table came behind the question's, with fresh unknowns for its n parameters.
module _ (s ws : Words) (h n : ℕ) (short : length (chain s h) ≤ 1024) (most : n ≤ 8) (neat : Neat (types_of ws)) (low : (k : ℕ) → ParamBelow n (state_at (table s h) k)) (xs : List Ty) (res : List Ty × Types) (left : Neat res.1) (b : Placed (table s h) (some (fresh_params (types_of ws) n)) (with_fresh (types_of ws) n) xs res) where
  abbrev ts : Types
  ts = types_of ws

  abbrev us : Types
  us = res.1

  abbrev live : ℕ → Bool
  live = came_ref (types_of ws) n b.here

  abbrev to : ℕ → Ty
  to = ref_type (types_of ws) b.at

  -- A node of the question's table is as it was,
  old_node : (r : ℕ) → r < length ts → node_at us r ≡ node_at ts r
  old_node r l = b.old r (omega (arith, fresh-length ts n)) ∙ fresh_first ts n r l

  old_in : (r : ℕ) → r < length ts → r < length us
  old_in r l = omega (arith, b.long, fresh-length ts n)

  old_up : (r : ℕ) → r < length ts → rep ts r ≡ r → (node_at us r).up ≡ (false, r)
  unfolding rep
  old_up r l e = ap (λ (nd : TypeNode). nd.up) (old_node r l) ∙ (λ z. (neat.upright r l e z, e z))

  -- and a fresh unknown is one.
  new_node_at : (d : ℕ) → d < n → node_at us (length ts + d) ≡ new_node (length ts + d) unknown
  new_node_at d l = b.old (length ts + d) (omega (arith, fresh-length ts n)) ∙ fresh-node ts n d l

  new_in : (d : ℕ) → d < n → length ts + d < length us
  new_in d l = omega (arith, b.long, fresh-length ts n)

  -- A type of the question's table is the type of a root that it was.
  old_find : (t : Ty) → t.1 < length ts → find us t ≡ find ts t
  unfolding find
  old_find t l = ap (λ (nd : TypeNode). invert_if t.0 nd.up) (old_node t.1 l)

  root_find : (t : Ty) → t.1 < length ts → find us (find ts t) ≡ find ts t
  unfolding find invert_if rep
  root_find t l =
      let o = neat.proper.formed t.1 l in
      ap (invert_if (find ts t).0) (old_up (rep ts t.1) o.0 o.1) ∙ ap (λ i. (i, rep ts t.1)) (xor-none (find ts t).0)

  -- A node of the signature's table that came, by its record.
  module _ (k : ℕ) (t : T (b.here k)) where
    abbrev p : ℕ
    p = place (chain s h) (1024 + k)

    state : state_at (table s h) k ≡ node_state s p
    state = table_state s h k (b.inside k t) ∙ ap (node_state s) (ap (at (chain s h)) (let z : k ≡ 1024 + k - 1024 = omega arith in z) ∙ sym (place_at (chain s h) (1024 + k) (omega arith)))

    in_low : 1024 + k < 2048
    in_low = omega (arith, b.inside k t, table_length_lem s h)

    -- A Param stands for its parameter,
    param_low : at s (p + 1) ≡ 1 → at s (p + 3) < n
    param_low e = subst (ParamBelow n) (state ∙ known_state s p (omega arith)) (low k) e

    param_type : at s (p + 1) ≡ 1 → b.at k ≡ invert_if (record_side s p) (false, length ts + at s (p + 3))
    param_type e = b.param k _ t (ap (param_for (some (fresh_params ts n))) state ∙ given_param s p (fresh_params ts n) e) ∙ ap (invert_if (record_side s p)) (fresh-param ts n (at s (p + 3)) (param_low e))

    -- and for any other nothing does.
    plain : at s (p + 1) ≢ 1 → param_for (some (fresh_params ts n)) (state_at (table s h) k) ≡ none
    plain z = ap (param_for (some (fresh_params ts n))) state ∙ given_none s p (fresh_params ts n) z

    came_in : (b.at k).1 < length us
    unfolding invert_if
    came_in = go (ℕ_discrete (at s (p + 1)) 1)
      where
        go : Dec (at s (p + 1) ≡ 1) → (b.at k).1 < length us
        go (yes e) = omega (arith, ap (λ (u : Ty). u.1) (param_type e), new_in (at s (p + 3)) (param_low e))
        go (no z) = (b.new k t (plain z)).1

    came_node : at s (p + 1) ≢ 1 → node_at us (b.at k).1 ≡ new_node (b.at k).1 (carried_state b.at (node_state s p))
    came_node z = b.node k t (plain z) ∙ ap (λ (st : TypeState). new_node (b.at k).1 (carried_state b.at st)) state

  -- Types of the question's table, and of the signature's, are those of their refs.
  root_kin : (cs : List Ty) → AllIn (length ts) cs → Kin to live us cs (map (λ (c : Ty). word_of_type (find ts c)) cs)
  unfolding find invert_if rep
  root_kin [] a = tt
  root_kin (c ∷ cs) a =
      let o = neat.proper.formed c.1 a.0 in
      let few : rep ts c.1 < 256 = omega (arith, o.0, types_few ws) in (
        old_in c.1 a.0,
        ap live (word_node (find ts c)) ∙ root_came ts n b.here (rep ts c.1) few o.0 o.1,
        old_find c a.0 ∙ sym (root_find c a.0) ∙ sym (ap (find us) (stands_word to (find ts c) ∙ ap (invert_if (find ts c).0) (root_type ts b.at (rep ts c.1) few) ∙ ap (λ i. (i, rep ts c.1)) (xor-none (find ts c).0))),
        root_kin cs a.1,
      )

  node_kin : (cs : List Ty) → AllHere b.here cs → Kin to live us (map (carried b.at) cs) (map (λ (c : Ty). 2048 + word_of_type c % 2048) cs)
  unfolding invert_if
  node_kin [] a = tt
  node_kin (c ∷ cs) a =
      let e = record_word c (omega (arith, in_low c.1 a.0)) in (
        came_in c.1 a.0,
        ap live (ap (λ w. w / 2) e ∙ word_node (c.0, 1024 + c.1)) ∙ node_came ts n b.here c.1 a.0,
        sym (ap (find us) (ap (stands to) e ∙ stands_word to (c.0, 1024 + c.1) ∙ ap (invert_if c.0) (node_type ts b.at c.1))),
        node_kin cs a.1,
      )

  -- What a ref that came, other than a Param, is there.
  record Own (r : ℕ) : Type 0 where
    at : ℕ
    is : to r ≡ (false, at)
    up : (node_at us at).up ≡ (false, at)
    size : size_at us at ≡ base ws r
    none : kind_word s (chain s h) ws r ≡ 0 → state_at us at ≡ unknown
    some : kind_word s (chain s h) ws r ≢ 0 → Shown to live us at (side_of s (chain s h) ws r) (kind_word s (chain s h) ws r) (id_word s (chain s h) ws r) (kids s (chain s h) ws r)

  root_own : (r : ℕ) → r < length ts → rep ts r ≡ r → Own r
  unfolding size_at state_at
  root_own r l e =
      let few : r < 256 = omega (arith, types_few ws) in
      let w = root_words s (chain s h) ws r few in
      let st : state_at us r ≡ state_at ts r = ap (λ (nd : TypeNode). nd.state) (old_node r l) in
      record {
        at = r;
        is = root_type ts b.at r few;
        up = old_up r l e;
        size = ap (λ (nd : TypeNode). nd.size) (old_node r l) ∙ sym w.3;
        none = λ z. st ∙ unknown_here ws r (kind_at ts r) refl (sym w.0 ∙ z);
        some = λ z.
            let k : kind_at ts r ≢ 0 = λ y. z (w.0 ∙ y) in
            let cs = children_at ts r in
            let all : AllIn (length ts) cs = subst (ChildrenIn (length ts)) (ap (state_at ts) e ∙ known_fields ts r k) (neat.proper.formed r l).2 in
            record {
              types = cs;
              is = st ∙ known_fields ts r k ∙ (λ t. known (sym (side-node s (chain s h) ws r few) t) (sym w.0 t) (sym w.1 t) cs);
              kin = subst (Kin to live us cs) (sym (w.2 ∙ kids_are ws cs all)) (root_kin cs all);
            };
      }

  fresh_own : (d : ℕ) → d < n → Own (256 + d)
  unfolding size_at state_at new_node
  fresh_own d l = record {
    at = length ts + d;
    is = fresh_type ts b.at d (omega arith);
    up = ap (λ (nd : TypeNode). nd.up) (new_node_at d l);
    size = ap (λ (nd : TypeNode). nd.size) (new_node_at d l) ∙ sym (base-one s (chain s h) ws (256 + d) (omega arith));
    none = λ z. ap (λ (nd : TypeNode). nd.state) (new_node_at d l);
    some = λ z. absurd (z (fresh-words s (chain s h) ws (256 + d) (omega arith) (omega arith)));
  }

  node_own : (k : ℕ) → T (b.here k) → at s (place (chain s h) (1024 + k) + 1) ≢ 1 → Own (1024 + k)
  unfolding size_at state_at new_node carried_state
  node_own k t z =
      let m = (b.at k).1 in
      let w = node_words s (chain s h) ws (1024 + k) (omega arith) in
      let st : state_at us m ≡ carried_state b.at (node_state s (p k t)) = ap (λ (nd : TypeNode). nd.state) (came_node k t z) in
      record {
        at = m;
        is = node_type ts b.at k ∙ ap (λ i. (i, m)) (b.upright k t (plain k t z));
        up = ap (λ (nd : TypeNode). nd.up) (came_node k t z);
        size = ap (λ (nd : TypeNode). nd.size) (came_node k t z) ∙ sym (base-one s (chain s h) ws (1024 + k) (omega arith));
        none = λ y. st ∙ ap (carried_state b.at) (unknown_state s (p k t) (sym w.0 ∙ y));
        some = λ y.
            let kd : at s (p k t + 1) ≢ 0 = λ e. y (w.0 ∙ e) in
            let cs = cell_types s (at s (p k t + 4)) in
            record {
              types = map (carried b.at) cs;
              is = st ∙ ap (carried_state b.at) (known_state s (p k t) kd) ∙ (λ i. known (sym (side_record s (chain s h) ws (1024 + k) (omega arith)) i) (sym w.0 i) (sym w.1 i) (map (carried b.at) cs));
              kin = subst (Kin to live us (map (carried b.at) cs)) (sym w.2) (node_kin cs (b.below k t (plain k t z) _ _ _ cs (state k t ∙ known_state s (p k t) kd)));
            };
      }

  own : (r : ℕ) → live r ≡ true → Plain s (chain s h) r → Own r
  own r e q = go (ref_of ts n b.here r e)
    where
      go : Ref ts n b.here r → Own r
      go (root l o) = root_own r l o
      go (fresh d l y) = subst Own (sym y) (fresh_own d l)
      go (node k t y) = subst Own (sym y) (node_own k t (λ z. q.not_param (omega arith) (ap (λ j. at s (place (chain s h) j + 1)) y ∙ z)))

  inside : (r : ℕ) → live r ≡ true → (to r).1 < length us
  inside r e = go (ref_of ts n b.here r e)
    where
      go : Ref ts n b.here r → (to r).1 < length us
      go (root l o) = subst (λ (t : Ty). t.1 < length us) (sym (root_type ts b.at r (omega (arith, types_few ws)))) (old_in r l)
      go (fresh d l y) = subst (λ (t : Ty). t.1 < length us) (sym (ap to y ∙ fresh_type ts b.at d (omega arith))) (new_in d l)
      go (node k t y) = subst (λ (u : Ty). u.1 < length us) (sym (ap to y ∙ node_type ts b.at k)) (came_in k t)

  low_ref : (r : ℕ) → live r ≡ true → r < 2048
  low_ref r e = go (ref_of ts n b.here r e)
    where
      go : Ref ts n b.here r → r < 2048
      go (root l o) = omega (arith, types_few ws)
      go (fresh d l y) = omega arith
      go (node k t y) = omega (arith, in_low k t)

  -- A Param stands where its parameter does.
  param_ref : (r : ℕ) → live r ≡ true → 1024 ≤ r → at s (place (chain s h) r + 1) ≡ 1 → (live (256 + at s (place (chain s h) r + 3)) ≡ true) × (to r ≡ invert_if (record_side s (place (chain s h) r)) (to (256 + at s (place (chain s h) r + 3))))
  param_ref r e l z = go (ref_of ts n b.here r e)
    where
      Said : ℕ → Type 0
      Said j = (live (256 + at s (place (chain s h) j + 3)) ≡ true) × (to j ≡ invert_if (record_side s (place (chain s h) j)) (to (256 + at s (place (chain s h) j + 3))))

      go : Ref ts n b.here r → Said r
      go (root m o) = absurd (omega (arith, types_few ws))
      go (fresh d m y) = absurd (omega arith)
      go (node k t y) =
          let q : at s (p k t + 1) ≡ 1 = ap (λ j. at s (place (chain s h) j + 1)) (sym y) ∙ z in
          let d = at s (p k t + 3) in
          let m = param_low k t q in
          subst Said (sym y)
          (fresh_came ts n b.here d most m, node_type ts b.at k ∙ param_type k t q ∙ ap (invert_if (record_side s (p k t))) (sym (fresh_type ts b.at d (omega arith))))

  -- Two refs that are no Params stand apart.
  one_ref : (r q : ℕ) → live r ≡ true → live q ≡ true → Plain s (chain s h) r → Plain s (chain s h) q → (to r).1 ≡ (to q).1 → r ≡ q
  one_ref r q e f pr pq same = go (ref_of ts n b.here r e) (ref_of ts n b.here q f)
    where
      at_root : (j : ℕ) → j < length ts → (to j).1 ≡ j
      at_root j l = ap (λ (t : Ty). t.1) (root_type ts b.at j (omega (arith, types_few ws)))

      at_fresh : (j d : ℕ) → d < n → j ≡ 256 + d → (to j).1 ≡ length ts + d
      at_fresh j d l y = ap (λ (t : Ty). t.1) (ap to y ∙ fresh_type ts b.at d (omega arith))

      at_node : (j k : ℕ) → j ≡ 1024 + k → (to j).1 ≡ (b.at k).1
      at_node j k y = ap (λ (t : Ty). t.1) (ap to y ∙ node_type ts b.at k)

      no_param : (j k : ℕ) (t : T (b.here k)) → j ≡ 1024 + k → Plain s (chain s h) j → param_for (some (fresh_params ts n)) (state_at (table s h) k) ≡ none
      no_param j k t y o = plain k t (λ z. o.not_param (omega arith) (ap (λ i. at s (place (chain s h) i + 1)) y ∙ z))

      behind : (j k : ℕ) (t : T (b.here k)) → j ≡ 1024 + k → Plain s (chain s h) j → length ts + n ≤ (to j).1
      behind j k t y o = omega (arith, at_node j k y, (b.new k t (no_param j k t y o)).0, fresh-length ts n)

      go : Ref ts n b.here r → Ref ts n b.here q → r ≡ q
      go (root l o) (root m x) = sym (at_root r l) ∙ same ∙ at_root q m
      go (root l o) (fresh d m y) = absurd (omega (arith, same, at_root r l, at_fresh q d m y))
      go (root l o) (node k t y) = absurd (omega (arith, same, at_root r l, behind q k t y pq))
      go (fresh d m y) (root l o) = absurd (omega (arith, same, at_root q l, at_fresh r d m y))
      go (fresh d m y) (fresh c l z) = omega (arith, same, at_fresh r d m y, at_fresh q c l z)
      go (fresh d m y) (node k t z) = absurd (omega (arith, same, at_fresh r d m y, behind q k t z pq))
      go (node k t y) (root l o) = absurd (omega (arith, same, at_root q l, behind r k t y pr))
      go (node k t y) (fresh d m z) = absurd (omega (arith, same, at_fresh q d m z, behind r k t y pr))
      go (node k t y) (node j u z) = omega (arith, b.one k j t u (no_param r k t y pr) (no_param q j u z pq) (sym (at_node r k y) ∙ same ∙ at_node q j z))

  -- Where all refs stand.
  unfoldable stage : Stage s (chain s h) ws
  stage = record {
    table = us;
    live = live;
    to = to;
    run = record { formed = left.proper.formed; readable = left.proper.kept; roots = left.upright };
    low = low_ref;
    inside = inside;
    param = param_ref;
    own = λ r e q. let o = own r e q in (o.is ∙ ap (λ (t : Ty). (false, t.1)) (sym o.is), ap (λ (t : Ty). (node_at us t.1).up) o.is ∙ o.up ∙ sym o.is);
    one = one_ref;
    size = λ r e q. let o = own r e q in ap (λ (t : Ty). size_at us t.1) o.is ∙ o.size;
    none = λ r e q z. let o = own r e q in ap (λ (t : Ty). state_at us t.1) o.is ∙ o.none z;
    some = λ r e q z. let o = own r e q in subst (λ (t : Ty). Shown to live us t.1 (side_of s (chain s h) ws r) (kind_word s (chain s h) ws r) (id_word s (chain s h) ws r) (kids s (chain s h) ws r)) (sym o.is) (o.some z);
  }

  -- The arguments are those of their words.
  own_kin : (l : Words) → xs ≡ map type_of_word l → Kin to live us res.0 (map (λ w. 2048 + w % 2048) l)
  own_kin l e = subst (λ (cs : List Ty). Kin to live us cs (map (λ w. 2048 + w % 2048) l)) (sym b.came) (subst (Kin to live us (map (carried b.at) xs)) (ap (map (λ (c : Ty). 2048 + word_of_type c % 2048)) e ∙ words_again (λ w. 2048 + w % 2048) l) (node_kin xs b.all))

  asked_kin : (l : Words) → AllIn (length ts) (map type_of_word l) → Kin to live us (map type_of_word l) (map (λ w. word_of_type (find ts (type_of_word w))) l)
  asked_kin l a = subst (Kin to live us (map type_of_word l)) (map-after (λ (c : Ty). word_of_type (find ts c)) l) (root_kin (map type_of_word l) a)

-- Where `unify_impl_type` succeeds, the join of the arguments does.
each_won : (s : Words) (ts : Types) (a b : ImplType) → (unify_impl_type s ts a b).0 ≡ success → Won (unify_each (unify s) ts a.1 b.1).0
unfolding unify_impl_type unify_types
each_won s ts a b won = go (eqb a.0 0 || eqb b.0 0) refl (eqb a.0 b.0) refl (eqb (length a.1) (length b.1)) refl (subst Won (sym won) tt)
  where
    go : (o : Bool) → (eqb a.0 0 || eqb b.0 0) ≡ o → (p : Bool) → eqb a.0 b.0 ≡ p → (q : Bool) → eqb (length a.1) (length b.1) ≡ q → Won (unify_impl_type s ts a b).0 → Won (unify_each (unify s) ts a.1 b.1).0
    go true e p e' q e'' w = absurd (rw (e, unify_impl_type) at w)
    go false e false e' q e'' w = absurd (rw (e, e', unify_impl_type) at w)
    go false e true e' false e'' w = absurd (rw (e, e', unify_impl_type, e'', unify_types) at w)
    go false e true e' true e'' w = rw (e, e', unify_impl_type, e'', unify_types) at w

-- A candidate whose signature unifies with the question.
module _ (s : Words) (sound : Sound s) (i : ℕ) (h : i < many s header_impls) (ws : Words) (q : Query) (neat : Neat (types_of ws)) (inside : AllIn (length (types_of ws)) (query_of q).1) (won : (met s (types_of ws) (query_of q) i).0 ≡ success) where
  short : length (chain s (impl_table s i)) ≤ 1024
  unfolding impl_table
  short = omega (arith, impl_few s sound.ready.chains i h, sound.short)

  most : fresh_count s i ≤ 8
  unfolding type_params impl_generics
  most = params_few s sound i h (impl_generics s i) (fresh_count s i) refl refl

  at_own : (a : Query) → (query_of a).1 ≡ cell_types s (impl_args s i) → a.n ≡ q.n → Brought s (chain s (impl_table s i)) ws a q
  unfolding stage impl_signature query_of
  at_own a ea en =
      let b = candidate_placed (finder s sound) sound.question sound.ready (types_of ws) i h in
      let o = signature_brought (finder s sound) sound.question sound.ready (types_of ws) (query_of q) neat inside i h in
      let low = signature_below (finder s sound) sound.question sound.ready i h in
      let res : List Ty × Types = ((signed s (types_of ws) i).0.1, (signed s (types_of ws) i).1) in
      record {
        stage = stage s ws (impl_table s i) (fresh_count s i) short most neat low (cell_types s (impl_args s i)) res o.neat b;
        left = (signed s (types_of ws) i).0.1;
        right = (query_of q).1;
        left_kin = own_kin s ws (impl_table s i) (fresh_count s i) short most neat low (cell_types s (impl_args s i)) res o.neat b (take q.n (four a.args)) (sym ea ∙ ap (λ k. map type_of_word (take k (four a.args))) en);
        right_kin = asked_kin s ws (impl_table s i) (fresh_count s i) short most neat low (cell_types s (impl_args s i)) res o.neat b (take q.n (four q.args)) inside;
        won = each_won s (signed s (types_of ws) i).1 (signed s (types_of ws) i).0 (query_of q) won;
      }

  -- head is that of its table, and args of its arguments; a are these in words.
  pub candidate_brought : (head : ℕ) → head ≡ field s header_impls i impl_table_word → (tr args : ℕ) (a : Query) → args ≡ field s header_impls i impl_args_word → query_of a ≡ (tr, cell_types s args) → a.n ≡ q.n → Brought s (chain s head) ws a q
  unfolding impl_table impl_args
  candidate_brought head eh tr args a ea e en = subst (λ k. Brought s (chain s k) ws a q) (sym eh) (at_own a (ap (λ (y : ImplType). y.1) e ∙ ap (cell_types s) ea) en)
