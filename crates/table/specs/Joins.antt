-- Laws of joining: a class is relabelled node by node, and its new root gets what is known of either and the size of both.
use Prim.Native.Nat.{ℕ, zero, suc, ◌+◌, ◌*◌, ◌/◌, ◌%◌, ◌≤◌, ◌<◌}
use Rattle.std.specs.Prelude.{◌≡◌, Bool, ◌≢◌, eqb, get_or, take}
use Rattle.std.proofs.Math.Path.{refl, sym, ap, ap₂}
use Rattle.std.proofs.Common.{◌∙◌, subst, ⊎_elim, le_of_suc-le-suc, not-suc-le-zero, add-one, arith, length-set, ext_get_or, eq-eqb, ne_eqb, lt-ltb, le-ltb}
use Rattle.std.proofs.Math.Bool.{true, false}
use mathlib.Core.List.{List, [], ◌∷◌, map}
use Rattle.std.proofs.Math.Decide.{ℕ_discrete}
use Rattle.std.proofs.Math.ListN.{length, set}
use Rattle.std.proofs.lemmas.List.{set-get_or}
use Rattle.rules.specs.Lists.{Words, bit}
use Rattle.rules.specs.Sheet.{at}
use Rattle.rules.specs.Types.{Ty, TypeState, unknown, known, TypeNode, Types, new_node, node_at, xor, invert_if, invert_state, state_at, size_at, relabel, or_else, hang, larger, join}
use Rattle.rules.specs.Transfer.{type_of_word}
use Rattle.rules.specs.Answer.{word_of_type}
use Rattle.rules.specs.Solutions.{rep}
use Rattle.rules.specs.Joining.{map-length}
use Rattle.rules.specs.Pigeonholes.{lt_or}
use Rattle.table.specs.Reads.{unknown_here}
use Rattle.table.specs.Packing.{head_kind, head_size, head_arity, head_inverted, eight, state_of, id_from, node_from, node_of, with_head, types_of, up_at, kind_at, kind_in, members, Counted, Packed, Put, Rewritten, Becomes, Roots, Head}
use Rattle.table.specs.Nodes.{type_word, types_few, node_in, node_past}
use Rattle.table.specs.Classes.{alone, relabel_state, map-node, set_there, set_beside, sizes_most, counted-hang}
use Rattle.table.specs.Writes.{put_is, put-node, head_node, even_type, bit-back}

-- A node as type t of its root.
unfoldable pub moved : Ty → TypeNode → TypeNode
moved t nd = record { up = t; state = nd.state; size = nd.size }

-- The head that says so.
up_head : (h u : ℕ) → u < 512 → Head (h % 512 + 512 * (u + 512 * (h / 262144 % 512))) (head_kind h) u (head_size h) (head_arity h) (head_inverted h)
up_head h u l = record {
  kind = omega arith;
  up_word = omega arith;
  size_word = omega arith;
  arity = omega arith;
  inverted = ap (λ j. eqb j 1) (let q : (h % 512 + 512 * (u + 512 * (h / 262144 % 512))) / 16 % 2 ≡ h / 16 % 2 = omega arith in q);
}

node_here : (ws : Words) (n h : ℕ) → n < length (types_of ws) → h ≡ at ws (4 * n + 1) → node_at (types_of ws) n ≡ with_head h ws n
unfolding node_of with_head
node_here ws n h l e = node_in ws n l ∙ ap (λ g. with_head g ws n) (sym e)

from_moved : (h x y z : ℕ) (t : Ty) → moved t (node_from h x y z) ≡ record { up = t; state = state_of (head_kind h) (head_inverted h) (id_from (head_arity h) z) (take (head_arity h) (eight x y z)); size = head_size h }
unfolding node_from moved
from_moved h x y z t = refl

pub set_up : (ws us : Words) (n h u : ℕ) → n < length (types_of ws) → u < 512 → h ≡ at ws (4 * n + 1) → Put ws us n (with_head (h % 512 + 512 * (u + 512 * (h / 262144 % 512))) ws n) → Rewritten ws us (set (types_of ws) n (moved (type_of_word u) (node_at (types_of ws) n)))
unfolding moved with_head
set_up ws us n h u l lu eh p =
    put-node ws us n (moved (type_of_word u) (node_at (types_of ws) n)) l (put_is ws us n _ (moved (type_of_word u) (node_at (types_of ws) n)) whole p)
  where
    whole : with_head (h % 512 + 512 * (u + 512 * (h / 262144 % 512))) ws n ≡ moved (type_of_word u) (node_at (types_of ws) n)
    whole = head_node _ (head_kind h) u (head_size h) (head_arity h) (head_inverted h) (at ws (4 * n + 2)) (at ws (4 * n + 3)) (at ws (4 * n + 4)) (up_head h u lu)
        ∙ sym (ap (moved (type_of_word u)) (node_here ws n h l eh) ∙ from_moved h (at ws (4 * n + 2)) (at ws (4 * n + 3)) (at ws (4 * n + 4)) (type_of_word u))

-- The first i nodes of a table, changed.
unfoldable pub firsts : (TypeNode → TypeNode) → ℕ → Types → Types
firsts f zero ts = ts
firsts f (suc i) [] = []
firsts f (suc i) (nd ∷ ts) = f nd ∷ firsts f i ts

module _ (f : TypeNode → TypeNode) where
  pub firsts-length : (i : ℕ) (ts : Types) → length (firsts f i ts) ≡ length ts
  unfolding firsts
  firsts-length zero ts = refl
  firsts-length (suc i) [] = refl
  firsts-length (suc i) (nd ∷ ts) = ap suc (firsts-length i ts)

  firsts_at : (i : ℕ) (ts : Types) (d : TypeNode) → get_or (firsts f i ts) i d ≡ get_or ts i d
  unfolding firsts
  firsts_at zero ts d = refl
  firsts_at (suc i) [] d = refl
  firsts_at (suc i) (nd ∷ ts) d = firsts_at i ts d

  firsts_step : (i : ℕ) (ts : Types) (d : TypeNode) → i < length ts → set (firsts f i ts) i (f (get_or ts i d)) ≡ firsts f (suc i) ts
  unfolding firsts
  firsts_step zero [] d h = absurd (not-suc-le-zero h)
  firsts_step zero (nd ∷ ts) d h = refl
  firsts_step (suc i) [] d h = absurd (not-suc-le-zero h)
  firsts_step (suc i) (nd ∷ ts) d h = ap (λ (l : Types). f nd ∷ l) (firsts_step i ts d (le_of_suc-le-suc h))

  firsts-all : (i : ℕ) (ts : Types) → length ts ≤ i → firsts f i ts ≡ map f ts
  unfolding firsts
  firsts-all zero [] h = refl
  firsts-all zero (nd ∷ ts) h = absurd (not-suc-le-zero h)
  firsts-all (suc i) [] h = refl
  firsts-all (suc i) (nd ∷ ts) h = ap (λ (l : Types). f nd ∷ l) (firsts-all i ts (le_of_suc-le-suc h))

-- u is which type of its root node n is.
up_type : (ts : Types) (n u : ℕ) → u ≡ word_of_type (up_at ts n) → (node_at ts n).up ≡ type_of_word u
unfolding up_at
up_type ts n u e = sym (ap type_of_word e ∙ type_word (node_at ts n).up)

up_root : (ts : Types) (n u : ℕ) → u ≡ word_of_type (up_at ts n) → (node_at ts n).up.1 ≡ u / 2
unfolding type_of_word
up_root ts n u e = ap (λ t. t.1) (up_type ts n u e)

relabel_other : (lo : ℕ) (t : Ty) (nd : TypeNode) → nd.up.1 ≢ lo → relabel lo t nd ≡ nd
unfolding relabel
relabel_other lo t nd e = rw (ne_eqb nd.up.1 lo e, relabel)

relabel_own : (lo : ℕ) (t : Ty) (nd : TypeNode) → nd.up.1 ≡ lo → relabel lo t nd ≡ moved (invert_if nd.up.0 t) nd
unfolding relabel moved
relabel_own lo t nd e = rw (eq-eqb nd.up.1 lo e, relabel)

-- A node of another class stays as it is.
pub relabel_not : (ws : Words) (n u lo : ℕ) (t : Ty) → u ≡ word_of_type (up_at (types_of ws) n) → u / 2 ≢ lo → Rewritten ws ws (set (types_of ws) n (relabel lo t (node_at (types_of ws) n)))
unfolding node_at
relabel_not ws n u lo t e q = record {
  len = refl;
  count = refl;
  is = sym (ap (set (types_of ws) n) (relabel_other lo t (node_at (types_of ws) n) (λ z. q (sym (up_root (types_of ws) n u e) ∙ z))) ∙ set-get_or (types_of ws) n (new_node 0 unknown));
}

-- A node of the class is type v, inverted (i) or not as it was.
pub relabel_yes : (ws us : Words) (n u lo t v : ℕ) (i : Bool) → u ≡ word_of_type (up_at (types_of ws) n) → u / 2 ≡ lo → i ≡ (type_of_word u).0 → v ≡ word_of_type (invert_if i (type_of_word t)) → Rewritten ws us (set (types_of ws) n (moved (type_of_word v) (node_at (types_of ws) n))) → Rewritten ws us (set (types_of ws) n (relabel lo (type_of_word t) (node_at (types_of ws) n)))
relabel_yes ws us n u lo t v i e q ei ev w = record {
  len = w.len;
  count = w.count;
  is = w.is ∙ ap (set (types_of ws) n) (sym (relabel_own lo (type_of_word t) (node_at (types_of ws) n) (up_root (types_of ws) n u e ∙ q) ∙ ap (λ (x : Ty). moved x (node_at (types_of ws) n)) same));
}
  where
    same : invert_if (node_at (types_of ws) n).up.0 (type_of_word t) ≡ type_of_word v
    same = ap (λ (b : Bool). invert_if b (type_of_word t)) (ap (λ (x : Ty). x.0) (up_type (types_of ws) n u e) ∙ sym ei) ∙ sym (ap type_of_word ev ∙ type_word (invert_if i (type_of_word t)))

bit-most : (b : Bool) → bit b ≤ 1
bit-most true = omega arith
bit-most false = omega arith

pub invert_small : (t v : ℕ) (i : Bool) → t < 512 → v ≡ word_of_type (invert_if i (type_of_word t)) → v < 512
unfolding word_of_type type_of_word invert_if
invert_small t v i h e = omega (arith, bit-most (xor i (eqb (t % 2) 1)))

-- The loop over all nodes: the first i are relabelled.
pub firsts-none : (ws : Words) (f : TypeNode → TypeNode) → Rewritten ws ws (firsts f 0 (types_of ws))
unfolding firsts
firsts-none ws f = record { len = refl; count = refl; is = refl }

module _ (ws vs : Words) (n i : ℕ) (f : TypeNode → TypeNode) (en : n ≡ length (types_of ws)) (w : Rewritten ws vs (firsts f i (types_of ws))) where
  pub firsts_long : 1025 ≤ length ws → 1025 ≤ length vs
  firsts_long h = omega (arith, w.len)

  pub firsts_in : i < n → i < length (types_of vs)
  firsts_in h = omega (arith, ap length w.is, firsts-length f i (types_of ws))

  pub firsts_more : (us : Words) → i < n → Rewritten vs us (set (types_of vs) i (f (node_at (types_of vs) i))) → Rewritten ws us (firsts f (i + 1) (types_of ws))
  unfolding node_at
  firsts_more us h p = record {
    len = p.len ∙ w.len;
    count = p.count ∙ w.count;
    is =
        p.is ∙ ap (λ (l : Types). set l i (f (get_or l i (new_node 0 unknown)))) w.is ∙ ap (λ nd. set (firsts f i (types_of ws)) i (f nd)) (firsts_at f i (types_of ws) (new_node 0 unknown))
        ∙ firsts_step f i (types_of ws) (new_node 0 unknown) (omega arith) ∙ ap (λ k. firsts f k (types_of ws)) (sym (add-one i));
  }

  pub firsts_done : n ≤ i → Rewritten ws vs (map f (types_of ws))
  firsts_done h = record { len = w.len; count = w.count; is = w.is ∙ firsts-all f i (types_of ws) (omega arith) }

-- The root alone of a class of one.
relabel_root : (ts : Types) (lo : ℕ) (t : Ty) → members ts lo ≡ 1 → lo < length ts → rep ts lo ≡ lo → set ts lo (relabel lo t (node_at ts lo)) ≡ map (relabel lo t) ts
unfolding node_at
relabel_root ts lo t one h e = ext_get_or (new_node 0 unknown) (set ts lo (relabel lo t (node_at ts lo))) (map (relabel lo t) ts) (length-set ts lo (relabel lo t (node_at ts lo)) ∙ sym (map-length (relabel lo t) ts)) (λ i l. each i (omega (arith, length-set ts lo (relabel lo t (node_at ts lo)))))
  where
    each : (i : ℕ) → i < length ts → node_at (set ts lo (relabel lo t (node_at ts lo))) i ≡ node_at (map (relabel lo t) ts) i
    each i l = elim (ℕ_discrete i lo) [
      | yes q ↦ set_there ts (relabel lo t (node_at ts lo)) lo i h q ∙ sym (map-node (relabel lo t) ts i l ∙ ap (λ k. relabel lo t (node_at ts k)) q)
      | no q ↦ set_beside ts (relabel lo t (node_at ts lo)) lo i q ∙ sym (map-node (relabel lo t) ts i l ∙ relabel_other lo t (node_at ts i) (alone ts lo i one h e l q))
    ]

pub relabel_alone : (ws us : Words) (lo c : ℕ) (t : Ty) → Packed ws → lo < length (types_of ws) → rep (types_of ws) lo ≡ lo → c ≡ size_at (types_of ws) lo → c ≡ 1 → Rewritten ws us (set (types_of ws) lo (relabel lo t (node_at (types_of ws) lo))) → Rewritten ws us (map (relabel lo t) (types_of ws))
relabel_alone ws us lo c t g h e ec one w = record { len = w.len; count = w.count; is = w.is ∙ relabel_root (types_of ws) lo t (sym (g.counted.sizes lo h e) ∙ sym ec ∙ one) h e }

-- Node n as the root of a class: what it is, and how large.
unfoldable pub root_node : ℕ → TypeState → ℕ → TypeNode
root_node n st size = record { up = (false, n); state = st; size = size }

invert_of : (b : Bool) (k : ℕ) (i : Bool) (d : ℕ) (cs : List Ty) → invert_state b (state_of k i d cs) ≡ state_of k (xor b i) d cs
unfolding invert_state state_of
invert_of b zero i d cs = refl
invert_of b (suc k) i d cs = refl

pub copied-node : (ws us : Words) (n m h x y z : ℕ) → x ≡ at ws (4 * m + 2) → y ≡ at ws (4 * m + 3) → z ≡ at ws (4 * m + 4) → Put ws us n (node_from h x y z) → Put ws us n (with_head h ws m)
unfolding with_head
copied-node ws us n m h x y z ex ey ez p = put_is ws us n (node_from h x y z) (with_head h ws m) (cc) p

-- j says whether a state is inverted once it is inverted by b.
pub turned_head : (h g k u size m i : ℕ) (b j : Bool) → j ≡ xor b (eqb (h / 16 % 2) 1) → i ≡ bit j → Head g k u size m (eqb i 1) → Head g k u size m (xor b (eqb (h / 16 % 2) 1))
turned_head h g k u size m i b j ej ei e = subst (λ (c : Bool). Head g k u size m c) (bit-back j i ei ∙ ej) e

-- The words of node m are written at node n, with a head g of its own, inverted by b.
pub wrote_state : (ws us : Words) (n m size h g : ℕ) (b : Bool) → n < length (types_of ws) → m < length (types_of ws) → h ≡ at ws (4 * m + 1) → Head g (h % 16) (2 * n) size (h / 32 % 16) (xor b (eqb (h / 16 % 2) 1)) → Put ws us n (with_head g ws m) → Rewritten ws us (set (types_of ws) n (root_node n (invert_state b (state_at (types_of ws) m)) size))
unfolding root_node state_at node_from with_head
wrote_state ws us n m size h g b hn hm eh e p =
    put-node ws us n (root_node n (invert_state b (state_at (types_of ws) m)) size) hn
    (put_is ws us n (with_head g ws m) (root_node n (invert_state b (state_at (types_of ws) m)) size) whole p)
  where
    x : ℕ
    x = at ws (4 * m + 2)

    y : ℕ
    y = at ws (4 * m + 3)

    z : ℕ
    z = at ws (4 * m + 4)

    st : state_at (types_of ws) m ≡ state_of (h % 16) (eqb (h / 16 % 2) 1) (id_from (h / 32 % 16) z) (take (h / 32 % 16) (eight x y z))
    st = ap (λ nd. nd.state) (node_here ws m h hm eh)

    whole : with_head g ws m ≡ root_node n (invert_state b (state_at (types_of ws) m)) size
    whole =
        head_node g (h % 16) (2 * n) size (h / 32 % 16) (xor b (eqb (h / 16 % 2) 1)) x y z e
        ∙ ap₂ (λ (t : Ty) (s : TypeState). record { up = t; state = s; size = size }) (even_type n)
        (sym (invert_of b (h % 16) (eqb (h / 16 % 2) 1) (id_from (h / 32 % 16) z) (take (h / 32 % 16) (eight x y z))) ∙ ap (invert_state b) (sym st))

upright : (st : TypeState) → invert_state false st ≡ st
unfolding invert_state
upright unknown = refl
upright (known i k d cs) = refl

pub or_known : (st st' : TypeState) → kind_in st ≢ 0 → st ≡ or_else st st'
unfolding or_else kind_in
or_known unknown st' z = absurd (z refl)
or_known (known i k d cs) st' z = refl

-- What is known of either: k is the kind of node n. Where it is known it stays, else it is what node m is.
pub root_known : (ws us : Words) (n m size k : ℕ) (b : Bool) → k ≡ kind_at (types_of ws) n → k ≢ 0 → Rewritten ws us (set (types_of ws) n (root_node n (invert_state false (state_at (types_of ws) n)) size)) → Rewritten ws us (set (types_of ws) n (root_node n (or_else (state_at (types_of ws) n) (invert_state b (state_at (types_of ws) m))) size))
unfolding kind_at
root_known ws us n m size k b e z w = record {
  len = w.len;
  count = w.count;
  is = w.is ∙ ap (λ st. set (types_of ws) n (root_node n st size)) (upright (state_at (types_of ws) n) ∙ or_known (state_at (types_of ws) n) (invert_state b (state_at (types_of ws) m)) (λ q. z (e ∙ q)));
}

pub root_unknown : (ws us : Words) (n m size k : ℕ) (b : Bool) → k ≡ kind_at (types_of ws) n → k ≡ 0 → Rewritten ws us (set (types_of ws) n (root_node n (invert_state b (state_at (types_of ws) m)) size)) → Rewritten ws us (set (types_of ws) n (root_node n (or_else (state_at (types_of ws) n) (invert_state b (state_at (types_of ws) m))) size))
unfolding or_else
root_unknown ws us n m size k b e z w = record {
  len = w.len;
  count = w.count;
  is = w.is ∙ ap (λ st. set (types_of ws) n (root_node n st size)) (sym (ap (λ st. or_else st (invert_state b (state_at (types_of ws) m))) (unknown_here ws n k e z)));
}

-- The whole: relabelled, and then the root's node. us is the table between, b whether the two meet inverted.
pub state_map : (ts : Types) (lo : ℕ) (t : Ty) (n : ℕ) → state_at (map (relabel lo t) ts) n ≡ state_at ts n
unfolding state_at
state_map ts lo t n = ⊎_elim
    (λ h. ap (λ nd. nd.state) (map-node (relabel lo t) ts n h) ∙ relabel_state lo t (node_at ts n))
    (λ l. ap (λ nd. nd.state) (node_past (map (relabel lo t) ts) n (omega (arith, map-length (relabel lo t) ts)) ∙ sym (node_past ts n l)))
    (lt_or n (length ts))

module _ (ws : Words) (lo hi : ℕ) (g : Packed ws) (r : Roots (types_of ws) (type_of_word lo) (type_of_word hi)) where
  -- Sizes that are read fit a head together.
  pub sizes_fit : (a b : ℕ) → a ≡ size_at (types_of ws) (hi / 2) → b ≡ size_at (types_of ws) (lo / 2) → a + b < 512
  unfolding type_of_word
  sizes_fit a b ea eb = omega (arith, types_few ws, sizes_most (types_of ws) (type_of_word lo) (type_of_word hi) r.left_in r.right_in r.left_root r.right_root r.apart g.counted)

  -- The class that moves has its root.
  pub low_in : lo / 2 < length (types_of ws)
  unfolding type_of_word
  low_in = r.left_in

  pub low_root : rep (types_of ws) (lo / 2) ≡ lo / 2
  unfolding type_of_word
  low_root = r.left_root

  pub high_low : hi / 2 < 256
  unfolding type_of_word
  high_low = omega (arith, types_few ws, r.right_in)

  -- The nodes of both are there after the class is relabelled.
  pub moved_long : (vs : Words) (f : TypeNode → TypeNode) → Rewritten ws vs (map f (types_of ws)) → 1025 ≤ length vs
  moved_long vs f w = omega (arith, w.len, g.long)

  pub moved_high : (vs : Words) (f : TypeNode → TypeNode) → Rewritten ws vs (map f (types_of ws)) → hi / 2 < length (types_of vs)
  unfolding type_of_word
  moved_high vs f w = omega (arith, ap length w.is, map-length f (types_of ws), r.right_in)

  pub moved_low : (vs : Words) (f : TypeNode → TypeNode) → Rewritten ws vs (map f (types_of ws)) → lo / 2 < length (types_of vs)
  unfolding type_of_word
  moved_low vs f w = omega (arith, ap length w.is, map-length f (types_of ws), r.left_in)

  module _ (vs us : Words) (t size : ℕ) (b : Bool) (q : b ≡ xor (type_of_word hi).0 (type_of_word lo).0) (et : t ≡ word_of_type (b, hi / 2)) (es : size ≡ size_at (types_of ws) (hi / 2) + size_at (types_of ws) (lo / 2))
      (w : Rewritten ws vs (map (relabel (lo / 2) (type_of_word t)) (types_of ws)))
      (p : Rewritten vs us (set (types_of vs) (hi / 2) (root_node (hi / 2) (or_else (state_at (types_of vs) (hi / 2)) (invert_state b (state_at (types_of vs) (lo / 2)))) size))) where
    hung : types_of us ≡ hang (types_of ws) (type_of_word lo) (type_of_word hi)
    unfolding hang root_node type_of_word
    hung =
        let same : (n : ℕ) → state_at (types_of vs) n ≡ state_at (types_of ws) n = λ n. ap (λ (l : Types). state_at l n) w.is ∙ state_map (types_of ws) (lo / 2) (type_of_word t) n in
        let kind : type_of_word t ≡ (b, hi / 2) = ap type_of_word et ∙ type_word (b, hi / 2) in
        p.is
        ∙ ap₂ (λ (l : Types) (nd : TypeNode). set l (hi / 2) nd) (w.is ∙ ap (λ (x : Ty). map (relabel (lo / 2) x) (types_of ws)) kind) (cc (same (hi / 2), same (lo / 2)))
        ∙ ap (λ (c : Bool). set (map (relabel (lo / 2) (c, hi / 2)) (types_of ws)) (hi / 2) (root_node (hi / 2) (or_else (state_at (types_of ws) (hi / 2)) (invert_state c (state_at (types_of ws) (lo / 2)))) (size_at (types_of ws) (hi / 2) + size_at (types_of ws) (lo / 2)))) q

    pub hang_done : Becomes us (hang (types_of ws) (type_of_word lo) (type_of_word hi))
    hang_done = record {
      packed = record {
        long = omega (arith, p.len, w.len, g.long);
        few = omega (arith, p.count, w.count, g.few);
        counted = subst Counted (sym hung) (counted-hang (types_of ws) (type_of_word lo) (type_of_word hi) r.left_in r.right_in r.left_root r.right_root r.apart g.counted);
      };
      is = hung;
    }

-- Which root goes under which: n and m are the sizes of a and b.
module _ (ws us : Words) (a b n m : ℕ) (ea : n ≡ size_at (types_of ws) (a / 2)) (eb : m ≡ size_at (types_of ws) (b / 2)) where
  pub join_first : m < n → Becomes us (hang (types_of ws) (type_of_word b) (type_of_word a)) → Becomes us (join (types_of ws) (type_of_word a) (type_of_word b))
  unfolding join larger type_of_word
  join_first h w = record { packed = w.packed; is = w.is ∙ sym (ap (λ (c : Bool). elim c [ true ↦ hang (types_of ws) (type_of_word b) (type_of_word a) | false ↦ hang (types_of ws) (type_of_word a) (type_of_word b) ]) (lt-ltb (size_at (types_of ws) (b / 2)) (size_at (types_of ws) (a / 2)) (omega arith))) }

  pub join_second : n ≤ m → Becomes us (hang (types_of ws) (type_of_word a) (type_of_word b)) → Becomes us (join (types_of ws) (type_of_word a) (type_of_word b))
  unfolding join larger type_of_word
  join_second h w = record { packed = w.packed; is = w.is ∙ sym (ap (λ (c : Bool). elim c [ true ↦ hang (types_of ws) (type_of_word b) (type_of_word a) | false ↦ hang (types_of ws) (type_of_word a) (type_of_word b) ]) (le-ltb (size_at (types_of ws) (b / 2)) (size_at (types_of ws) (a / 2)) (omega arith))) }

pub roots_flip : (ts : Types) (x y : Ty) → Roots ts x y → Roots ts y x
roots_flip ts x y r = record { left_in = r.right_in; right_in = r.left_in; left_root = r.right_root; right_root = r.left_root; apart = λ e. r.apart (sym e) }

pub type_small : (b : Bool) (n r : ℕ) → n < 256 → r ≡ word_of_type (b, n) → r < 512
unfolding word_of_type
type_small b n r h e = omega (arith, bit-most b)

pub made_type : (b : Bool) (n i : ℕ) → i ≡ bit b → 2 * n + i ≡ word_of_type (b, n)
unfolding word_of_type
made_type b n i e = ap (λ k. 2 * n + k) e

pub opposed_types : (a b : ℕ) (i j r : Bool) → i ≡ (type_of_word a).0 → j ≡ (type_of_word b).0 → r ≡ xor i j → r ≡ xor (type_of_word a).0 (type_of_word b).0
opposed_types a b i j r ei ej e = e ∙ ap₂ (λ (x y : Bool). xor x y) ei ej
