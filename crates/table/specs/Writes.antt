-- Laws of the writers: a node's words are stored, and the table has that node.
use Prim.Native.Nat.{ℕ, zero, suc, ◌+◌, ◌*◌, ◌/◌, ◌%◌, ◌≤◌, ◌<◌, min}
use Rattle.std.specs.Prelude.{◌≡◌, refl, Bool, true, false, List, [], ◌∷◌, ◌++◌, map, ◌≢◌, eqb, length, set, take}
use Rattle.std.proofs.Common.{sym, ◌∙◌, subst, arith, length-set, get_or-set_same, get_or-set_other, ne_eqb}
use Rattle.std.proofs.Math.Path.{ap, ap₂}
use Rattle.rules.specs.Lists.{Words, bit}
use Rattle.rules.specs.Limits.{limit_nodes}
use Rattle.rules.specs.Sheet.{at}
use Rattle.rules.specs.Types.{Ty, TypeState, unknown, known, TypeNode, Types, new_node, size_at}
use Rattle.rules.specs.Transfer.{type_of_word}
use Rattle.rules.specs.Solutions.{rep}
use Rattle.table.specs.Packing.{up_to, eight, state_of, id_from, node_from, node_of, with_head, types_of, Counted, Packed, Put, Rewritten, Pushes, Becomes, Head, Above, TypeWords}
use Rattle.table.specs.Nodes.{up_to-same, up_to-set, types_length, types_few}
use Rattle.table.specs.Classes.{counted_push, counted-set}

-- Four words are stored from place 4 * n + 1 on.
module _ (ws : Words) (n h x y z : ℕ) (few : n < 256) (long : 1025 ≤ length ws) where
  abbrev s₁ : Words
  s₁ = set ws (4 * n + 1) h

  abbrev s₂ : Words
  s₂ = set s₁ (4 * n + 2) x

  abbrev s₃ : Words
  s₃ = set s₂ (4 * n + 3) y

  abbrev s₄ : Words
  s₄ = set s₃ (4 * n + 4) z

  four-length : length s₄ ≡ length ws
  four-length = simp length-set

  four_off : (i : ℕ) → i ≢ 4 * n + 1 → i ≢ 4 * n + 2 → i ≢ 4 * n + 3 → i ≢ 4 * n + 4 → at s₄ i ≡ at ws i
  four_off i e₁ e₂ e₃ e₄ = get_or-set_other s₃ (4 * n + 4) i z 0 e₄ ∙ get_or-set_other s₂ (4 * n + 3) i y 0 e₃ ∙ get_or-set_other s₁ (4 * n + 2) i x 0 e₂ ∙ get_or-set_other ws (4 * n + 1) i h 0 e₁

  four_beside : (m j : ℕ) → m ≢ n → 1 ≤ j → j ≤ 4 → at s₄ (4 * m + j) ≡ at ws (4 * m + j)
  four_beside m j e a b = four_off (4 * m + j) (omega arith) (omega arith) (omega arith) (omega arith)

  four_1 : at s₄ (4 * n + 1) ≡ h
  four_1 =
      get_or-set_other s₃ (4 * n + 4) (4 * n + 1) z 0 (omega arith) ∙ get_or-set_other s₂ (4 * n + 3) (4 * n + 1) y 0 (omega arith) ∙ get_or-set_other s₁ (4 * n + 2) (4 * n + 1) x 0 (omega arith) ∙ get_or-set_same ws (4 * n + 1) h 0 (omega arith)

  four_2 : at s₄ (4 * n + 2) ≡ x
  four_2 =
      get_or-set_other s₃ (4 * n + 4) (4 * n + 2) z 0 (omega arith) ∙ get_or-set_other s₂ (4 * n + 3) (4 * n + 2) y 0 (omega arith) ∙ get_or-set_same s₁ (4 * n + 2) x 0 (simp length-set (omega arith))

  four_3 : at s₄ (4 * n + 3) ≡ y
  four_3 =
      get_or-set_other s₃ (4 * n + 4) (4 * n + 3) z 0 (omega arith) ∙ get_or-set_same s₂ (4 * n + 3) y 0 (simp length-set (omega arith))

  four_4 : at s₄ (4 * n + 4) ≡ z
  four_4 =
      get_or-set_same s₃ (4 * n + 4) z 0 (simp length-set (omega arith))

  four_there : node_of s₄ n ≡ node_from h x y z
  unfolding node_of
  four_there = cc (four_1, four_2, four_3, four_4)

-- Nodes that are the same in all four words.
pub node-same : (ws us : Words) (m : ℕ) → ((j : ℕ) → 1 ≤ j → j ≤ 4 → at us (4 * m + j) ≡ at ws (4 * m + j)) → node_of us m ≡ node_of ws m
unfolding node_of
node-same ws us m e = cc (e 1 (omega arith) (omega arith), e 2 (omega arith) (omega arith), e 3 (omega arith) (omega arith), e 4 (omega arith) (omega arith))

-- The four stores, w being the number of the node.
pub put_four : (ws : Words) (n w h x y z : ℕ) → w ≡ n → n < 256 → 1025 ≤ length ws → Put ws (set (set (set (set ws (4 * w + 1) h) (4 * w + 2) x) (4 * w + 3) y) (4 * w + 4) z) n (node_from h x y z)
put_four ws n w h x y z e few long = rw e (record {
  len = four-length ws n h x y z few long;
  count = four_off ws n h x y z few long 0 (omega arith) (omega arith) (omega arith) (omega arith);
  there = four_there ws n h x y z few long;
  rest = λ m q. node-same ws (s₄ ws n h x y z few long) m (λ j a b. four_beside ws n h x y z few long m j q a b);
})

-- The head alone is stored.
pub put_head : (ws : Words) (n w h : ℕ) → w ≡ n → n < 256 → 1025 ≤ length ws → Put ws (set ws (4 * w + 1) h) n (with_head h ws n)
unfolding node_of with_head
put_head ws n w h e few long = rw e (record {
  len = length-set ws (4 * n + 1) h;
  count = get_or-set_other ws (4 * n + 1) 0 h 0 (omega arith);
  there = cc (get_or-set_same ws (4 * n + 1) h 0 (omega arith), off 2 (omega arith), off 3 (omega arith), off 4 (omega arith));
  rest = λ m q. node-same ws (set ws (4 * n + 1) h) m (λ j a b. get_or-set_other ws (4 * n + 1) (4 * m + j) h 0 (omega arith));
})
  where
    off : (j : ℕ) → j ≢ 1 → at (set ws (4 * n + 1) h) (4 * n + j) ≡ at ws (4 * n + j)
    off j q = get_or-set_other ws (4 * n + 1) (4 * n + j) h 0 (omega arith)

-- A node of the table is written.
pub put-node : (ws us : Words) (n : ℕ) (nd : TypeNode) → n < length (types_of ws) → Put ws us n nd → Rewritten ws us (set (types_of ws) n nd)
unfolding types_of
put-node ws us n nd h p = record {
  len = p.len;
  count = p.count;
  is =
      ap (λ c. up_to (node_of us) (min c limit_nodes)) p.count
      ∙ up_to-set (new_node 0 unknown) (node_of ws) (node_of us) (min (at ws 0) limit_nodes) n (omega (arith, types_length ws)) p.rest
      ∙ ap (set (types_of ws) n) p.there;
}

-- A node is written behind the last, and counted. c is the count.
module _ (ws us : Words) (c : ℕ) (nd : TypeNode) (ec : c ≡ length (types_of ws)) (low : c < 256) (g : Packed ws) (p : Put ws us c nd) where
  node-counted : (m : ℕ) → node_of (set us 0 (c + 1)) m ≡ node_of us m
  node-counted m = node-same us (set us 0 (c + 1)) m (λ j a b. get_or-set_other us 0 (4 * m + j) (c + 1) 0 (omega arith))

  counted_first : at (set us 0 (c + 1)) 0 ≡ c + 1
  counted_first = get_or-set_same us 0 (c + 1) 0 (omega (arith, p.len, g.long))

  push_types : types_of (set us 0 (c + 1)) ≡ types_of ws ++ (nd ∷ [])
  unfolding types_of up_to
  push_types =
      let q : min (at (set us 0 (c + 1)) 0) limit_nodes ≡ suc c = omega (arith, counted_first) in
      let q' : c ≡ min (at ws 0) limit_nodes = omega (arith, types_length ws) in
      ap (up_to (node_of (set us 0 (c + 1)))) q
      ∙ ap₂ (λ (l : Types) (x : TypeNode). l ++ (x ∷ [])) (up_to-same (node_of (set us 0 (c + 1))) (node_of ws) c (λ i l. node-counted i ∙ p.rest i (omega arith)) ∙ ap (up_to (node_of ws)) q') (node-counted c ∙ p.there)

pub push_room : (ws us : Words) (c : ℕ) (st : TypeState) → c ≡ length (types_of ws) → c < 256 → Packed ws → Put ws us c (new_node c st) → Pushes ws (set us 0 (c + 1)) st c
push_room ws us c st ec low g p = record {
  packed = record {
    long = omega (arith, length-set us 0 (c + 1), p.len, g.long);
    few = omega (arith, counted_first ws us c (new_node c st) ec low g p);
    counted = subst Counted (sym whole) (counted_push (types_of ws) st g.counted);
  };
  number = ec;
  room = λ h. push_types ws us c (new_node c st) ec low g p;
  full = λ h. absurd (omega arith);
}
  where
    whole : types_of (set us 0 (c + 1)) ≡ types_of ws ++ (new_node (length (types_of ws)) st ∷ [])
    whole = push_types ws us c (new_node c st) ec low g p ∙ ap (λ n. types_of ws ++ (new_node n st ∷ [])) ec

pub push_full : (ws : Words) (c : ℕ) (st : TypeState) → c ≡ length (types_of ws) → 256 ≤ c → Packed ws → Pushes ws ws st c
push_full ws c st ec high g = record { packed = g; number = ec; room = λ h. absurd (omega arith); full = λ h. refl }

-- A head from its fields.
pub head_of : (k u size m i : ℕ) → k < 16 → u < 512 → size < 512 → m < 16 → i ≤ 1 → Head (k + 16 * i + (32 * m + 512 * (u + 512 * size))) k u size m (eqb i 1)
head_of k u size m i hk hu hs hm hi = record {
  kind = omega arith;
  up_word = omega arith;
  size_word = omega arith;
  arity = omega arith;
  inverted = ap (λ j. eqb j 1) (let q : (k + 16 * i + (32 * m + 512 * (u + 512 * size))) / 16 % 2 ≡ i = omega arith in q);
}

-- The node that a head and other words are.
pub head_node : (h k u size m : ℕ) (i : Bool) (x y z : ℕ) → Head h k u size m i → node_from h x y z ≡ record { up = type_of_word u; state = state_of k i (id_from m z) (take m (eight x y z)); size = size }
unfolding node_from
head_node h k u size m i x y z e = cc (e.kind, e.up_word, e.size_word, e.arity, e.inverted)

-- Three type words to a word.
abbrev pub triple : Words → ℕ → ℕ
triple cs i = at cs i + (512 * at cs (i + 1) + 262144 * at cs (i + 2))

-- The last two, and the id above them; the id alone where there are no children.
unfoldable pub last : Words → ℕ → ℕ
last [] d = d
last (c ∷ cs) d = at (c ∷ cs) 6 + (512 * at (c ∷ cs) 7 + 262144 * d)

pub last_none : (cs : Words) (d : ℕ) → length cs ≡ 0 → d ≡ last cs d
unfolding last
last_none [] d e = refl
last_none (c ∷ cs) d e = absurd (omega arith)

pub last_some : (cs : Words) (d a b : ℕ) → length cs ≢ 0 → a ≡ at cs 6 → b ≡ at cs 7 → a + (512 * b + 262144 * d) ≡ last cs d
unfolding last
last_some [] d a b z ea eb = absurd (z refl)
last_some (c ∷ cs) d a b z ea eb = ap₂ (λ x y. x + (512 * y + 262144 * d)) ea eb

pub above_small : (cs : Words) (d : ℕ) → Above d (length cs) → length cs ≢ 0 → d < 4096
above_small cs d h z = h.small (omega arith)

-- Up to eight types, so packed.
eight_of : (cs : Words) (d : ℕ) → length cs ≤ 8 → TypeWords cs → take (length cs) (eight (triple cs 0) (triple cs 3) (at cs 6 + (512 * at cs 7 + 262144 * d))) ≡ map type_of_word cs
unfolding eight
eight_of cs d h s = go cs h s.small
  where
    three : (a b c : ℕ) → a < 512 → b < 512 → c < 512 → ((a + (512 * b + 262144 * c)) % 512 ≡ a) × ((a + (512 * b + 262144 * c)) / 512 % 512 ≡ b) × ((a + (512 * b + 262144 * c)) / 262144 % 512 ≡ c)
    three a b c ha hb hc = (omega arith, omega arith, omega arith)

    two : (a b : ℕ) → a < 512 → b < 512 → ((a + (512 * b + 262144 * d)) % 512 ≡ a) × ((a + (512 * b + 262144 * d)) / 512 % 512 ≡ b)
    two a b ha hb = (omega arith, omega arith)

    go : (cs : Words) → length cs ≤ 8 → ((j : ℕ) → at cs j < 512) → take (length cs) (eight (triple cs 0) (triple cs 3) (at cs 6 + (512 * at cs 7 + 262144 * d))) ≡ map type_of_word cs
    go cs h s =
        let p = three (at cs 0) (at cs 1) (at cs 2) (s 0) (s 1) (s 2) in
        let q = three (at cs 3) (at cs 4) (at cs 5) (s 3) (s 4) (s 5) in
        let r = two (at cs 6) (at cs 7) (s 6) (s 7) in
        cc (p.0, p.1, p.2, q.0, q.1, q.2, r.0, r.1, firsts cs h)
      where
        firsts : (cs : Words) → length cs ≤ 8 → take (length cs) (type_of_word (at cs 0) ∷ type_of_word (at cs 1) ∷ type_of_word (at cs 2) ∷ type_of_word (at cs 3) ∷ type_of_word (at cs 4) ∷ type_of_word (at cs 5) ∷ type_of_word (at cs 6) ∷ type_of_word (at cs 7) ∷ []) ≡ map type_of_word cs
        firsts [] h = refl
        firsts (a ∷ []) h = refl
        firsts (a ∷ b ∷ []) h = refl
        firsts (a ∷ b ∷ c ∷ []) h = refl
        firsts (a ∷ b ∷ c ∷ d ∷ []) h = refl
        firsts (a ∷ b ∷ c ∷ d ∷ e ∷ []) h = refl
        firsts (a ∷ b ∷ c ∷ d ∷ e ∷ f ∷ []) h = refl
        firsts (a ∷ b ∷ c ∷ d ∷ e ∷ f ∷ g ∷ []) h = refl
        firsts (a ∷ b ∷ c ∷ d ∷ e ∷ f ∷ g ∷ i ∷ []) h = refl
        firsts (a ∷ b ∷ c ∷ d ∷ e ∷ f ∷ g ∷ i ∷ j ∷ cs) h = absurd (omega arith)

-- So they and the id are what the words hold.
last_id : (cs : Words) (d : ℕ) → TypeWords cs → id_from (length cs) (last cs d) ≡ d
unfolding last id_from
last_id [] d s = refl
last_id (c ∷ cs) d s = let a = s.small 6 in let b = s.small 7 in omega arith

kids_of : (cs : Words) (d : ℕ) → length cs ≤ 8 → TypeWords cs → take (length cs) (eight (triple cs 0) (triple cs 3) (last cs d)) ≡ map type_of_word cs
unfolding last
kids_of [] d h s = refl
kids_of (c ∷ cs) d h s = eight_of (c ∷ cs) d h s

pub put_is : (ws us : Words) (n : ℕ) (nd nd' : TypeNode) → nd ≡ nd' → Put ws us n nd → Put ws us n nd'
put_is ws us n nd nd' e p = subst (λ x. Put ws us n x) e p

pub even_type : (n : ℕ) → type_of_word (2 * n) ≡ (false, n)
unfolding type_of_word
even_type n =
    let a : 2 * n % 2 ≢ 1 = λ (e : 2 * n % 2 ≡ 1). omega arith in
    let b : 2 * n / 2 ≡ n = omega arith in
    ap₂ {C = Ty} (λ (b : Bool) (m : ℕ). (b, m)) (ne_eqb (2 * n % 2) 1 a) b

-- A new unknown is written: its head says all.
pub wrote_unknown : (ws us : Words) (n h : ℕ) (i : Bool) → Head h 0 (2 * n) 1 0 i → Put ws us n (with_head h ws n) → Put ws us n (new_node n unknown)
unfolding state_of new_node with_head
wrote_unknown ws us n h i e p = put_is ws us n (with_head h ws n) (new_node n unknown) (head_node h 0 (2 * n) 1 0 i _ _ _ e ∙ ap (λ (t : Ty). record { up = t; state = unknown; size = 1 }) (even_type n)) p

state_known : (k : ℕ) (i : Bool) (d : ℕ) (cs : List Ty) → k ≢ 0 → state_of k i d cs ≡ known i k d cs
unfolding state_of
state_known zero i d cs z = absurd (z refl)
state_known (suc k) i d cs z = refl

pub bit-back : (b : Bool) (i : ℕ) → i ≡ bit b → eqb i 1 ≡ b
bit-back true i e = ap (λ j. eqb j 1) e
bit-back false i e = ap (λ j. eqb j 1) e

-- A new known type is written: x, y, z hold its children and its id.
pub wrote_known : (ws us cs : Words) (n h k d i m x y z : ℕ) (b : Bool) → i ≡ bit b → m ≡ length cs → Head h k (2 * n) 1 m (eqb i 1) → k ≢ 0 → length cs ≤ 8 → TypeWords cs → x ≡ triple cs 0 → y ≡ triple cs 3 → z ≡ last cs d → Put ws us n (node_from h x y z) → Put ws us n (new_node n (known b k d (map type_of_word cs)))
unfolding new_node
wrote_known ws us cs n h k d i m x y z b ei em e nz few small ex ey ez p =
    let kids : take m (eight x y z) ≡ map type_of_word cs = cc (kids_of cs d few small) in
    let id : id_from m z ≡ d = cc (last_id cs d small) in
    put_is ws us n (node_from h x y z) (new_node n (known b k d (map type_of_word cs)))
    (head_node h k (2 * n) 1 m (eqb i 1) x y z e ∙ cc (even_type n, state_known k b d (map type_of_word cs) nz, bit-back b i ei, kids, id)) p

-- A root is stored anew.
pub set_root : (ws us : Words) (n : ℕ) (st : TypeState) → Packed ws → n < length (types_of ws) → rep (types_of ws) n ≡ n → size_at (types_of ws) n ≡ 1 → Put ws us n (new_node n st) → Becomes us (set (types_of ws) n (new_node n st))
set_root ws us n st g h r z p =
    let w = put-node ws us n (new_node n st) h p in
    record {
      packed = record { long = omega (arith, w.len, g.long); few = omega (arith, w.count, g.few); counted = subst Counted (sym w.is) (counted-set (types_of ws) n st h r z g.counted) };
      is = w.is;
    }

-- What a writer needs of a table.
pub node_low : (ws : Words) (n : ℕ) → n < length (types_of ws) → n < 256
node_low ws n h = omega (arith, types_few ws)

pub type_small : (cs : Words) (i r : ℕ) → TypeWords cs → r ≡ at cs i → r < 512
type_small cs i r s e = omega (arith, s.small i)
