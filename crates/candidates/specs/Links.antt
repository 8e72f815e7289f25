-- The rows of the edges: row x at `rows_links` says to which nodes an edge leads from node x, row x at `rows_open` to which an edge leads whose vis lets the source in.
use Prim.Native.Nat.{ℕ, zero, suc, ◌+◌, ◌*◌, ◌-◌, ◌/◌, ◌%◌, ◌^◌, ◌≤◌, ◌<◌}
use Rattle.std.specs.Prelude.{◌≡◌, Bool, true, false, ◌||◌, ◌&&◌, ◌⊎◌, ◌≢◌, ltb, eqb, length, set}
use Rattle.std.proofs.Math.Path.{refl, sym, ap, subst}
use Rattle.std.proofs.Common.{◌∙◌, ap₂, append_assoc, append-nil, inl, inr, not-suc-le-zero, one-mul, mod-eq_of_lt, arith, get_or-set_same, ltb-true, eqb-true, eq-eqb, ne_eqb}
use mathlib.Core.List.{List, [], ◌∷◌, ◌++◌, map}
use Rattle.std.proofs.Math.Logic.{⊎_elim}
use Rattle.std.proofs.Math.Nat.{zero-div, suc-sub-suc, sub-zero}
use Rattle.std.specs.Int.Bits.{bit_or}
use Rattle.std.proofs.Math.Pow.{pow-lt}
use Rattle.std.proofs.Math.Seq.{get_or-set_other}
use Rattle.std.proofs.lemmas.Bool.{eqb-false}
use Rattle.rules.specs.Lists.{Words, any, concat_map, optional, optional_list}
use Rattle.rules.specs.Layout.{header_definitions, header_prelude, header_impls, flag_named}
use Rattle.rules.specs.Sheet.{at, chain, field, parent, trait_vis, def_trait, bindings, named_members, implicit_members, trait_def, import_def, impl_flag, impl_trait}
use Rattle.rules.specs.Candidates.{Edge, direct, within_def, get_member, member_edges, binding_edges, for_each_child, edges}
use Rattle.rules.proofs.Components.{edges-direct, edges-within, edges-ancestors}
use Rattle.candidates.specs.Layout.{rows_links, rows_open, rows_reach, rows_end, candidates_length}
use Rattle.candidates.specs.Bits.{bit, on, bit-bit_or, bit_power, with_bit}
use Rattle.candidates.specs.Index.{Indexes, indexes_keep}
use Rattle.candidates.specs.Source.{seen}

-- A bit that is set: bits of its row, of other rows, and other words.
module _ (ws : Words) (p j : ℕ) (h : p + j / 32 < length ws) where
  power : 1 * 2 ^ (j % 32) % 2 ^ 32 ≡ 2 ^ (j % 32)
  power = ap (λ x. x % 2 ^ 32) (one-mul (2 ^ (j % 32))) ∙ mod-eq_of_lt (pow-lt (let z : j % 32 < 32 = omega arith in z))

  pub set_other : (q : ℕ) → q ≢ p + j / 32 → at (with_bit ws p j) q ≡ at ws q
  unfolding with_bit
  set_other q n = get_or-set_other ws (p + j / 32) q _ 0 n

  pub set-row : (k : ℕ) → on (with_bit ws p j) p k ≡ (on ws p k || eqb k j)
  unfolding on with_bit
  set-row k = go (eqb (k / 32) (j / 32)) refl
    where
      new : ℕ
      new = bit_or (at ws (p + j / 32)) (1 * 2 ^ (j % 32) % 2 ^ 32)

      or_false : (b : Bool) → b ≡ (b || false)
      or_false true = refl
      or_false false = refl

      digit : k / 32 ≡ j / 32 → eqb (k % 32) (j % 32) ≡ eqb k j
      digit q = same (eqb k j) refl
        where
          same : (b : Bool) → eqb k j ≡ b → eqb (k % 32) (j % 32) ≡ b
          same true e = eq-eqb (k % 32) (j % 32) (ap (λ x. x % 32) (eqb-true k j e))
          same false e = ne_eqb (k % 32) (j % 32) (λ z. eqb-false k j e (omega arith))

      go : (b : Bool) → eqb (k / 32) (j / 32) ≡ b → bit (at (set ws (p + j / 32) new) (p + k / 32)) (k % 32) ≡ (bit (at ws (p + k / 32)) (k % 32) || eqb k j)
      go true e =
          let q : k / 32 ≡ j / 32 = eqb-true (k / 32) (j / 32) e in
          ap (λ x. bit x (k % 32)) (ap (λ c. at (set ws (p + j / 32) new) (p + c)) q ∙ get_or-set_same ws (p + j / 32) new 0 h ∙ ap (λ x. bit_or (at ws (p + j / 32)) x) power)
          ∙ bit-bit_or (at ws (p + j / 32)) (2 ^ (j % 32)) (k % 32)
          ∙ ap₂ (λ a b. a || b) (ap (λ c. bit (at ws (p + c)) (k % 32)) (sym q)) (bit_power (j % 32) (k % 32) ∙ digit q)
      go false e =
          let n = eqb-false (k / 32) (j / 32) e in
          ap (λ x. bit x (k % 32)) (get_or-set_other ws (p + j / 32) (p + k / 32) new 0 (λ z. n (omega arith)))
          ∙ or_false (bit (at ws (p + k / 32)) (k % 32)) ∙ ap (λ b. bit (at ws (p + k / 32)) (k % 32) || b) (sym (ne_eqb k j (λ z. n (ap (λ x. x / 32) z))))

  pub set_elsewhere : (q k : ℕ) → (q + 12 ≤ p) ⊎ (p + 12 ≤ q) → j < 384 → k < 384 → on (with_bit ws p j) q k ≡ on ws q k
  unfolding on
  set_elsewhere q k s hj hk = ap (λ x. bit x (k % 32)) (set_other (q + k / 32) (λ z. ⊎_elim (λ l. omega (arith, l, z)) (λ l. omega (arith, l, z)) s))

-- Some edge leads to y; some edge leads to y that is let in.
unfoldable pub to : List Edge → ℕ → Bool
to es y = any (λ e. eqb e.1 y) es

unfoldable pub lets : (ℕ → Bool) → List Edge → ℕ → Bool
lets sees es y = any (λ e. eqb e.1 y && sees e.0) es

-- Outside row x of either.
pub record Off (x p : ℕ) : Type 0 where
  pub links : (p < rows_links + 12 * x) ⊎ (rows_links + 12 * x + 12 ≤ p)
  pub opens : (p < rows_open + 12 * x) ⊎ (rows_open + 12 * x + 12 ≤ p)

-- Edges of node x were added to its rows, and nothing else was changed.
pub record Adds (x : ℕ) (es : List Edge) (ws us : Words) : Type 0 where
  pub links : (y : ℕ) → y < 384 → on us (rows_links + 12 * x) y ≡ (on ws (rows_links + 12 * x) y || to es y)
  pub opens : (y : ℕ) → y < 384 → on us (rows_open + 12 * x) y ≡ (on ws (rows_open + 12 * x) y || lets (seen ws) es y)
  pub others : (p : ℕ) → Off x p → at us p ≡ at ws p

low_off : (x p : ℕ) → p < 128 → Off x p
low_off x p h = record { links = inl (omega arith); opens = inl (omega arith) }

pub high_off : (x p : ℕ) → x < 384 → rows_reach ≤ p → Off x p
high_off x p h k = record { links = inr (omega arith); opens = inr (omega arith) }

-- The source's marks stay.
pub seen_same : (ws us : Words) → ((p : ℕ) → p < 128 → at us p ≡ at ws p) → (v : ℕ) → seen us v ≡ seen ws v
unfolding seen
seen_same ws us same zero = refl
seen_same ws us same (suc a) = go (ltb a 128) refl
  where
    go : (b : Bool) → ltb a 128 ≡ b → seen us (suc a) ≡ seen ws (suc a)
    go true e = rw (e, seen) (ap (λ x. eqb x 1) (same a (ltb-true a 128 e)))
    go false e = rw (e, seen) refl

pub adds_seen : (x : ℕ) (es : List Edge) (ws us : Words) → Adds x es ws us → (v : ℕ) → seen us v ≡ seen ws v
adds_seen x es ws us a = seen_same ws us (λ p h. a.others p (low_off x p h))

or_false : (b : Bool) → b ≡ (b || false)
or_false true = refl
or_false false = refl

or_assoc : (a b c : Bool) → ((a || b) || c) ≡ (a || (b || c))
or_assoc true b c = refl
or_assoc false b c = refl

pub any_append : {A : Type 0} (p : A → Bool) (xs ys : List A) → any p (xs ++ ys) ≡ (any p xs || any p ys)
unfolding any
any_append p [] ys = refl
any_append p (x ∷ xs) ys = go (p x) refl (any_append p xs ys)
  where
    go : (b : Bool) → p x ≡ b → any p (xs ++ ys) ≡ (any p xs || any p ys) → any p (x ∷ (xs ++ ys)) ≡ (any p (x ∷ xs) || any p ys)
    go true e ih = rw (e, any) refl
    go false e ih = rw (e, any) ih

pub any_same : {A : Type 0} (p q : A → Bool) (xs : List A) → ((x : A) → p x ≡ q x) → any p xs ≡ any q xs
unfolding any
any_same p q [] h = refl
any_same p q (x ∷ xs) h = ap₂ (λ (b r : Bool). elim b as (λ c. Bool) [ true ↦ true | false ↦ r ]) (h x) (any_same p q xs h)

lets-same : (sees views : ℕ → Bool) (es : List Edge) (y : ℕ) → ((v : ℕ) → sees v ≡ views v) → lets sees es y ≡ lets views es y
unfolding lets
lets-same sees views es y h = any_same (λ e. eqb e.1 y && sees e.0) (λ e. eqb e.1 y && views e.0) es (λ e. ap (λ b. eqb e.1 y && b) (h e.0))

pub adds_none : (x : ℕ) (ws : Words) → Adds x [] ws ws
unfolding to lets any
adds_none x ws = record { links = λ y h. or_false (on ws (rows_links + 12 * x) y); opens = λ y h. or_false (on ws (rows_open + 12 * x) y); others = λ p o. refl }

pub adds_on : (x : ℕ) (es fs : List Edge) (ws us vs : Words) → Adds x es ws us → Adds x fs us vs → Adds x (es ++ fs) ws vs
unfolding to lets
adds_on x es fs ws us vs a b = record {
  links = λ y h.
      b.links y h ∙ ap (λ c. c || to fs y) (a.links y h) ∙ or_assoc (on ws (rows_links + 12 * x) y) (to es y) (to fs y)
      ∙ ap (λ c. on ws (rows_links + 12 * x) y || c) (sym (any_append (λ e. eqb e.1 y) es fs));
  opens = λ y h.
      b.opens y h ∙ ap₂ (λ c d. c || d) (a.opens y h) (lets-same (seen us) (seen ws) fs y (adds_seen x es ws us a)) ∙ or_assoc (on ws (rows_open + 12 * x) y) (lets (seen ws) es y) (lets (seen ws) fs y)
      ∙ ap (λ c. on ws (rows_open + 12 * x) y || c) (sym (any_append (λ e. eqb e.1 y && seen ws e.0) es fs));
  others = λ p o. b.others p o ∙ a.others p o;
}

pub adds_keeps : (s : Words) (x : ℕ) (es : List Edge) (ws us : Words) → length s ≤ 4096 → x < 384 → Adds x es ws us → Indexes s ws → Indexes s us
adds_keeps s x es ws us l h a i = indexes_keep s ws us l (λ p k. a.others p (high_off x p h (omega arith))) i

-- Node x has rows, and the indexes stand in the workspace.
pub record Linking (x : ℕ) (s ws : Words) : Type 0 where
  pub node : x < 384
  pub short : length s ≤ 4096
  pub fits : candidates_length ≤ length ws
  pub indexes : Indexes s ws

pub linking_on : (x : ℕ) (es : List Edge) (s ws us : Words) → length us ≡ length ws → Linking x s ws → Adds x es ws us → Linking x s us
linking_on x es s ws us e l a = record { node = l.node; short = l.short; fits = omega (arith, l.fits); indexes = adds_keeps s x es ws us l.short l.node a l.indexes }

-- One edge, to a node or past all nodes.
to_one : (v y z : ℕ) → to ((v, y) ∷ []) z ≡ eqb y z
unfolding to any
to_one v y z = go (eqb y z) refl
  where
    go : (b : Bool) → eqb y z ≡ b → to ((v, y) ∷ []) z ≡ b
    go true e = rw (e, to, any) refl
    go false e = rw (e, to, any) refl

lets-one : (sees : ℕ → Bool) (v y z : ℕ) → lets sees ((v, y) ∷ []) z ≡ (eqb y z && sees v)
unfolding lets any
lets-one sees v y z = go (eqb y z && sees v) refl
  where
    go : (b : Bool) → (eqb y z && sees v) ≡ b → lets sees ((v, y) ∷ []) z ≡ b
    go true e = rw (e, lets, any) refl
    go false e = rw (e, lets, any) refl

eqb_sym : (a b : ℕ) → eqb a b ≡ eqb b a
eqb_sym a b = go (eqb b a) refl
  where
    go : (c : Bool) → eqb b a ≡ c → eqb a b ≡ c
    go true e = eq-eqb a b (sym (eqb-true b a e))
    go false e = ne_eqb a b (λ z. eqb-false b a e (sym z))

and_true : (b : Bool) → (b && true) ≡ b
and_true true = refl
and_true false = refl

and_false : (b : Bool) → (b && false) ≡ false
and_false true = refl
and_false false = refl

pub link_past : (x v y : ℕ) (ws : Words) → 384 ≤ y → Adds x ((v, y) ∷ []) ws ws
link_past x v y ws h = record {
  links = λ z k. or_false (on ws (rows_links + 12 * x) z) ∙ ap (λ c. on ws (rows_links + 12 * x) z || c) (sym (to_one v y z ∙ ne_eqb y z (λ e. omega arith)));
  opens = λ z k. or_false (on ws (rows_open + 12 * x) z) ∙ ap (λ c. on ws (rows_open + 12 * x) z || c) (sym (lets-one (seen ws) v y z ∙ ap (λ c. c && seen ws v) (ne_eqb y z (λ e. omega arith))));
  others = λ p o. refl;
}

module _ (x v y : ℕ) (ws us : Words) (hx : x < 384) (hy : y < 384) (fits : rows_end ≤ length ws) (e : us ≡ with_bit ws (rows_links + 12 * x) y) where
  linked-row : (z : ℕ) → on us (rows_links + 12 * x) z ≡ (on ws (rows_links + 12 * x) z || to ((v, y) ∷ []) z)
  linked-row z = ap (λ l. on l (rows_links + 12 * x) z) e ∙ set-row ws (rows_links + 12 * x) y (omega arith) z ∙ ap (λ c. on ws (rows_links + 12 * x) z || c) (eqb_sym z y ∙ sym (to_one v y z))

  open_row : (z : ℕ) → z < 384 → on us (rows_open + 12 * x) z ≡ on ws (rows_open + 12 * x) z
  open_row z h = ap (λ l. on l (rows_open + 12 * x) z) e ∙ set_elsewhere ws (rows_links + 12 * x) y (omega arith) (rows_open + 12 * x) z (inr (omega arith)) hy h

  rest : (p : ℕ) → Off x p → at us p ≡ at ws p
  rest p o = ap (λ l. at l p) e ∙ set_other ws (rows_links + 12 * x) y (omega arith) p (λ q. ⊎_elim (λ l. omega (arith, l, q)) (λ l. omega (arith, l, q)) o.links)

  pub link_shut : (r : Bool) → r ≡ seen ws v → r ≡ false → Adds x ((v, y) ∷ []) ws us
  link_shut r f g = record {
    links = λ z h. linked-row z;
    opens = λ z h. open_row z h ∙ or_false (on ws (rows_open + 12 * x) z) ∙ ap (λ c. on ws (rows_open + 12 * x) z || c) (sym (lets-one (seen ws) v y z ∙ ap (λ c. eqb y z && c) (sym f ∙ g) ∙ and_false (eqb y z)));
    others = rest;
  }

  pub link_open : (r : Bool) (vs : Words) → length us ≡ length ws → r ≡ seen ws v → r ≡ true → vs ≡ with_bit us (rows_open + 12 * x) y → Adds x ((v, y) ∷ []) ws vs
  link_open r vs n f g k = record {
    links = λ z h. ap (λ l. on l (rows_links + 12 * x) z) k ∙ set_elsewhere us (rows_open + 12 * x) y (omega arith) (rows_links + 12 * x) z (inl (omega arith)) hy h ∙ linked-row z;
    opens = λ z h.
        ap (λ l. on l (rows_open + 12 * x) z) k ∙ set-row us (rows_open + 12 * x) y (omega arith) z ∙ ap₂ (λ c d. c || d) (open_row z h) (eqb_sym z y ∙ sym (and_true (eqb y z)) ∙ ap (λ c. eqb y z && c) (sym (sym f ∙ g)) ∙ sym (lets-one (seen ws) v y z));
    others = λ p o. ap (λ l. at l p) k ∙ set_other us (rows_open + 12 * x) y (omega arith) p (λ q. ⊎_elim (λ l. omega (arith, l, q)) (λ l. omega (arith, l, q)) o.opens) ∙ rest p o;
  }

-- The edge of a vis into the definition of a trait?.
unfoldable pub trait_edges : Words → ℕ → ℕ → List Edge
trait_edges s vis t = map (λ u. (vis, within_def (trait_def s u))) (optional_list t)

pub trait_none : (s : Words) (x vis t : ℕ) (ws : Words) → t ≡ 0 → Adds x (trait_edges s vis t) ws ws
unfolding trait_edges optional_list
trait_none s x vis t ws e = subst (λ u. Adds x (map (λ w. (vis, within_def (trait_def s w))) (optional_list u)) ws ws) (sym e) (adds_none x ws)

pub trait_some : (s : Words) (x vis t d w : ℕ) (ws us : Words) → t ≢ 0 → w ≡ trait_def s (t - 1) → d ≡ w → Adds x ((vis, 3 * d + 1) ∷ []) ws us → Adds x (trait_edges s vis t) ws us
unfolding trait_edges optional_list
trait_some s x vis zero d w ws us h e f a = absurd (h refl)
trait_some s x vis (suc t) d w ws us h e f a =
    subst (λ (c : ℕ). Adds x ((vis, 3 * c + 1) ∷ []) ws us) (f ∙ e ∙ ap (trait_def s) (suc-sub-suc t 0 ∙ sub-zero t)) a

pub trait_at : (s : Words) (x vis t u w : ℕ) (ws us : Words) → 1 ≤ t → u ≡ t - 1 → w ≡ trait_def s u → Adds x ((vis, 3 * w + 1) ∷ []) ws us → Adds x (trait_edges s vis t) ws us
trait_at s x vis t u w ws us h e f a = trait_some s x vis t w w ws us (omega arith) (f ∙ ap (trait_def s) e) refl a

-- The edges of a member: of a child, of an import that names nothing, of one that names a definition.
member_child_edges : (s : Words) (m : ℕ) → at s (m + 2) ≡ 0 → member_edges s m ≡ (at s (m + 1), 3 * at s (m + 3)) ∷ []
unfolding member_edges get_member
member_child_edges s m e = rw (eq-eqb (at s (m + 2)) 0 e, member_edges, get_member) refl

member_import-edges : (s : Words) (m : ℕ) → at s (m + 2) ≢ 0 → member_edges s m ≡ map (λ d. (at s (m + 1), direct d)) (optional_list (import_def s (at s (m + 3))))
unfolding member_edges get_member
member_import-edges s m h = rw (ne_eqb (at s (m + 2)) 0 h, member_edges, get_member) refl

pub member_child : (s : Words) (x m v i id t : ℕ) (ws us : Words) → v ≡ at s (m + 1) → i ≡ at s (m + 3) → id ≡ i → t ≡ at s (m + 2) → t ≡ 0 → Adds x ((v, 3 * id) ∷ []) ws us → Adds x (member_edges s m) ws us
member_child s x m v i id t ws us e f g h z a =
    subst (λ l. Adds x l ws us) (ap₂ (λ (p q : ℕ). (p, 3 * q) ∷ []) e (g ∙ f) ∙ sym (member_child_edges s m (sym h ∙ z))) a

pub member_unresolved : (s : Words) (x m i id t w d : ℕ) (ws : Words) → i ≡ at s (m + 3) → id ≡ i → t ≡ at s (m + 2) → t ≢ 0 → w ≡ import_def s id → d ≡ w → d ≡ 0 → Adds x (member_edges s m) ws ws
unfolding optional_list
member_unresolved s x m i id t w d ws f g h z k l o =
    subst (λ es. Adds x es ws ws) (sym (member_import-edges s m (λ q. z (h ∙ q)) ∙ ap (λ u. map (λ c. (at s (m + 1), direct c)) (optional_list u)) (ap (import_def s) (sym f ∙ sym g) ∙ sym k ∙ sym l ∙ o))) (adds_none x ws)

pub member_resolved : (s : Words) (x m v i id t w d : ℕ) (ws us : Words) → v ≡ at s (m + 1) → i ≡ at s (m + 3) → id ≡ i → t ≡ at s (m + 2) → t ≢ 0 → w ≡ import_def s id → d ≡ w → d ≢ 0 → Adds x ((v, 3 * (d - 1)) ∷ []) ws us
    → Adds x (member_edges s m) ws us
unfolding optional_list
member_resolved s x m v i id t w zero ws us e f g h z k l o a = absurd (o refl)
member_resolved s x m v i id t w (suc d) ws us e f g h z k l o a =
    subst (λ es. Adds x es ws us)
    (ap₂ (λ (p q : ℕ). (p, 3 * q) ∷ []) e (suc-sub-suc d 0 ∙ sub-zero d)
    ∙ sym (member_import-edges s m (λ q. z (h ∙ q)) ∙ ap (λ u. map (λ c. (at s (m + 1), direct c)) (optional_list u)) (ap (import_def s) (sym f ∙ sym g) ∙ sym k ∙ sym l)))
    a

pub member_at : (s : Words) (x m v id t w d : ℕ) (ws us : Words) → v ≡ at s (m + 1) → id ≡ at s (m + 3) → t ≡ at s (m + 2) → t ≢ 0 → w ≡ import_def s id → 1 ≤ w → d ≡ w - 1 → Adds x ((v, 3 * d) ∷ []) ws us → Adds x (member_edges s m) ws us
member_at s x m v id t w d ws us e f g z h k l a = member_resolved s x m v id id t w w ws us e f refl g z h refl (omega arith) (subst (λ c. Adds x ((v, 3 * c) ∷ []) ws us) l a)

-- The edges of a binding: none where the impl is named otherwise than asked, else that of its trait?.
binding_same : (s : Words) (b : Bool) (m : ℕ) → impl_flag s flag_named (at s (m + 2)) ≡ b → binding_edges s b m ≡ trait_edges s (at s (m + 1)) (impl_trait s (at s (m + 2)))
unfolding binding_edges trait_edges
binding_same s true m e = rw (e, binding_edges) refl
binding_same s false m e = rw (e, binding_edges) refl

binding_other : (s : Words) (b c : Bool) (m : ℕ) → impl_flag s flag_named (at s (m + 2)) ≡ c → (c ≡ b → ⊥) → binding_edges s b m ≡ []
unfolding binding_edges
binding_other s true true m e h = absurd (h refl)
binding_other s true false m e h = rw (e, binding_edges) refl
binding_other s false true m e h = rw (e, binding_edges) refl
binding_other s false false m e h = absurd (h refl)

pub binding_not_asked : (s : Words) (x m i : ℕ) (named r : Bool) (ws : Words) → i ≡ at s (m + 2) → r ≡ impl_flag s flag_named i → (r ≡ named → ⊥) → Adds x (binding_edges s named m) ws ws
binding_not_asked s x m i named r ws e f h = subst (λ es. Adds x es ws ws) (sym (binding_other s named r m (ap (impl_flag s flag_named) (sym e) ∙ sym f) h)) (adds_none x ws)

pub binding_asked : (s : Words) (x m i v t : ℕ) (named r : Bool) (ws us : Words) → i ≡ at s (m + 2) → r ≡ impl_flag s flag_named i → r ≡ named → v ≡ at s (m + 1) → t ≡ field s header_impls i 3 → Adds x (trait_edges s v t) ws us → Adds x (binding_edges s named m) ws us
unfolding impl_trait
binding_asked s x m i v t named r ws us e f h k n a =
    subst (λ es. Adds x es ws us) (ap₂ (trait_edges s) k (n ∙ ap (impl_trait s) e) ∙ sym (binding_same s named m (ap (impl_flag s flag_named) (sym e) ∙ sym f ∙ h))) a

-- The edges of records one after the other.
concat_more : (f : ℕ → List Edge) (ms : Words) (m : ℕ) → concat_map f ms ++ f m ≡ concat_map f (ms ++ m ∷ [])
unfolding concat_map
concat_more f [] m = sym (append-nil (f m))
concat_more f (k ∷ ms) m = append_assoc (f k) (concat_map f ms) (f m) ∙ ap (λ (l : List Edge). f k ++ l) (concat_more f ms m)

pub adds_more : (f : ℕ → List Edge) (x : ℕ) (ms : Words) (m : ℕ) (ws us vs : Words) → Adds x (concat_map f ms) ws us → Adds x (f m) us vs → Adds x (concat_map f (ms ++ m ∷ [])) ws vs
adds_more f x ms m ws us vs a b = subst (λ l. Adds x l ws vs) (concat_more f ms m) (adds_on x (concat_map f ms) (f m) ws us vs a b)

-- The edges of a definition's three nodes.
pub direct-edges : (s : Words) (d v t₀ t b₀ b m₀ m : ℕ) (w₀ w₁ w₂ w₃ : Words) → v ≡ field s header_definitions d 2 → t₀ ≡ field s header_definitions d 3 → t ≡ t₀ → b₀ ≡ field s header_definitions d 4 → b ≡ b₀ → m₀ ≡ field s header_definitions d 6 → m ≡ m₀
    → Adds (3 * d) (trait_edges s v t) w₀ w₁ → Adds (3 * d) (concat_map (binding_edges s true) (chain s b)) w₁ w₂ → Adds (3 * d) (concat_map (member_edges s) (chain s m)) w₂ w₃ → Adds (3 * d) (edges s (3 * d)) w₀ w₃
unfolding for_each_child trait_edges trait_vis def_trait bindings implicit_members
direct-edges s d v t₀ t b₀ b m₀ m w₀ w₁ w₂ w₃ e f f' g g' h h' i j k =
    subst (λ es. Adds (3 * d) es w₀ w₃)
    (ap₂ (λ xs ys. xs ++ ys) (ap₂ (λ xs ys. xs ++ ys) (ap₂ (trait_edges s) e (f' ∙ f)) (ap (λ c. concat_map (binding_edges s true) (chain s c)) (g' ∙ g))) (ap (λ c. concat_map (member_edges s) (chain s c)) (h' ∙ h)) ∙ sym (edges-direct s d))
    (adds_on (3 * d) (trait_edges s v t ++ concat_map (binding_edges s true) (chain s b)) (concat_map (member_edges s) (chain s m)) w₀ w₂ w₃ (adds_on (3 * d) (trait_edges s v t) (concat_map (binding_edges s true) (chain s b)) w₀ w₁ w₂ i j) k)

pub within-edges : (s : Words) (d b₀ b m₀ m : ℕ) (w₀ w₁ w₂ w₃ : Words) → b₀ ≡ field s header_definitions d 4 → b ≡ b₀ → m₀ ≡ field s header_definitions d 5 → m ≡ m₀
    → Adds (3 * d + 1) ((0, 3 * d) ∷ []) w₀ w₁ → Adds (3 * d + 1) (concat_map (member_edges s) (chain s m)) w₁ w₂ → Adds (3 * d + 1) (concat_map (binding_edges s false) (chain s b)) w₂ w₃ → Adds (3 * d + 1) (edges s (3 * d + 1)) w₀ w₃
unfolding for_each_child bindings named_members
within-edges s d b₀ b m₀ m w₀ w₁ w₂ w₃ g g' h h' i j k =
    subst (λ es. Adds (3 * d + 1) es w₀ w₃)
    (ap₂ (λ (xs ys : List Edge). ((0, 3 * d) ∷ []) ++ xs ++ ys) (ap (λ c. concat_map (member_edges s) (chain s c)) (h' ∙ h)) (ap (λ c. concat_map (binding_edges s false) (chain s c)) (g' ∙ g)) ∙ sym (edges-within s d))
    (adds_on (3 * d + 1) (((0, 3 * d) ∷ []) ++ concat_map (member_edges s) (chain s m)) (concat_map (binding_edges s false) (chain s b)) w₀ w₂ w₃ (adds_on (3 * d + 1) ((0, 3 * d) ∷ []) (concat_map (member_edges s) (chain s m)) w₀ w₁ w₂ i j) k)

ancestors-parent : (s : Words) (d p : ℕ) → parent s d ≡ suc p → edges s (3 * d + 2) ≡ (0, 3 * d + 1) ∷ ((0, 3 * p + 2) ∷ [])
unfolding for_each_child optional
ancestors-parent s d p e = edges-ancestors s d ∙ rw (e, for_each_child, optional) refl

ancestors_prelude : (s : Words) (d : ℕ) → parent s d ≡ 0 → edges s (3 * d + 2) ≡ (0, 3 * d + 1) ∷ map (λ p. (0, 3 * p + 1)) (optional_list (at s header_prelude))
unfolding for_each_child optional
ancestors_prelude s d e = edges-ancestors s d ∙ rw (e, for_each_child, optional) refl

module _ (s : Words) (d p₀ p q : ℕ) (w₀ w₁ : Words) (f : p₀ ≡ field s header_definitions d 1) (f' : p ≡ p₀) (i : Adds (3 * d + 2) ((0, 3 * d + 1) ∷ []) w₀ w₁) where
  pub parent-edges : (w₂ : Words) → p ≢ 0 → Adds (3 * d + 2) ((0, 3 * (p - 1) + 2) ∷ []) w₁ w₂ → Adds (3 * d + 2) (edges s (3 * d + 2)) w₀ w₂
  unfolding parent
  parent-edges w₂ h j =
      subst (λ es. Adds (3 * d + 2) es w₀ w₂) (sym (ancestors-parent s d (p - 1) (sym f ∙ sym f' ∙ (let z : p ≡ suc (p - 1) = omega (arith, h) in z))))
      (adds_on (3 * d + 2) ((0, 3 * d + 1) ∷ []) ((0, 3 * (p - 1) + 2) ∷ []) w₀ w₁ w₂ i j)

  pub prelude_edges : (q₀ : ℕ) (w₂ : Words) → p ≡ 0 → q₀ ≡ at s 11 → q ≡ q₀ → q ≢ 0 → Adds (3 * d + 2) ((0, 3 * (q - 1) + 1) ∷ []) w₁ w₂ → Adds (3 * d + 2) (edges s (3 * d + 2)) w₀ w₂
  unfolding parent optional_list
  prelude_edges q₀ w₂ z g g' h j =
      let e : at s 11 ≡ suc (q - 1) = sym g ∙ sym g' ∙ (let z : q ≡ suc (q - 1) = omega (arith, h) in z) in
      subst (λ es. Adds (3 * d + 2) es w₀ w₂) (sym (ancestors_prelude s d (sym f ∙ sym f' ∙ z) ∙ ap (λ c. (0, 3 * d + 1) ∷ map (λ r. (0, 3 * r + 1)) (optional_list c)) e))
      (adds_on (3 * d + 2) ((0, 3 * d + 1) ∷ []) ((0, 3 * (q - 1) + 1) ∷ []) w₀ w₁ w₂ i j)

  pub no_prelude_edges : (q₀ : ℕ) → p ≡ 0 → q₀ ≡ at s 11 → q ≡ q₀ → q ≡ 0 → Adds (3 * d + 2) (edges s (3 * d + 2)) w₀ w₁
  unfolding parent optional_list
  no_prelude_edges q₀ z g g' h =
      subst (λ es. Adds (3 * d + 2) es w₀ w₁) (sym (ancestors_prelude s d (sym f ∙ sym f' ∙ z) ∙ ap (λ c. (0, 3 * d + 1) ∷ map (λ r. (0, 3 * r + 1)) (optional_list c)) (sym g ∙ sym g' ∙ h))) i

pub parent_at : (s : Words) (d p u : ℕ) (w₀ w₁ w₂ : Words) → p ≡ field s header_definitions d 1 → Adds (3 * d + 2) ((0, 3 * d + 1) ∷ []) w₀ w₁ → 1 ≤ p → u ≡ p - 1 → Adds (3 * d + 2) ((0, 3 * u + 2) ∷ []) w₁ w₂ → Adds (3 * d + 2) (edges s (3 * d + 2)) w₀ w₂
parent_at s d p u w₀ w₁ w₂ f i h e j = parent-edges s d p p 0 w₀ w₁ f refl i w₂ (omega arith) (subst (λ c. Adds (3 * d + 2) ((0, 3 * c + 2) ∷ []) w₁ w₂) e j)

pub prelude_at : (s : Words) (d p q u : ℕ) (w₀ w₁ w₂ : Words) → p ≡ field s header_definitions d 1 → Adds (3 * d + 2) ((0, 3 * d + 1) ∷ []) w₀ w₁ → p ≡ 0 → q ≡ at s 11 → 1 ≤ q → u ≡ q - 1 → Adds (3 * d + 2) ((0, 3 * u + 1) ∷ []) w₁ w₂ → Adds (3 * d + 2) (edges s (3 * d + 2)) w₀ w₂
prelude_at s d p q u w₀ w₁ w₂ f i z g h e j = prelude_edges s d p p q w₀ w₁ f refl i q w₂ z g refl (omega arith) (subst (λ c. Adds (3 * d + 2) ((0, 3 * c + 1) ∷ []) w₁ w₂) e j)

-- The edges of a definition's three nodes were added, one node after the other.
pub record LinksDefinition (s : Words) (d : ℕ) (ws us : Words) : Type 0 where
  pub after-direct : Words
  pub after-within : Words
  pub direct : Adds (3 * d) (edges s (3 * d)) ws after-direct
  pub within : Adds (3 * d + 1) (edges s (3 * d + 1)) after-direct after-within
  pub ancestors : Adds (3 * d + 2) (edges s (3 * d + 2)) after-within us

pub links_definition : (s : Words) (d : ℕ) (w₀ w₁ w₂ w₃ : Words) → Adds (3 * d) (edges s (3 * d)) w₀ w₁ → Adds (3 * d + 1) (edges s (3 * d + 1)) w₁ w₂ → Adds (3 * d + 2) (edges s (3 * d + 2)) w₂ w₃ → LinksDefinition s d w₀ w₃
links_definition s d w₀ w₁ w₂ w₃ a b c = record { after-direct = w₁; after-within = w₂; direct = a; within = b; ancestors = c }

pub linking_down : (x y : ℕ) (s ws : Words) → y ≤ x → Linking x s ws → Linking y s ws
linking_down x y s ws h l = record { node = omega (arith, l.node); short = l.short; fits = l.fits; indexes = l.indexes }

-- From one node to another, by the edges that the first added.
pub linking_over : (x y z : ℕ) (es : List Edge) (s ws us : Words) → length us ≡ length ws → y ≤ x → z ≤ x → Linking x s ws → Adds y es ws us → Linking z s us
linking_over x y z es s ws us e h k l a = linking_down x z s us k (record {
  node = l.node;
  short = l.short;
  fits = omega (arith, l.fits);
  indexes = adds_keeps s y es ws us l.short (omega (arith, l.node)) a l.indexes;
})

-- There are rows for the nodes of n definitions, all of them clear.
pub record LinkingAll (n : ℕ) (s ws : Words) : Type 0 where
  pub few : n ≤ 128
  pub short : length s ≤ 4096
  pub fits : candidates_length ≤ length ws
  pub indexes : Indexes s ws
  pub clear : (p : ℕ) → rows_links ≤ p → p < rows_end → at ws p ≡ 0

-- The rows of the nodes below n hold their edges; those of the others are clear.
pub record Built (s : Words) (n : ℕ) (ws us : Words) : Type 0 where
  pub links : (x y : ℕ) → x < n → y < 384 → on us (rows_links + 12 * x) y ≡ to (edges s x) y
  pub opens : (x y : ℕ) → x < n → y < 384 → on us (rows_open + 12 * x) y ≡ lets (seen ws) (edges s x) y
  pub fresh_links : (x y : ℕ) → n ≤ x → x < 384 → y < 384 → on us (rows_links + 12 * x) y ≡ false
  pub fresh_opens : (x y : ℕ) → n ≤ x → x < 384 → y < 384 → on us (rows_open + 12 * x) y ≡ false
  pub others : (p : ℕ) → (p < rows_links) ⊎ (rows_reach ≤ p) → at us p ≡ at ws p

pub bit-zero : (k : ℕ) → bit 0 k ≡ false
unfolding bit
bit-zero k = ne_eqb (0 / 2 ^ k % 2) 1 (λ e. omega (arith, ap (λ x. x % 2) (zero-div (2 ^ k)), e))

pub off_clear : (ws : Words) (p k : ℕ) → at ws (p + k / 32) ≡ 0 → on ws p k ≡ false
unfolding on
off_clear ws p k e = ap (λ w. bit w (k % 32)) e ∙ bit-zero (k % 32)

pub built_start : (n : ℕ) (s ws : Words) → LinkingAll n s ws → Built s (3 * 0) ws ws
built_start n s ws l = record {
  links = λ x y h. absurd (not-suc-le-zero h);
  opens = λ x y h. absurd (not-suc-le-zero h);
  fresh_links = λ x y h k j. off_clear ws (rows_links + 12 * x) y (l.clear (rows_links + 12 * x + y / 32) (omega arith) (omega arith));
  fresh_opens = λ x y h k j. off_clear ws (rows_open + 12 * x) y (l.clear (rows_open + 12 * x + y / 32) (omega arith) (omega arith));
  others = λ p o. refl;
}

row_off : (x z y : ℕ) → x < 384 → z < 384 → y < 384 → z ≢ x → Off x (rows_links + 12 * z + y / 32)
row_off x z y hx hz hy ne = go (x - z) refl
  where
    go : (d : ℕ) → x - z ≡ d → Off x (rows_links + 12 * z + y / 32)
    go zero e = record { links = inr (omega (arith, ne)); opens = inl (omega arith) }
    go (suc d) e = record { links = inl (omega arith); opens = inl (omega arith) }

open_off : (x z y : ℕ) → x < 384 → z < 384 → y < 384 → z ≢ x → Off x (rows_open + 12 * z + y / 32)
open_off x z y hx hz hy ne = go (x - z) refl
  where
    go : (d : ℕ) → x - z ≡ d → Off x (rows_open + 12 * z + y / 32)
    go zero e = record { links = inr (omega arith); opens = inr (omega (arith, ne)) }
    go (suc d) e = record { links = inr (omega arith); opens = inl (omega arith) }

-- One node more.
built-node : (s : Words) (n : ℕ) (ws us vs : Words) → n < 384 → Built s n ws us → Adds n (edges s n) us vs → Built s (suc n) ws vs
unfolding on
built-node s n ws us vs h b a = record {
  links = λ x y k j. links x y j (eqb x n) refl k;
  opens = λ x y k j. opens x y j (eqb x n) refl k;
  fresh_links = λ x y k i j. ap (λ w. bit w (y % 32)) (a.others (rows_links + 12 * x + y / 32) (row_off n x y h i j (λ e. omega (arith, e)))) ∙ b.fresh_links x y (omega arith) i j;
  fresh_opens = λ x y k i j. ap (λ w. bit w (y % 32)) (a.others (rows_open + 12 * x + y / 32) (open_off n x y h i j (λ e. omega (arith, e)))) ∙ b.fresh_opens x y (omega arith) i j;
  others = λ p o. a.others p (⊎_elim (λ l. low_off n p l) (λ l. high_off n p h l) o) ∙ b.others p o;
}
  where
    marks : (v : ℕ) → seen us v ≡ seen ws v
    marks = seen_same ws us (λ p k. b.others p (inl k))

    links : (x y : ℕ) → y < 384 → (c : Bool) → eqb x n ≡ c → x < suc n → on vs (rows_links + 12 * x) y ≡ to (edges s x) y
    links x y j true e k =
        subst (λ z. on vs (rows_links + 12 * z) y ≡ to (edges s z) y) (sym (eqb-true x n e)) (a.links y j ∙ ap (λ c. c || to (edges s n) y) (b.fresh_links n y (omega arith) h j))
    links x y j false e k =
        let ne = eqb-false x n e in
        ap (λ w. bit w (y % 32)) (a.others (rows_links + 12 * x + y / 32) (row_off n x y h (omega arith) j ne)) ∙ b.links x y (omega (arith, ne)) j

    opens : (x y : ℕ) → y < 384 → (c : Bool) → eqb x n ≡ c → x < suc n → on vs (rows_open + 12 * x) y ≡ lets (seen ws) (edges s x) y
    opens x y j true e k =
        subst (λ z. on vs (rows_open + 12 * z) y ≡ lets (seen ws) (edges s z) y) (sym (eqb-true x n e))
        (a.opens y j ∙ ap₂ (λ c d. c || d) (b.fresh_opens n y (omega arith) h j) (lets-same (seen us) (seen ws) (edges s n) y marks))
    opens x y j false e k =
        let ne = eqb-false x n e in
        ap (λ w. bit w (y % 32)) (a.others (rows_open + 12 * x + y / 32) (open_off n x y h (omega arith) j ne)) ∙ b.opens x y (omega (arith, ne)) j

-- One definition more.
pub built_more : (s : Words) (n d : ℕ) (ws us vs : Words) → n ≤ 128 → d < n → Built s (3 * d) ws us → LinksDefinition s d us vs → Built s (3 * (d + 1)) ws vs
built_more s n d ws us vs l h b a =
    subst (λ k. Built s k ws vs) (let z : suc (3 * d + 2) ≡ 3 * (d + 1) = omega arith in z)
    (built-node s (3 * d + 2) ws a.after-within vs (omega arith)
    (subst (λ k. Built s k ws a.after-within) (let z : suc (3 * d + 1) ≡ 3 * d + 2 = omega arith in z)
    (built-node s (3 * d + 1) ws a.after-direct a.after-within (omega arith)
    (subst (λ k. Built s k ws a.after-direct) (let z : suc (3 * d) ≡ 3 * d + 1 = omega arith in z) (built-node s (3 * d) ws us a.after-direct (omega arith) b a.direct))
    a.within))
    a.ancestors)

pub built_done : (s : Words) (n d : ℕ) (ws us : Words) → d ≤ n → n ≤ d → Built s (3 * d) ws us → Built s (3 * n) ws us
built_done s n d ws us h k b = subst (λ c. Built s (3 * c) ws us) (let z : d ≡ n = omega arith in z) b

pub built_linking : (s : Words) (n d : ℕ) (ws us : Words) → length us ≡ length ws → d < n → LinkingAll n s ws → Built s (3 * d) ws us → Linking (3 * d + 2) s us
built_linking s n d ws us e h l b = record {
  node = omega (arith, l.few);
  short = l.short;
  fits = omega (arith, l.fits);
  indexes = indexes_keep s ws us l.short (λ p k. b.others p (inr (omega arith))) l.indexes;
}
