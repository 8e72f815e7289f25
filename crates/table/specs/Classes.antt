-- How many nodes a class has, through pushes, stores and joins: every class is counted, so that sizes stay below the limit, and a root of size one is alone in its class.
use Rattle.std.specs.Prelude.{ℕ, zero, suc, ◌+◌, ◌≤◌, ◌<◌, ◌≡◌, Bool, true, false, ◌≢◌, eqb, length, get_or, set}
use Rattle.std.proofs.Math.Path.{refl, ap}
use Rattle.std.proofs.Common.{sym, ◌∙◌, le_of_suc-le-suc, not-suc-le-zero, lt_irrefl, length-set, length-append, get_or-set_same, get_or-set_other, eq-eqb, ne_eqb}
use mathlib.Core.List.{[], ◌∷◌, ◌++◌, map}
use Rattle.std.proofs.Math.Decide.{ℕ_discrete}
use native.Mathlib.Omega.{arith}
use Rattle.std.proofs.Math.ListN.{get_or-append}
use Rattle.std.proofs.lemmas.List.{get_or_at}
use Rattle.rules.specs.Types.{Ty, TypeState, unknown, TypeNode, Types, new_node, node_at, xor, invert_if, state_at, size_at, relabel, or_else, invert_state, hang}
use Rattle.rules.specs.Solutions.{rep}
use Rattle.rules.specs.Joining.{map_at, map-length}
use Rattle.table.specs.Packing.{members, Counted}

-- One node, of root r or not.
abbrev mark : TypeNode → ℕ → ℕ
mark nd r = members (nd ∷ []) r

marks : (nd : TypeNode) (ts : Types) (r : ℕ) → members (nd ∷ ts) r ≡ mark nd r + members ts r
unfolding members
marks nd ts r = go (eqb nd.up.1 r) refl
  where
    go : (b : Bool) → eqb nd.up.1 r ≡ b → members (nd ∷ ts) r ≡ mark nd r + members ts r
    go true e = rw (e, members) (omega arith)
    go false e = rw (e, members) (omega arith)

mark_yes : (nd : TypeNode) (r : ℕ) → nd.up.1 ≡ r → mark nd r ≡ 1
unfolding members
mark_yes nd r e = rw (eq-eqb nd.up.1 r e, members)

mark_no : (nd : TypeNode) (r : ℕ) → nd.up.1 ≢ r → mark nd r ≡ 0
unfolding members
mark_no nd r e = rw (ne_eqb nd.up.1 r e, members)

mark-same : (nd nd' : TypeNode) (r : ℕ) → nd.up.1 ≡ nd'.up.1 → mark nd r ≡ mark nd' r
mark-same nd nd' r e = elim (ℕ_discrete nd.up.1 r) [
  | yes q ↦ mark_yes nd r q ∙ sym (mark_yes nd' r (sym e ∙ q))
  | no q ↦ mark_no nd r q ∙ sym (mark_no nd' r (λ z. q (e ∙ z)))
]

mark-most : (nd : TypeNode) (r : ℕ) → mark nd r ≤ 1
mark-most nd r = elim (ℕ_discrete nd.up.1 r) [ yes q ↦ omega (arith, mark_yes nd r q) | no q ↦ omega (arith, mark_no nd r q) ]

-- No class has more nodes than the table.
pub members-most : (ts : Types) (r : ℕ) → members ts r ≤ length ts
unfolding members
members-most [] r = omega arith
members-most (nd ∷ ts) r = omega (arith, marks nd ts r, mark-most nd r, members-most ts r)

members-append : (ts us : Types) (r : ℕ) → members (ts ++ us) r ≡ members ts r + members us r
unfolding members
members-append [] us r = omega arith
members-append (nd ∷ ts) us r = omega (arith, marks nd ts r, marks nd (ts ++ us) r, members-append ts us r)

-- A class has each node of its root.
members_own : (ts : Types) (n : ℕ) (d : TypeNode) (r : ℕ) → n < length ts → (get_or ts n d).up.1 ≡ r → 1 ≤ members ts r
members_own [] n d r h e = absurd (not-suc-le-zero h)
members_own (nd ∷ ts) zero d r h e = omega (arith, marks nd ts r, mark_yes nd r e)
members_own (nd ∷ ts) (suc n) d r h e = omega (arith, marks nd ts r, members_own ts n d r (le_of_suc-le-suc h) e)

-- A root that none has has none.
members_beyond : (ts : Types) (d : TypeNode) (r : ℕ) → ((n : ℕ) → n < length ts → (get_or ts n d).up.1 ≢ r) → members ts r ≡ 0
unfolding members
members_beyond [] d r f = refl
members_beyond (nd ∷ ts) d r f = omega (arith, marks nd ts r, mark_no nd r (f 0 (omega arith)), members_beyond ts d r (λ n h. f (suc n) (omega arith)))

members_two : (ts : Types) (n m : ℕ) (d : TypeNode) (r : ℕ) → n < length ts → m < length ts → n ≢ m → (get_or ts n d).up.1 ≡ r → (get_or ts m d).up.1 ≡ r → 2 ≤ members ts r
members_two [] n m d r h l ne e f = absurd (not-suc-le-zero h)
members_two (nd ∷ ts) zero zero d r h l ne e f = absurd (ne refl)
members_two (nd ∷ ts) zero (suc m) d r h l ne e f = omega (arith, marks nd ts r, mark_yes nd r e, members_own ts m d r (le_of_suc-le-suc l) f)
members_two (nd ∷ ts) (suc n) zero d r h l ne e f = omega (arith, marks nd ts r, mark_yes nd r f, members_own ts n d r (le_of_suc-le-suc h) e)
members_two (nd ∷ ts) (suc n) (suc m) d r h l ne e f = omega (arith, marks nd ts r, members_two ts n m d r (le_of_suc-le-suc h) (le_of_suc-le-suc l) (λ z. ne (ap suc z)) e f)

-- A class of one has no node but its root.
pub alone : (ts : Types) (r n : ℕ) → members ts r ≡ 1 → r < length ts → rep ts r ≡ r → n < length ts → n ≢ r → (node_at ts n).up.1 ≢ r
unfolding rep node_at
alone ts r n one h e l ne z = omega (arith, members_two ts r n (new_node 0 unknown) r h l (λ q. ne (sym q)) e z)

-- A node that keeps its root changes no class.
members-set : (ts : Types) (n : ℕ) (nd d : TypeNode) (r : ℕ) → n < length ts → nd.up.1 ≡ (get_or ts n d).up.1 → members (set ts n nd) r ≡ members ts r
members-set [] n nd d r h e = absurd (not-suc-le-zero h)
members-set (x ∷ ts) zero nd d r h e = omega (arith, marks nd ts r, marks x ts r, mark-same nd x r e)
members-set (x ∷ ts) (suc n) nd d r h e = omega (arith, marks x (set ts n nd) r, marks x ts r, members-set ts n nd d r (le_of_suc-le-suc h) e)

-- Relabelled, the class of root lo belongs to that of root hi.
module _ (lo hi : ℕ) (b : Bool) (ne : lo ≢ hi) where
  moved_up : (nd : TypeNode) → nd.up.1 ≡ lo → (relabel lo (b, hi) nd).up.1 ≡ hi
  unfolding relabel invert_if
  moved_up nd e = rw (eq-eqb nd.up.1 lo e, relabel)

  kept_up : (nd : TypeNode) → nd.up.1 ≢ lo → (relabel lo (b, hi) nd).up.1 ≡ nd.up.1
  unfolding relabel
  kept_up nd e = rw (ne_eqb nd.up.1 lo e, relabel)

  mark_into : (nd : TypeNode) → mark (relabel lo (b, hi) nd) hi ≡ mark nd hi + mark nd lo
  mark_into nd = elim (ℕ_discrete nd.up.1 lo) [
    | yes q ↦ omega (arith, mark_yes (relabel lo (b, hi) nd) hi (moved_up nd q), mark_yes nd lo q, mark_no nd hi (λ z. ne (sym q ∙ z)))
    | no q ↦ omega (arith, mark-same (relabel lo (b, hi) nd) nd hi (kept_up nd q), mark_no nd lo q)
  ]

  mark_beside : (nd : TypeNode) (r : ℕ) → r ≢ lo → r ≢ hi → mark (relabel lo (b, hi) nd) r ≡ mark nd r
  mark_beside nd r a c = elim (ℕ_discrete nd.up.1 lo) [
    | yes q ↦ mark_no (relabel lo (b, hi) nd) r (λ z. c (sym z ∙ moved_up nd q)) ∙ sym (mark_no nd r (λ z. a (sym z ∙ q)))
    | no q ↦ mark-same (relabel lo (b, hi) nd) nd r (kept_up nd q)
  ]

  members_into : (ts : Types) → members (map (relabel lo (b, hi)) ts) hi ≡ members ts hi + members ts lo
  unfolding members
  members_into [] = omega arith
  members_into (nd ∷ ts) = omega (arith, marks (relabel lo (b, hi) nd) (map (relabel lo (b, hi)) ts) hi, marks nd ts hi, marks nd ts lo, mark_into nd, members_into ts)

  members_beside : (ts : Types) (r : ℕ) → r ≢ lo → r ≢ hi → members (map (relabel lo (b, hi)) ts) r ≡ members ts r
  unfolding members
  members_beside [] r a c = refl
  members_beside (nd ∷ ts) r a c = omega (arith, marks (relabel lo (b, hi) nd) (map (relabel lo (b, hi)) ts) r, marks nd ts r, mark_beside nd r a c, members_beside ts r a c)

pub relabel-size : (lo : ℕ) (t : Ty) (nd : TypeNode) → (relabel lo t nd).size ≡ nd.size
unfolding relabel
relabel-size lo t nd = elim (ℕ_discrete nd.up.1 lo) [ yes e ↦ rw (eq-eqb nd.up.1 lo e, relabel) | no e ↦ rw (ne_eqb nd.up.1 lo e, relabel) ]

pub relabel_state : (lo : ℕ) (t : Ty) (nd : TypeNode) → (relabel lo t nd).state ≡ nd.state
unfolding relabel
relabel_state lo t nd = elim (ℕ_discrete nd.up.1 lo) [ yes e ↦ rw (eq-eqb nd.up.1 lo e, relabel) | no e ↦ rw (ne_eqb nd.up.1 lo e, relabel) ]

-- Node n of a table with node N behind it, or with node N stored.
rep-same : (ts us : Types) (n m : ℕ) → node_at us n ≡ node_at ts m → rep us n ≡ rep ts m
unfolding rep
rep-same ts us n m e = ap (λ nd. nd.up.1) e

size_same : (ts us : Types) (n m : ℕ) → node_at us n ≡ node_at ts m → size_at us n ≡ size_at ts m
unfolding size_at
size_same ts us n m e = ap (λ nd. nd.size) e

rep_is : (us : Types) (n : ℕ) (nd : TypeNode) → node_at us n ≡ nd → rep us n ≡ nd.up.1
unfolding rep
rep_is us n nd e = ap (λ x. x.up.1) e

size_is : (us : Types) (n : ℕ) (nd : TypeNode) → node_at us n ≡ nd → size_at us n ≡ nd.size
unfolding size_at
size_is us n nd e = ap (λ x. x.size) e

pub push_last : (ts : Types) (nd : TypeNode) (n : ℕ) → n ≡ length ts → node_at (ts ++ (nd ∷ [])) n ≡ nd
unfolding node_at
push_last ts nd n e = get_or_at ts nd [] (new_node 0 unknown) n (sym e)

pub push_before : (ts : Types) (nd : TypeNode) (n : ℕ) → n < length ts → node_at (ts ++ (nd ∷ [])) n ≡ node_at ts n
unfolding node_at
push_before ts nd n h = get_or-append ts (nd ∷ []) (new_node 0 unknown) n h

pub set_there : (ts : Types) (nd : TypeNode) (m n : ℕ) → m < length ts → n ≡ m → node_at (set ts m nd) n ≡ nd
unfolding node_at
set_there ts nd m n h e = ap (node_at (set ts m nd)) e ∙ get_or-set_same ts m nd (new_node 0 unknown) h

pub set_beside : (ts : Types) (nd : TypeNode) (m n : ℕ) → n ≢ m → node_at (set ts m nd) n ≡ node_at ts n
unfolding node_at
set_beside ts nd m n e = get_or-set_other ts m n nd (new_node 0 unknown) e

own : (ts : Types) (n r : ℕ) → n < length ts → rep ts n ≡ r → 1 ≤ members ts r
unfolding rep node_at
own ts n r h e = members_own ts n (new_node 0 unknown) r h e

members_kept : (ts : Types) (n : ℕ) (nd : TypeNode) (r : ℕ) → n < length ts → nd.up.1 ≡ rep ts n → members (set ts n nd) r ≡ members ts r
unfolding rep node_at
members_kept ts n nd r h e = members-set ts n nd (new_node 0 unknown) r h e

-- A node that is to be pushed is no root as yet.
members_next : (ts : Types) → Counted ts → members ts (length ts) ≡ 0
unfolding rep node_at
members_next ts k = members_beyond ts (new_node 0 unknown) (length ts) (λ n h e. lt_irrefl (length ts) (omega (arith, k.inside n h, e)))

-- A pushed node is its own root, and a class of one.
pub counted_push : (ts : Types) (st : TypeState) → Counted ts → Counted (ts ++ (new_node (length ts) st ∷ []))
unfolding new_node
counted_push ts st k = record { inside = λ n h. inside n h (ℕ_discrete n (length ts)); sizes = λ r h e. sizes r h e (ℕ_discrete r (length ts)) }
  where
    N : ℕ
    N = length ts

    us : Types
    us = ts ++ (new_node (length ts) st ∷ [])

    long : length us ≡ N + 1
    long = length-append ts (new_node N st ∷ [])

    at_last : (n : ℕ) → n ≡ N → (rep us n ≡ N) × (size_at us n ≡ 1)
    at_last n q = (rep_is us n (new_node N st) (push_last ts (new_node N st) n q), size_is us n (new_node N st) (push_last ts (new_node N st) n q))

    at_first : (n : ℕ) → n < N → (rep us n ≡ rep ts n) × (size_at us n ≡ size_at ts n)
    at_first n h = (rep-same ts us n n (push_before ts (new_node N st) n h), size_same ts us n n (push_before ts (new_node N st) n h))

    inside : (n : ℕ) → n < length us → Dec (n ≡ N) → rep us n < length us
    inside n h (yes q) = omega (arith, long, at_last n q)
    inside n h (no q) = let l : n < N = omega (arith, long) in omega (arith, long, at_first n l, k.inside n l)

    sizes : (r : ℕ) → r < length us → rep us r ≡ r → Dec (r ≡ N) → size_at us r ≡ members us r
    sizes r h e (yes q) = omega (arith, at_last r q, ap (members us) q, members-append ts (new_node N st ∷ []) N, mark_yes (new_node N st) N refl, members_next ts k)
    sizes r h e (no q) =
        let l : r < N = omega (arith, long) in
        let f = at_first r l in
        omega (arith, f.1, members-append ts (new_node N st ∷ []) r, mark_no (new_node N st) r (λ z. q (sym z)), k.sizes r l (sym f.0 ∙ e))

-- A root that is a class of one is stored anew.
pub counted-set : (ts : Types) (m : ℕ) (st : TypeState) → m < length ts → rep ts m ≡ m → size_at ts m ≡ 1 → Counted ts → Counted (set ts m (new_node m st))
unfolding new_node
counted-set ts m st hm rm sm k = record { inside = λ n h. inside n h (ℕ_discrete n m); sizes = λ r h e. sizes r h e (ℕ_discrete r m) }
  where
    us : Types
    us = set ts m (new_node m st)

    long : length us ≡ length ts
    long = length-set ts m (new_node m st)

    there : (n : ℕ) → n ≡ m → (rep us n ≡ m) × (size_at us n ≡ 1)
    there n q = (rep_is us n (new_node m st) (set_there ts (new_node m st) m n hm q), size_is us n (new_node m st) (set_there ts (new_node m st) m n hm q))

    else : (n : ℕ) → n ≢ m → (rep us n ≡ rep ts n) × (size_at us n ≡ size_at ts n)
    else n h = (rep-same ts us n n (set_beside ts (new_node m st) m n h), size_same ts us n n (set_beside ts (new_node m st) m n h))

    inside : (n : ℕ) → n < length us → Dec (n ≡ m) → rep us n < length us
    inside n h (yes q) = omega (arith, long, there n q)
    inside n h (no q) = omega (arith, long, else n q, k.inside n (omega (arith, long)))

    sizes : (r : ℕ) → r < length us → rep us r ≡ r → Dec (r ≡ m) → size_at us r ≡ members us r
    sizes r h e (yes q) = omega (arith, there r q, ap (members us) q, members_kept ts m (new_node m st) m hm (sym rm), k.sizes m hm rm, sm)
    sizes r h e (no q) = omega (arith, else r q, members_kept ts m (new_node m st) r hm (sym rm), k.sizes r (omega (arith, long)) (sym (else r q).0 ∙ e))

pub map-node : (f : TypeNode → TypeNode) (ts : Types) (n : ℕ) → n < length ts → node_at (map f ts) n ≡ f (node_at ts n)
unfolding node_at
map-node f ts n h = map_at f ts n (new_node 0 unknown) h

-- A relabelled node's root and size.
module _ (ts us : Types) (n lo hi : ℕ) (b : Bool) (e : node_at us n ≡ relabel lo (b, hi) (node_at ts n)) where
  rep-moved : lo ≢ hi → rep ts n ≡ lo → rep us n ≡ hi
  unfolding rep
  rep-moved ne q = ap (λ nd. nd.up.1) e ∙ moved_up lo hi b ne (node_at ts n) q

  rep-kept : lo ≢ hi → rep ts n ≢ lo → rep us n ≡ rep ts n
  unfolding rep
  rep-kept ne q = ap (λ nd. nd.up.1) e ∙ kept_up lo hi b ne (node_at ts n) q

  size-kept : size_at us n ≡ size_at ts n
  unfolding size_at
  size-kept = ap (λ nd. nd.size) e ∙ relabel-size lo (b, hi) (node_at ts n)

-- Two different roots, of which one is hung under the other.
module _ (ts : Types) (lo hi : Ty) (hlo : lo.1 < length ts) (hhi : hi.1 < length ts) (rlo : rep ts lo.1 ≡ lo.1) (rhi : rep ts hi.1 ≡ hi.1) (ne : lo.1 ≢ hi.1) (k : Counted ts) where
  -- Their sizes together are below the limit of the table.
  pub sizes_most : size_at ts hi.1 + size_at ts lo.1 ≤ length ts
  sizes_most = omega (arith, k.sizes lo.1 hlo rlo, k.sizes hi.1 hhi rhi, members_into lo.1 hi.1 false ne ts, members-most (map (relabel lo.1 (false, hi.1)) ts) hi.1, map-length (relabel lo.1 (false, hi.1)) ts)

  -- After it every class is counted no larger than it is.
  pub counted-hang : Counted (hang ts lo hi)
  unfolding hang
  counted-hang = record { inside = λ n h. inside n h (ℕ_discrete n hi.1); sizes = λ r h e. sizes r h e (ℕ_discrete r hi.1) }
    where
      f : TypeNode → TypeNode
      f = relabel lo.1 (xor hi.0 lo.0, hi.1)

      ms : Types
      ms = map (relabel lo.1 (xor hi.0 lo.0, hi.1)) ts

      top : TypeNode
      top = record { up = (false, hi.1); state = or_else (state_at ts hi.1) (invert_state (xor hi.0 lo.0) (state_at ts lo.1)); size = size_at ts hi.1 + size_at ts lo.1 }

      us : Types
      us = set ms hi.1 top

      long : length ms ≡ length ts
      long = map-length f ts

      all : length us ≡ length ts
      all = length-set ms hi.1 top ∙ long

      there : (n : ℕ) → n ≡ hi.1 → node_at us n ≡ top
      there n q = set_there ms top hi.1 n (omega (arith, long)) q

      beside : (n : ℕ) → n < length ts → n ≢ hi.1 → node_at us n ≡ relabel lo.1 (xor hi.0 lo.0, hi.1) (node_at ts n)
      beside n h q = set_beside ms top hi.1 n q ∙ map-node f ts n h

      top_rep : hi.1 ≡ rep ms hi.1
      top_rep = sym (rep-kept ts ms hi.1 lo.1 hi.1 (xor hi.0 lo.0) (map-node f ts hi.1 hhi) ne (λ z. ne (sym z ∙ rhi)) ∙ rhi)

      same : (r : ℕ) → members us r ≡ members ms r
      same r = members_kept ms hi.1 top r (omega (arith, long)) top_rep

      inside : (n : ℕ) → n < length us → Dec (n ≡ hi.1) → rep us n < length us
      inside n h (yes q) = omega (arith, all, rep_is us n top (there n q))
      inside n h (no q) = let l : n < length ts = omega (arith, all) in elim (ℕ_discrete (rep ts n) lo.1) [
        | yes e ↦ omega (arith, all, rep-moved ts us n lo.1 hi.1 (xor hi.0 lo.0) (beside n l q) ne e)
        | no e ↦ omega (arith, all, rep-kept ts us n lo.1 hi.1 (xor hi.0 lo.0) (beside n l q) ne e, k.inside n l)
      ]

      sizes : (r : ℕ) → r < length us → rep us r ≡ r → Dec (r ≡ hi.1) → size_at us r ≡ members us r
      sizes r h e (yes q) = omega (arith, size_is us r top (there r q), same r, ap (members ms) q, members_into lo.1 hi.1 (xor hi.0 lo.0) ne ts, k.sizes lo.1 hlo rlo, k.sizes hi.1 hhi rhi)
      sizes r h e (no q) = let l : r < length ts = omega (arith, all) in elim (ℕ_discrete (rep ts r) lo.1) [
        | yes z ↦ absurd (q (sym e ∙ rep-moved ts us r lo.1 hi.1 (xor hi.0 lo.0) (beside r l q) ne z))
        | no z ↦ let own_Root : rep ts r ≡ r = sym (rep-kept ts us r lo.1 hi.1 (xor hi.0 lo.0) (beside r l q) ne z) ∙ e in
            omega (arith, size-kept ts us r lo.1 hi.1 (xor hi.0 lo.0) (beside r l q), same r, members_beside lo.1 hi.1 (xor hi.0 lo.0) ne ts r (λ w. z (ap (rep ts) w ∙ rlo)) q, k.sizes r l own_Root)
      ]
