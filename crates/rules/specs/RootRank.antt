-- A rank for any table that can be read as terms, joined or not: it falls from a type to the children of its root. An occurs walk's measure.
use Rattle.std.specs.Prelude.{ℕ, zero, suc, ◌≤◌, ◌<◌, ◌≡◌, Bool, false, T, get_or}
use Rattle.std.proofs.Math.Path.{refl, ap, subst}
use Rattle.std.proofs.Common.{sym, ◌∙◌, ⊎_elim, le_of_suc-le-suc, not-suc-le-zero, lt_irrefl, arith}
use mathlib.Core.List.{List, [], ◌∷◌, map}
use Rattle.std.proofs.Math.ListN.{length}
use Rattle.rules.specs.Types.{Ty, TypeState, unknown, known, TypeNode, Types, new_node, node_at, state_at}
use Rattle.rules.specs.Solutions.{con, Sol, term_size, terms, rep, Fits, Solves, AllIn, ChildrenIn, WellFormed}
use Rattle.rules.specs.Acyclic.{children, acyclic}
use Rattle.rules.specs.AcyclicLaws.{children_at, child, flat_rank, map-length, lt_or, no_children, Down, one, on, flat_rank_falls}
use Rattle.rules.specs.NoCycles.{acyclic_if_none}
use Rattle.rules.specs.Joining.{map_at}

-- The table in which every node is what its root is: there a way down leads from a type to the children of its root.
unfoldable pub rooted : Types → Types
rooted ts = map (λ nd. record { up = nd.up; state = state_at ts nd.up.1; size = nd.size }) ts

-- The rank of a node: how long the longest such way down from it is, counted up to the length of the table.
unfoldable pub rank : Types → ℕ → ℕ
rank ts n = flat_rank (rooted ts) n

-- It has as many nodes, with the children of their roots.
pub rooted-length : (ts : Types) → length (rooted ts) ≡ length ts
unfolding rooted
rooted-length ts = map-length _ ts

pub rooted-children : (ts : Types) (n : ℕ) → n < length ts → children_at (rooted ts) n ≡ children (state_at ts (rep ts n))
unfolding rooted children_at state_at node_at rep
rooted-children ts n h = ap (λ (nd : TypeNode). children nd.state) (map_at (λ nd. record { up = nd.up; state = state_at ts nd.up.1; size = nd.size }) ts n (new_node 0 unknown) h)

child-size : (θ : Sol) (cs : List Ty) (j : ℕ) → j < length cs → term_size (θ (get_or cs j (false, 0)).1) ≤ term_size (terms θ cs)
unfolding terms term_size
child-size θ [] j h = absurd (not-suc-le-zero h)
child-size θ (c ∷ cs) zero h = omega arith
child-size θ (c ∷ cs) (suc j) h = omega (arith, child-size θ cs j (le_of_suc-le-suc h))

-- One of some types that are nodes is a node.
pub child_in : (N : ℕ) (cs : List Ty) (j : ℕ) → AllIn N cs → j < length cs → (get_or cs j (false, 0)).1 < N
child_in N [] j a h = absurd (not-suc-le-zero h)
child_in N (c ∷ cs) zero a h = a.0
child_in N (c ∷ cs) (suc j) a h = child_in N cs j a.1 (le_of_suc-le-suc h)

module _ (ts : Types) (formed : WellFormed ts) where
  has-kids : (n j : ℕ) → j < length (children_at (rooted ts) n) → n < length ts
  has-kids n j l = ⊎_elim (λ h. h) (λ h. absurd (not-suc-le-zero (subst (λ (cs : List Ty). j < length cs) (no_children (rooted ts) n (subst (λ m. m ≤ n) (sym (rooted-length ts)) h)) l))) (lt_or n (length ts))

  module _ (n j : ℕ) (l : j < length (children_at (rooted ts) n)) where
    here : n < length ts
    here = has-kids n j l

    -- What a node leads to is a node, and smaller in every solution.
    pub inside : child (rooted ts) n j < length (rooted ts)
    unfolding child children
    inside = subst (λ m. child (rooted ts) n j < m) (sym (rooted-length ts)) (go (state_at ts (rep ts n)) (rooted-children ts n here) (formed n here).2)
      where
        go : (st : TypeState) → children_at (rooted ts) n ≡ children st → ChildrenIn (length ts) st → (get_or (children_at (rooted ts) n) j (false, 0)).1 < length ts
        go unknown e a = absurd (not-suc-le-zero (subst (λ (cs : List Ty). j < length cs) e l))
        go (known i kd d cs) e a = subst (λ (cs' : List Ty). (get_or cs' j (false, 0)).1 < length ts) (sym e) (child_in (length ts) cs j a (subst (λ (cs' : List Ty). j < length cs') e l))

    smaller : (θ : Sol) → Solves ts θ → term_size (θ (child (rooted ts) n j)) < term_size (θ n)
    unfolding child children term_size
    smaller θ sv = go (state_at ts (rep ts n)) refl (rooted-children ts n here)
      where
        go : (st : TypeState) → state_at ts (rep ts n) ≡ st → children_at (rooted ts) n ≡ children (state_at ts (rep ts n)) → term_size (θ (get_or (children_at (rooted ts) n) j (false, 0)).1) < term_size (θ n)
        go unknown q e = absurd (not-suc-le-zero (subst (λ (cs : List Ty). j < length cs) (e ∙ ap children q) l))
        go (known i kd d cs) q e =
            let whole : θ n ≡ con kd d (terms θ cs) = (sv n here).0 ∙ subst (Fits θ (rep ts n)) q (sv n here).1 in
            let same : children_at (rooted ts) n ≡ cs = e ∙ ap children q in
            subst (λ (cs' : List Ty). term_size (θ (get_or cs' j (false, 0)).1) < term_size (θ n)) (sym same) (omega (arith, child-size θ cs j (subst (λ (cs' : List Ty). j < length cs') same l), ap term_size whole))

  down_size : (θ : Sol) → Solves ts θ → (x y : ℕ) → Down (rooted ts) x y → term_size (θ y) < term_size (θ x)
  down_size θ sv x y (one j l) = smaller x j l θ sv
  down_size θ sv x y (on {y = z} d j l) = omega (arith, smaller z j l θ sv, down_size θ sv x z d)

  -- No type reaches itself in a table that has a solution.
  pub solved_acyclic : (θ : Sol) → Solves ts θ → T (acyclic (rooted ts))
  solved_acyclic θ sv = acyclic_if_none (rooted ts) inside (λ n d. lt_irrefl _ (down_size θ sv n n d))

  -- The measure of an occurs walk: it falls from a type to the children of its root, where no type reaches itself,
  pub rooted_falls : T (acyclic (rooted ts)) → (n : ℕ) → n < length ts → (i : Bool) (kd d : ℕ) (cs : List Ty) → state_at ts (rep ts n) ≡ known i kd d cs → (j : ℕ) → j < length cs → rank ts (get_or cs j (false, 0)).1 < rank ts n
  unfolding rank child children
  rooted_falls e n h i kd d cs q j l =
      let same : children_at (rooted ts) n ≡ cs = rooted-children ts n h ∙ ap children q in
      subst (λ (cs' : List Ty). flat_rank (rooted ts) (get_or cs' j (false, 0)).1 < flat_rank (rooted ts) n) same (flat_rank_falls (rooted ts) e n j (subst (λ (cs' : List Ty). j < length cs') (sym same) l))

  -- and so where there is a solution.
  pub rank_falls : (θ : Sol) → Solves ts θ → (n : ℕ) → n < length ts → (i : Bool) (kd d : ℕ) (cs : List Ty) → state_at ts (rep ts n) ≡ known i kd d cs → (j : ℕ) → j < length cs → rank ts (get_or cs j (false, 0)).1 < rank ts n
  rank_falls θ sv = rooted_falls (solved_acyclic θ sv)
