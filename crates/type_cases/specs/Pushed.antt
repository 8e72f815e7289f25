-- A known type pushed to a table whose nodes its children are: the table stays neat.
use Rattle.std.specs.Prelude.{ℕ, suc, ◌+◌, ◌≤◌, ◌<◌, ◌≡◌, Bool, true, false, ◌⊎◌, eqb, length, get_or}
use Rattle.std.proofs.Math.Path.{refl, ap}
use Rattle.std.proofs.Common.{sym, ◌∙◌, subst, ⊎_elim, eq-or-lt_of_le, arith, length-append, eq-eqb, ne_eqb}
use mathlib.Core.List.{List, [], ◌∷◌, ◌++◌}
use Rattle.std.proofs.Math.Nat.{lt_irrefl}
use Rattle.std.proofs.Math.ListN.{get_or-append}
use Rattle.std.proofs.Math.Seq.{get_or_at}
use Rattle.rules.specs.Types.{Ty, TypeState, unknown, known, TypeNode, Types, new_node, node_at, state_at}
use Rattle.rules.specs.Solutions.{rep, ChildrenIn, WellFormed, Readable}
use Rattle.rules.specs.RootRank.{rank, child_in}
use Rattle.rules.specs.Readings.{Ranked, readable_ranked, readable_most, ranked_readable}
use Rattle.rules.specs.UprightRoots.{snoc_upright}
use Rattle.rules.specs.Neat.{Neat, in_more}
use Rattle.rules.specs.Slim.{Slim, SlimState}
use Rattle.rules.specs.Yields.{every_append}

module _ (ts : Types) (st : TypeState) where
  abbrev us : Types
  us = ts ++ (new_node (length ts) st ∷ [])

  longer : length us ≡ length ts + 1
  longer = length-append ts (new_node (length ts) st ∷ [])

  last-node : node_at us (length ts) ≡ new_node (length ts) st
  unfolding node_at
  last-node = get_or_at ts (new_node (length ts) st) [] (new_node 0 unknown) (length ts) refl

  old_node : (n : ℕ) → n < length ts → node_at us n ≡ node_at ts n
  unfolding node_at
  old_node n h = get_or-append ts (new_node (length ts) st ∷ []) (new_node 0 unknown) n h

  last_root : rep us (length ts) ≡ length ts
  unfolding rep new_node
  last_root = ap (λ (nd : TypeNode). nd.up.1) last-node

  old_root : (n : ℕ) → n < length ts → rep us n ≡ rep ts n
  unfolding rep
  old_root n h = ap (λ (nd : TypeNode). nd.up.1) (old_node n h)

  last_state : state_at us (length ts) ≡ st
  unfolding state_at new_node
  last_state = ap (λ (nd : TypeNode). nd.state) last-node

  old_state : (n : ℕ) → n < length ts → state_at us n ≡ state_at ts n
  unfolding state_at
  old_state n h = ap (λ (nd : TypeNode). nd.state) (old_node n h)

  -- A node is an old one or the last.
  either : (n : ℕ) → n < length us → (n ≡ length ts) ⊎ (n < length ts)
  either n h = eq-or-lt_of_le (let z : n ≤ length ts = omega (arith, longer) in z)

  children_more : (N M : ℕ) → N ≤ M → (st : TypeState) → ChildrenIn N st → ChildrenIn M st
  children_more N M h unknown a = tt
  children_more N M h (known i k d cs) a = in_more N M h cs a

  module _ (formed : WellFormed ts) (inside : ChildrenIn (length ts) st) where
    pushed-formed : WellFormed us
    pushed-formed n h = ⊎_elim at_last before (either n h)
      where
        at_last : n ≡ length ts → (rep us n < length us) × (rep us (rep us n) ≡ rep us n) × ChildrenIn (length us) (state_at us (rep us n))
        at_last e =
            let root : rep us n ≡ length ts = ap (rep us) e ∙ last_root in
            (omega (arith, root, longer), ap (rep us) root ∙ last_root ∙ sym root, subst (ChildrenIn (length us)) (sym (ap (state_at us) root ∙ last_state)) (children_more (length ts) (length us) (omega (arith, longer)) st inside))

        before : n < length ts → (rep us n < length us) × (rep us (rep us n) ≡ rep us n) × ChildrenIn (length us) (state_at us (rep us n))
        before l =
            let f = formed n l in
            let root : rep us n ≡ rep ts n = old_root n l in
            (omega (arith, root, f.0, longer), ap (rep us) root ∙ old_root (rep ts n) f.0 ∙ f.1 ∙ sym root, subst (ChildrenIn (length us)) (sym (ap (state_at us) root ∙ old_state (rep ts n) f.0)) (children_more (length ts) (length us) (omega (arith, longer)) (state_at ts (rep ts n)) f.2))

    module _ (kept : Readable ts) where
      -- The old ranks, and one above them all.
      ranks : ℕ → ℕ
      ranks n = elim (eqb n (length ts)) [ true ↦ suc (length ts) | false ↦ rank ts n ]

      last-rank : ranks (length ts) ≡ suc (length ts)
      unfolding ranks
      last-rank = rw (eq-eqb (length ts) (length ts) refl, ranks)

      old_rank : (n : ℕ) → n < length ts → ranks n ≡ rank ts n
      unfolding ranks
      old_rank n h = rw (ne_eqb n (length ts) (λ e. lt_irrefl n (subst (λ m. n < m) (sym e) h)), ranks)

      pushed-ranked : Ranked us ranks
      pushed-ranked = record { falls = λ n h i kd d cs e j l. ⊎_elim (at_last n i kd d cs e j l) (before n i kd d cs e j l) (either n h) }
        where
          at_last : (n : ℕ) (i : Bool) (kd d : ℕ) (cs : List Ty) → state_at us (rep us n) ≡ known i kd d cs → (j : ℕ) → j < length cs → n ≡ length ts → ranks (get_or cs j (false, 0)).1 < ranks n
          at_last n i kd d cs e j l q =
              let root : rep us n ≡ length ts = ap (rep us) q ∙ last_root in
              let c : (get_or cs j (false, 0)).1 < length ts = child_in (length ts) cs j (subst (ChildrenIn (length ts)) (sym (ap (state_at us) root ∙ last_state) ∙ e) inside) l in
              omega (arith, ap ranks q, last-rank, old_rank (get_or cs j (false, 0)).1 c, readable_most ts formed kept (get_or cs j (false, 0)).1)

          before : (n : ℕ) (i : Bool) (kd d : ℕ) (cs : List Ty) → state_at us (rep us n) ≡ known i kd d cs → (j : ℕ) → j < length cs → n < length ts → ranks (get_or cs j (false, 0)).1 < ranks n
          before n i kd d cs e j l h =
              let f = formed n h in
              let q : state_at ts (rep ts n) ≡ known i kd d cs = sym (ap (state_at us) (old_root n h) ∙ old_state (rep ts n) f.0) ∙ e in
              let c : (get_or cs j (false, 0)).1 < length ts = child_in (length ts) cs j (subst (ChildrenIn (length ts)) q f.2) l in
              omega (arith, old_rank n h, old_rank (get_or cs j (false, 0)).1 c, (readable_ranked ts formed kept).falls n h i kd d cs q j l)

      pushed_readable : Readable us
      pushed_readable = ranked_readable us pushed-formed ranks pushed-ranked

  -- A state of at most 8 children, all nodes of the table.
  pub pushed_neat : Neat ts → ChildrenIn (length ts) st → SlimState st → Neat us
  unfolding Slim new_node
  pushed_neat g inside few = record {
    proper = record { formed = pushed-formed g.proper.formed inside; kept = pushed_readable g.proper.formed inside g.proper.kept };
    slim = every_append (λ (nd : TypeNode). SlimState nd.state) ts (new_node (length ts) st ∷ []) g.slim (few, tt);
    upright = snoc_upright ts st g.upright;
  }
