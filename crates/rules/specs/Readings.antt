-- Acyclic tables, joined or not: the rank computed from the table falls from each node to the children of its root. It is the same as that the table can be read as terms over its unknowns, and as that no type reaches itself.
use Prim.Native.Nat.{ℕ, zero, suc, ◌≤◌, ◌<◌}
use Rattle.std.specs.Prelude.{◌≡◌, Bool, false, ◌↔◌, T, get_or}
use Rattle.std.proofs.Math.Path.{refl, sym, ap, subst}
use Rattle.std.proofs.Common.{◌∙◌, not-suc-le-zero, le_refl, arith}
use mathlib.Core.List.{List}
use Rattle.std.proofs.Math.Logic.{⊎_elim}
use Rattle.std.proofs.Math.ListN.{length}
use Rattle.rules.specs.Types.{Ty, TypeState, unknown, known, Types, state_at}
use Rattle.rules.specs.Solutions.{terms-same, var, con, Sol, terms, rep, Fits, ChildrenIn, WellFormed, Free, Readable}
use Rattle.rules.specs.Acyclic.{children, above, heights, acyclic}
use Rattle.rules.specs.AcyclicLaws.{Down, none_returns, children_at, child, no_children, child_low, lt_or, flat_rank_below, flat_rank_falls, flat_rank, height_step, flat_rank-most}
use Rattle.rules.specs.NoCycles.{acyclic_by_rank, acyclic_if_none}
use Rattle.rules.specs.RootRank.{rooted, rank, inside, rooted_falls, rank_falls, child_in, rooted-children, rooted-length, solved_acyclic}

-- δ falls from each node to the children of its root.
pub record Ranked (ts : Types) (δ : ℕ → ℕ) : Type 0 where
  pub falls : (n : ℕ) → n < length ts → (i : Bool) (kd d : ℕ) (cs : List Ty) → state_at ts (rep ts n) ≡ known i kd d cs → (j : ℕ) → j < length cs → δ (get_or cs j (false, 0)).1 < δ n

-- An acyclic table: its own rank falls so.
abbrev pub Acyclic : Types → Type 0
Acyclic ts = Ranked ts (rank ts)

module _ (ts : Types) (formed : WellFormed ts) where
  -- The rank of a table that can be read as terms falls, and no way down is longer than the table.
  pub readable_ranked : Readable ts → Ranked ts (rank ts)
  readable_ranked k = record { falls = rank_falls ts formed k.0 k.1.solves }

  pub readable_most : Readable ts → (n : ℕ) → rank ts n ≤ length ts
  unfolding rank
  readable_most k n = subst (λ m. flat_rank (rooted ts) n ≤ m) (rooted-length ts) (flat_rank-most (rooted ts) (solved_acyclic ts formed k.0 k.1.solves) n)

  -- A node has the rank of its root.
  pub rank_root : (n : ℕ) → n < length ts → rank ts n ≡ rank ts (rep ts n)
  unfolding rank flat_rank
  rank_root n h = go (length (rooted ts)) (subst (λ m. 0 < m) (sym (rooted-length ts)) (omega arith))
    where
      same : children_at (rooted ts) n ≡ children_at (rooted ts) (rep ts n)
      same = rooted-children ts n h ∙ ap (λ r. children (state_at ts r)) (sym (formed n h).1) ∙ sym (rooted-children ts (rep ts n) (formed n h).0)

      go : (k : ℕ) → 0 < k → get_or (heights k (rooted ts)) n 0 ≡ get_or (heights k (rooted ts)) (rep ts n) 0
      go zero l = absurd (not-suc-le-zero l)
      go (suc k) l = height_step k (rooted ts) n ∙ ap (above (heights k (rooted ts))) same ∙ sym (height_step k (rooted ts) (rep ts n))

-- The term that node n reads as over the unknowns, to k levels.
unfoldable pub term_of : ℕ → Types → Sol
term_of zero ts n = var n
term_of (suc k) ts n = elim (state_at ts (rep ts n)) [ unknown ↦ var (rep ts n) | known i kd d cs ↦ con kd d (terms (term_of k ts) cs) ]

module _ (ts : Types) (formed : WellFormed ts) (δ : ℕ → ℕ) (r : Ranked ts δ) where
  same : (k m n n' : ℕ) → n < length ts → n' < length ts → rep ts n ≡ rep ts n' → δ n < k → δ n' < m → term_of k ts n ≡ term_of m ts n'
  unfolding term_of
  same zero m n n' h h' e l l' = absurd (not-suc-le-zero l)
  same (suc k) zero n n' h h' e l l' = absurd (not-suc-le-zero l')
  same (suc k) (suc m) n n' h h' e l l' = go (state_at ts (rep ts n)) refl (ap (state_at ts) (sym e)) (same k m)
    where
      go : (st : TypeState) → state_at ts (rep ts n) ≡ st → state_at ts (rep ts n') ≡ state_at ts (rep ts n) → ((c c' : ℕ) → c < length ts → c' < length ts → rep ts c ≡ rep ts c' → δ c < k → δ c' < m → term_of k ts c ≡ term_of m ts c') → term_of (suc k) ts n ≡ term_of (suc m) ts n'
      go unknown q q' ih = rw (q, q' ∙ q, term_of) (ap var e)
      go (known i kd d cs) q q' ih = rw (q, q' ∙ q, term_of) (ap (con kd d) (terms-same (term_of k ts) (term_of m ts) cs λ j b.
          let c = child_in (length ts) cs j (subst (ChildrenIn (length ts)) q (formed n h).2) b in
          ih _ _ c c refl (omega (arith, r.falls n h i kd d cs q j b)) (omega (arith, r.falls n' h' i kd d cs (q' ∙ q) j b))))

  -- A table with a rank that falls reads as terms over its unknowns.
  ranked-free : Free ts (λ n. term_of (suc (δ n)) ts n)
  unfolding term_of
  ranked-free = record { solves = λ n h. (same (suc (δ n)) (suc (δ (rep ts n))) n (rep ts n) h (formed n h).0 (sym (formed n h).1) (le_refl _) (le_refl _), check_nodes n h (state_at ts (rep ts n)) refl); vars = λ n h e u. free n e u }
    where
      σ : Sol
      σ n = term_of (suc (δ n)) ts n

      free : (n : ℕ) → rep ts n ≡ n → state_at ts n ≡ unknown → σ n ≡ var n
      free n e u = rw (ap (state_at ts) e ∙ u, term_of) (ap var e)

      check_nodes : (n : ℕ) → n < length ts → (st : TypeState) → state_at ts (rep ts n) ≡ st → Fits σ (rep ts n) (state_at ts (rep ts n))
      check_nodes n h st q = subst (Fits σ (rep ts n)) (sym q) (go st q)
        where
          go : (st : TypeState) → state_at ts (rep ts n) ≡ st → Fits σ (rep ts n) st
          go unknown q = tt
          go (known i kd d cs) q =
              let g = formed n h in
              let q' : state_at ts (rep ts (rep ts n)) ≡ known i kd d cs = ap (state_at ts) g.1 ∙ q in
              rw (q', term_of) (ap (con kd d) (terms-same (term_of (δ (rep ts n)) ts) σ cs λ j b.
              let c = child_in (length ts) cs j (subst (ChildrenIn (length ts)) q g.2) b in
              same _ _ _ _ c c refl (r.falls (rep ts n) g.0 i kd d cs q' j b) (le_refl _)))

  -- Any rank that falls will do.
  pub ranked_readable : Readable ts
  ranked_readable = (_, ranked-free)

-- The terms that an acyclic table reads as over its unknowns: one for each node.
unfoldable pub reading : Types → Sol
reading ts n = term_of (suc (rank ts n)) ts n

module _ (ts : Types) (formed : WellFormed ts) where
  -- They solve the table, and leave each unknown free.
  pub reading-free : Acyclic ts → Free ts (reading ts)
  unfolding reading
  reading-free e = ranked-free ts formed (rank ts) e

  -- No way down is longer than the table.
  pub rank_most : Acyclic ts → (n : ℕ) → rank ts n ≤ length ts
  rank_most a = readable_most ts formed (ranked_readable ts formed (rank ts) a)

  -- A table is acyclic exactly if it can be read as terms over its unknowns,
  pub acyclic_iff_readable : Acyclic ts ↔ Readable ts
  acyclic_iff_readable = (ranked_readable ts formed (rank ts), readable_ranked ts formed)

  -- and exactly if no type reaches itself, from a type to the children of its root and on.
  pub acyclic_iff_none : Acyclic ts ↔ ((n : ℕ) → Down (rooted ts) n n → ⊥)
  acyclic_iff_none = (λ e. let r = ranked_readable ts formed (rank ts) e in none_returns (rooted ts) (solved_acyclic ts formed r.0 r.1.solves), λ none. record { falls = rooted_falls ts formed (acyclic_if_none (rooted ts) (inside ts formed) none) })

-- A table as a slice has it: every node is its own root.
module _ (ts : Types) (formed : WellFormed ts) (flat : (n : ℕ) → n < length ts → rep ts n ≡ n) where
  same-children : (n : ℕ) → n < length ts → children_at (rooted ts) n ≡ children_at ts n
  unfolding children_at
  same-children n h = rooted-children ts n h ∙ ap (λ r. children (state_at ts r)) (flat n h)

  -- A property of a node's child that holds by its root's children.
  by_root : (P : ℕ → ℕ → Type 0) → ((n j : ℕ) → n < length ts → j < length (children_at (rooted ts) n) → P n (child (rooted ts) n j)) → (n j : ℕ) → j < length (children_at ts n) → P n (child ts n j)
  unfolding child
  by_root P p n j l = ⊎_elim
      (λ h. subst (λ (cs : List Ty). P n (get_or cs j (false, 0)).1) (same-children n h) (p n j h (subst (λ (cs : List Ty). j < length cs) (sym (same-children n h)) l)))
      (λ h. absurd (not-suc-le-zero (subst (λ (cs : List Ty). j < length cs) (no_children ts n h) l)))
      (lt_or n (length ts))

  -- Children are nodes.
  pub flat_inside : (n j : ℕ) → j < length (children_at ts n) → child ts n j < length ts
  flat_inside = by_root (λ n m. m < length ts) (λ n j h l. subst (λ k. child (rooted ts) n j < k) (rooted-length ts) (inside ts formed n j l))

  flat_low : T (acyclic (rooted ts)) → (n : ℕ) → n < length ts → rank ts n < length ts
  unfolding rank
  flat_low e n h = subst (λ k. flat_rank (rooted ts) n < k) (rooted-length ts) (flat_rank_below (rooted ts) e n (subst (λ k. n < k) (sym (rooted-length ts)) h))

  flat_falls : T (acyclic (rooted ts)) → (n j : ℕ) → j < length (children_at ts n) → rank ts (child ts n j) < rank ts n
  unfolding rank
  flat_falls e = by_root (λ n m. rank ts m < rank ts n) (λ n j h l. flat_rank_falls (rooted ts) e n j l)

  -- A table that passed 9 or 13 reads as terms over its unknowns.
  pub flat_readable : T (acyclic ts) → Readable ts
  flat_readable e = ranked_readable ts formed (flat_rank ts) (record { falls = λ n h i kd d cs q j l. child_low ts e n i kd d cs (sym (ap (state_at ts) (flat n h)) ∙ q) j l })

  -- What 9 and 13 check is that it is acyclic.
  pub checked_iff_acyclic : T (acyclic ts) ↔ Acyclic ts
  checked_iff_acyclic = (
    λ e. readable_ranked ts formed (flat_readable e),
    λ a.
        let r = ranked_readable ts formed (rank ts) a in
        let e = solved_acyclic ts formed r.0 r.1.solves in
        acyclic_by_rank ts (rank ts) (flat_falls e) (flat_low e),
  )
