-- Sides, inverted or not: inversions one on another, which types of their roots nodes are after a join, and that two known types that met have one side where their kind is not its own inverse.
use Rattle.std.specs.Prelude.{ℕ, zero, suc, ◌+◌, ◌*◌, ◌<◌, ◌≡◌, refl, Bool, true, false, not, ◌&&◌, ◌||◌, List, ◌≢◌, T, eqb, length}
use Rattle.std.proofs.Math.Path.{sym, ap, subst}
use Rattle.std.proofs.Common.{◌∙◌, true≢false, ⊎_elim, not-suc-le-zero, arith, eqb→eq}
use Rattle.std.proofs.Math.Decide.{ℕ_discrete}
use Rattle.std.proofs.Math.ListN.{get_or-eq_default}
use Rattle.rules.specs.Lists.{Words}
use Rattle.rules.specs.Layout.{kind_error}
use Rattle.rules.specs.Sheet.{kinds, kind_row, kind_flag, row_own_inverse, row_may_meet, row_length}
use Rattle.rules.specs.Types.{Ty, TypeNode, Types, node_at, xor, invert_if, hang, Unified, unify_known}
use Rattle.rules.specs.Solutions.{rep, WellFormed}
use Rattle.rules.specs.MostGeneral.{Won, and_true}
use Rattle.rules.specs.Pigeonholes.{lt_or}
use Rattle.rules.specs.UprightRoots.{relabel_in, relabel_out, turn, hung_top, hung_off}

-- Inversions, one on another.
pub xor_comm : (a b : Bool) → xor a b ≡ xor b a
xor_comm true true = refl
xor_comm true false = refl
xor_comm false true = refl
xor_comm false false = refl

xor-back : (a b : Bool) → xor (xor a b) b ≡ a
xor-back true true = refl
xor-back true false = refl
xor-back false true = refl
xor-back false false = refl

pub xor_assoc : (a b c : Bool) → xor a (xor b c) ≡ xor (xor a b) c
xor_assoc true true true = refl
xor_assoc true true false = refl
xor_assoc true false c = refl
xor_assoc false b c = refl

pub xor-none : (a : Bool) → xor a false ≡ a
xor-none true = refl
xor-none false = refl

-- Twice the same is none.
pub xor_twice : (a b : Bool) → xor a (xor a b) ≡ b
xor_twice true true = refl
xor_twice true false = refl
xor_twice false b = refl

pub same-side : (a b : Bool) → xor a b ≡ false → a ≡ b
same-side true true e = refl
same-side true false e = absurd (true≢false e)
same-side false true e = absurd (true≢false e)
same-side false false e = refl

-- A test holds of every number below n.
unfoldable all_below : (ℕ → Bool) → ℕ → Bool
all_below p zero = true
all_below p (suc n) = elim (p n) [ true ↦ all_below p n | false ↦ false ]

below : (p : ℕ → Bool) (n : ℕ) → T (all_below p n) → (k : ℕ) → k < n → T (p k)
unfolding all_below
below p zero t k h = absurd (not-suc-le-zero h)
below p (suc n) t k h = go (p n) refl t (below p n) (ℕ_discrete k n)
  where
    go : (b : Bool) → p n ≡ b → T (all_below p (suc n)) → (T (all_below p n) → (k : ℕ) → k < n → T (p k)) → Dec (k ≡ n) → T (p k)
    go true e u ih (yes q) = subst (λ x. T (p x)) (sym q) (subst T (sym e) tt)
    go true e u ih (no q) = ih (rw (e, all_below) at u) k (omega (arith, q))
    go false e u ih d = absurd (rw (e, all_below) at u)

-- The kind table: what may meet inverted is its own inverse.
unfoldable row_fits : ℕ → Bool
row_fits k = elim (eqb (kind_row k row_may_meet) 1) [ true ↦ eqb (kind_row k row_own_inverse) 1 | false ↦ true ]

rows_fit : (k : ℕ) → T (row_fits k)
unfolding kinds all_below row_fits
rows_fit k = ⊎_elim (below row_fits 14 tt k) (λ h. rw (get_or-eq_default kinds 0 {n = row_length * k + row_may_meet} (omega arith), row_fits) tt) (lt_or k 14)

-- What is not its own inverse may not meet inverted.
not_inverted : (s : Words) (k d : ℕ) → kind_flag s row_own_inverse k d ≡ false → kind_flag s row_may_meet k d ≡ false
unfolding kind_flag row_fits
not_inverted s k d o = go (eqb (kind_row k row_may_meet) 1) refl (eqb (kind_row k row_own_inverse) 1) refl
  where
    go : (b : Bool) → eqb (kind_row k row_may_meet) 1 ≡ b → (c : Bool) → eqb (kind_row k row_own_inverse) 1 ≡ c → kind_flag s row_may_meet k d ≡ false
    go false e c q = rw (e, kind_flag)
    go true e true q = rw (e, kind_flag) (rw (q, kind_flag) at o)
    go true e false q = absurd (rw (e, q, row_fits) at (rows_fit k))

-- Node n is upright in its class if it is its root. (Well-formedness does not ask it. A join makes the upper root upright, so one that was not would turn.)
abbrev pub UprightAt : Types → ℕ → Type 0
UprightAt ts n = rep ts n ≡ n → (node_at ts n).up.0 ≡ false

-- The side of a type of the lower class by the upper root's.
pub side_by : (h l i j : Bool) → xor i l ≡ xor j h → xor (xor h l) j ≡ i
side_by h l i j e = xor_comm (xor h l) j ∙ xor_assoc j h l ∙ ap (λ x. xor x l) (sym e) ∙ xor-back i l

module _ (ts : Types) (lo hi : Ty) (hlo : lo.1 < length ts) (hhi : hi.1 < length ts) (rlo : rep ts lo.1 ≡ lo.1) (rhi : rep ts hi.1 ≡ hi.1) (ne : lo.1 ≢ hi.1) (formed : WellFormed ts) where
  -- A node outside the lower class is what it was of its root.
  pub up_stays : (n : ℕ) → n < length ts → UprightAt ts n → rep ts n ≢ lo.1 → (node_at (hang ts lo hi) n).up ≡ (node_at ts n).up
  unfolding rep
  up_stays n h up d = go (ℕ_discrete n hi.1)
    where
      go : Dec (n ≡ hi.1) → (node_at (hang ts lo hi) n).up ≡ (node_at ts n).up
      go (yes q) = subst (λ m. (node_at (hang ts lo hi) m).up ≡ (node_at ts m).up) (sym q) (hung_top ts lo hi hhi ∙ λ z. (sym (subst (UprightAt ts) q up rhi) z, sym rhi z))
      go (no q) = ap (λ (nd : TypeNode). nd.up) (hung_off ts lo hi n h q ∙ relabel_out lo.1 (turn ts lo hi, hi.1) (node_at ts n) d)

  -- One of the lower class is so of the upper root.
  pub up_turns : (n : ℕ) → n < length ts → rep ts n ≡ lo.1 → (node_at (hang ts lo hi) n).up ≡ (xor (node_at ts n).up.0 (xor hi.0 lo.0), hi.1)
  unfolding rep invert_if
  up_turns n h e = ap (λ (nd : TypeNode). nd.up) (hung_off ts lo hi n h (λ q. ne (sym e ∙ ap (rep ts) q ∙ rhi))) ∙ relabel_in lo.1 (turn ts lo hi, hi.1) (node_at ts n) e

-- Two known types that met: of one kind and id, and upright if it is not its own inverse.
pub known_met : (f : Types → Ty → Ty → Unified) (s : Words) (ts : Types) (inv : Bool) (k d : ℕ) (xs : List Ty) (k' d' : ℕ) (ys : List Ty) → Won (unify_known f s ts inv k d xs k' d' ys).0 → (k ≡ k') × (d ≡ d') × (kind_flag s row_own_inverse k d ≡ false → inv ≡ false)
unfolding unify_known
known_met f s ts inv k d xs k' d' ys w = go (eqb k kind_error || eqb k' kind_error) refl (eqb k k' && eqb d d' && (not inv || kind_flag s row_may_meet k d)) refl w
  where
    upright : (b c : Bool) → c ≡ false → T (not b || c) → b ≡ false
    upright false c e t = refl
    upright true c e t = absurd (subst T e t)

    go : (b : Bool) → (eqb k kind_error || eqb k' kind_error) ≡ b → (c : Bool) → (eqb k k' && eqb d d' && (not inv || kind_flag s row_may_meet k d)) ≡ c → Won (unify_known f s ts inv k d xs k' d' ys).0 → (k ≡ k') × (d ≡ d') × (kind_flag s row_own_inverse k d ≡ false → inv ≡ false)
    go true e c e' v = absurd (rw (e, unify_known) at v)
    go false e false e' v = absurd (rw (e, e', unify_known) at v)
    go false e true e' v =
        let p = and_true (eqb k k' && eqb d d') (not inv || kind_flag s row_may_meet k d) (subst T (sym e') tt) in
        let q = and_true (eqb k k') (eqb d d') p.0 in
        (eqb→eq k k' q.0, eqb→eq d d' q.1, λ o. upright inv (kind_flag s row_may_meet k d) (not_inverted s k d o) p.1)
