-- The walks down a well-formed, acyclic table never use up their fuel: `occurs`, `self_inverse`, `get_mod` and `transfer_type` come to the same with any more of it. All types, inverted and Error too.
use Prim.Native.Nat.{ℕ, zero, suc, ◌+◌, ◌<◌}
use Rattle.std.specs.Prelude.{◌≡◌, ◌⊎◌, get_or}
use Rattle.std.proofs.Math.Path.{refl, sym}
use Rattle.std.proofs.Common.{◌∙◌, ap, subst, inl, inr, not-suc-le-zero}
use Rattle.std.proofs.Math.Bool.{Bool, true, false}
use mathlib.Core.List.{List, [], ◌∷◌}
use Rattle.std.proofs.Math.Option.{Option, none, some}
use native.Mathlib.Omega.{arith}
use Rattle.std.proofs.Math.Dec.{eqb}
use Rattle.std.proofs.Math.ListN.{length, set}
use Rattle.rules.specs.Lists.{Words, any, all}
use Rattle.rules.specs.Layout.{kind_error, kind_ref}
use Rattle.rules.specs.Sheet.{kind_flag, row_own_inverse}
use Rattle.rules.specs.Types.{Ty, TypeState, unknown, known, Types, new_node, invert_if, invert_state, find, state_at, kind, occurs_in, occurs, self_inverse_in, self_inverse}
use Rattle.rules.specs.Transfer.{Transfer, mapped, param_for, transfer_each, transfer_in, transfer_types}
use Rattle.rules.specs.Run.{Run, done, stop}
use Rattle.rules.specs.Search.{get_mod_in, get_mod}
use Rattle.rules.specs.Solutions.{rep, AllIn, ChildrenIn, WellFormed}
use Rattle.rules.specs.Pigeonholes.{steady, walk_enough}
use Rattle.rules.specs.RootRank.{rank, child_in}
use Rattle.rules.specs.Readings.{Acyclic, rank_most}

-- Two tests that agree on each of some types agree on whether any passes, and on whether all do.
module _ (f g : Ty → Bool) where
  any_same : (cs : List Ty) → ((j : ℕ) → j < length cs → f (get_or cs j (false, 0)) ≡ g (get_or cs j (false, 0))) → any f cs ≡ any g cs
  unfolding any
  any_same [] h = refl
  any_same (c ∷ cs) h = λ i. elim (h 0 (omega arith) i) [ true ↦ true | false ↦ any_same cs (λ j l. h (suc j) (omega arith)) i ]

  all_same : (cs : List Ty) → ((j : ℕ) → j < length cs → f (get_or cs j (false, 0)) ≡ g (get_or cs j (false, 0))) → all f cs ≡ all g cs
  unfolding all
  all_same [] h = refl
  all_same (c ∷ cs) h = λ i. elim (h 0 (omega arith) i) [ true ↦ all_same cs (λ j l. h (suc j) (omega arith)) i | false ↦ false ]

-- Types in turn, moved by two that agree on each of them.
each_same : (f g : Ty → Transfer → Ty × Transfer) (cs : List Ty) → ((j : ℕ) → j < length cs → (w : Transfer) → f (get_or cs j (false, 0)) w ≡ g (get_or cs j (false, 0)) w) → (m : Transfer) → transfer_each f cs m ≡ transfer_each g cs m
unfolding transfer_each
each_same f g [] h m = refl
each_same f g (c ∷ cs) h m =
    ap {B = List Ty × Transfer} (λ (r : Ty × Transfer). (r.0 ∷ (transfer_each f cs r.1).0, (transfer_each f cs r.1).1)) (h 0 (omega arith) m)
    ∙ ap {B = List Ty × Transfer} (λ (z : List Ty × Transfer). ((g c m).0 ∷ z.0, z.1)) (each_same f g cs (λ j l. h (suc j) (omega arith)) (g c m).1)

module _ (ts : Types) (formed : WellFormed ts) (acyclic : Acyclic ts) where
  -- A child of a root is a node, of lower rank.
  lower : (n : ℕ) → n < length ts → (i : Bool) (kd d : ℕ) (cs : List Ty) → state_at ts (rep ts n) ≡ known i kd d cs → (j : ℕ) → j < length cs → ((get_or cs j (false, 0)).1 < length ts) × (rank ts (get_or cs j (false, 0)).1 < rank ts n)
  lower n h i kd d cs q j l = (child_in (length ts) cs j (subst (ChildrenIn (length ts)) q (formed n h).2) l, acyclic.falls n h i kd d cs q j l)

  occurs_next : (k v : ℕ) (t : Ty) → t.1 < length ts → rank ts t.1 < k → occurs_in k ts v t ≡ occurs_in (suc k) ts v t
  unfolding occurs_in find invert_if rep
  occurs_next zero v t h l = absurd (not-suc-le-zero l)
  occurs_next (suc k) v t h l = go (eqb (rep ts t.1) v) refl (state_at ts (rep ts t.1)) refl (occurs_next k v)
    where
      go : (b : Bool) → eqb (rep ts t.1) v ≡ b → (st : TypeState) → state_at ts (rep ts t.1) ≡ st → ((c : Ty) → c.1 < length ts → rank ts c.1 < k → occurs_in k ts v c ≡ occurs_in (suc k) ts v c) → occurs_in (suc k) ts v t ≡ occurs_in (suc (suc k)) ts v t
      go true e st q ih = rw (e, occurs_in)
      go false e unknown q ih = rw (e, q, occurs_in)
      go false e (known i kd d cs) q ih = rw (e, q, occurs_in) (any_same (occurs_in k ts v) (occurs_in (suc k) ts v) cs (λ j b. let c = lower t.1 h i kd d cs q j b in ih _ c.0 (omega (arith, c.1))))

  -- `occurs`: more fuel than the table is long changes nothing.
  pub occurs_enough : (v : ℕ) (t : Ty) → t.1 < length ts → (m : ℕ) → occurs_in (m + suc (length ts)) ts v t ≡ occurs ts v t
  occurs_enough v t h = steady (λ k. occurs_in k ts v t) (suc (length ts)) (λ m. occurs_next (m + suc (length ts)) v t h (omega (arith, rank_most ts formed acyclic t.1)))

  self_inverse_next : (k : ℕ) (s : Words) (t : Ty) → t.1 < length ts → rank ts t.1 < k → self_inverse_in k s ts t ≡ self_inverse_in (suc k) s ts t
  unfolding self_inverse_in kind find invert_if invert_state rep
  self_inverse_next zero s t h l = absurd (not-suc-le-zero l)
  self_inverse_next (suc k) s t h l = go (state_at ts (rep ts t.1)) refl (self_inverse_next k s)
    where
      go : (st : TypeState) → state_at ts (rep ts t.1) ≡ st → ((c : Ty) → c.1 < length ts → rank ts c.1 < k → self_inverse_in k s ts c ≡ self_inverse_in (suc k) s ts c) → self_inverse_in (suc k) s ts t ≡ self_inverse_in (suc (suc k)) s ts t
      go unknown q ih = rw (q, self_inverse_in)
      go (known i kd d cs) q ih = at_flag (kind_flag s row_own_inverse kd d) refl
        where
          at_flag : (b : Bool) → kind_flag s row_own_inverse kd d ≡ b → self_inverse_in (suc k) s ts t ≡ self_inverse_in (suc (suc k)) s ts t
          at_flag false e = rw (q, e, self_inverse_in)
          at_flag true e = rw (q, e, self_inverse_in) (all_same (self_inverse_in k s ts) (self_inverse_in (suc k) s ts) cs (λ j b. let c = lower t.1 h i kd d cs q j b in ih _ c.0 (omega (arith, c.1))))

  -- `self_inverse`: more fuel than the table is long changes nothing.
  pub self_inverse_enough : (s : Words) (t : Ty) → t.1 < length ts → (m : ℕ) → self_inverse_in (m + suc (length ts)) s ts t ≡ self_inverse s ts t
  unfolding self_inverse
  self_inverse_enough s t h = steady (λ k. self_inverse_in k s ts t) (suc (length ts)) (λ m. self_inverse_next (m + suc (length ts)) s t h (omega (arith, rank_most ts formed acyclic t.1)))

  transfer_next : (k : ℕ) (ps : Option (List Ty)) (t : Ty) → t.1 < length ts → rank ts t.1 < k → (m : Transfer) → transfer_in k ts ps t m ≡ transfer_in (suc k) ts ps t m
  unfolding transfer_in find invert_if rep
  transfer_next zero ps t h l m = absurd (not-suc-le-zero l)
  transfer_next (suc k) ps t h l m = go (mapped m.0 (rep ts t.1)) refl (param_for ps (state_at ts (rep ts t.1))) refl (state_at ts (rep ts t.1)) refl (transfer_next k ps)
    where
      filled : Bool → ℕ → ℕ → List Ty × Transfer → Ty × Transfer
      filled i kd d q = (((find ts t).0, length m.1), (q.1.0, set q.1.1 (length m.1) (new_node (length m.1) (known i kd d q.0))))

      go : (o : Option Ty) → mapped m.0 (rep ts t.1) ≡ o → (u : Option Ty) → param_for ps (state_at ts (rep ts t.1)) ≡ u → (st : TypeState) → state_at ts (rep ts t.1) ≡ st → ((c : Ty) → c.1 < length ts → rank ts c.1 < k → (w : Transfer) → transfer_in k ts ps c w ≡ transfer_in (suc k) ts ps c w) → transfer_in (suc k) ts ps t m ≡ transfer_in (suc (suc k)) ts ps t m
      go (some u) e w f st q ih = rw (e, transfer_in)
      go none e (some u) f st q ih = rw (e, f, transfer_in)
      go none e none f unknown q ih = rw (e, f, q, transfer_in)
      go none e none f (known i kd d cs) q ih = rw (e, f, q, transfer_in) (ap (filled i kd d) (each_same (transfer_in k ts ps) (transfer_in (suc k) ts ps) cs (λ j b w. let c = lower t.1 h i kd d cs q j b in ih _ c.0 (omega (arith, c.1)) w) _))

  -- `transfer_type`: more fuel than the source is long changes nothing, whatever went before and whatever table is filled.
  pub transfer_enough : (ps : Option (List Ty)) (t : Ty) → t.1 < length ts → (m : Transfer) (k : ℕ) → transfer_in (k + suc (length ts)) ts ps t m ≡ transfer_in (suc (length ts)) ts ps t m
  transfer_enough ps t h m = steady (λ k. transfer_in k ts ps t m) (suc (length ts)) (λ k. transfer_next (k + suc (length ts)) ps t h (omega (arith, rank_most ts formed acyclic t.1)) m)

  -- `transfer` of some types likewise.
  pub transfer_types_enough : (ps : Option (List Ty)) (us : List Ty) → ((j : ℕ) → j < length us → (get_or us j (false, 0)).1 < length ts) → (m : Transfer) (k : ℕ) → transfer_each (transfer_in (k + suc (length ts)) ts ps) us m ≡ transfer_types ts ps us m
  unfolding transfer_types
  transfer_types_enough ps us h m k = each_same (transfer_in (k + suc (length ts)) ts ps) (transfer_in (suc (length ts)) ts ps) us (λ j l w. transfer_enough ps (get_or us j (false, 0)) (h j l) w k) m

-- `get_mod` follows Refs: a walk over the nodes of the table.
module _ (s : Words) (ts : Types) (formed : WellFormed ts) where
  -- Whether a type is inverted makes no difference to it.
  either_way : (k : ℕ) (b : Bool) (n : ℕ) → get_mod_in k s ts (b, n) ≡ get_mod_in k s ts (false, n)
  unfolding get_mod_in kind find invert_if invert_state rep
  either_way zero b n = refl
  either_way (suc k) b n = go (state_at ts (rep ts n)) refl
    where
      go : (st : TypeState) → state_at ts (rep ts n) ≡ st → get_mod_in (suc k) s ts (b, n) ≡ get_mod_in (suc k) s ts (false, n)
      go unknown q = rw (q, get_mod_in)
      go (known i kd d cs) q = rw (q, get_mod_in)

  mod_step : (n : ℕ) → n < length ts → ((a : Run Words) × ((k : ℕ) → get_mod_in (suc k) s ts (false, n) ≡ a)) ⊎ ((u : ℕ) × (u < length ts) × ((k : ℕ) → get_mod_in (suc k) s ts (false, n) ≡ get_mod_in k s ts (false, u)))
  unfolding get_mod_in kind find invert_if invert_state rep
  mod_step n h = go (state_at ts (rep ts n)) refl
    where
      first_in : (cs : List Ty) → AllIn (length ts) cs → (get_or cs 0 (false, 0)).1 < length ts
      first_in [] a = omega arith
      first_in (c ∷ cs) a = a.0

      go : (st : TypeState) → state_at ts (rep ts n) ≡ st → ((a : Run Words) × ((k : ℕ) → get_mod_in (suc k) s ts (false, n) ≡ a)) ⊎ ((u : ℕ) × (u < length ts) × ((k : ℕ) → get_mod_in (suc k) s ts (false, n) ≡ get_mod_in k s ts (false, u)))
      go unknown q = inl (done [], λ k. rw (q, get_mod_in))
      go (known i kd d cs) q = at_kind (eqb kd kind_error) refl (eqb kd kind_ref) refl
        where
          at_kind : (e : Bool) → eqb kd kind_error ≡ e → (r : Bool) → eqb kd kind_ref ≡ r → ((a : Run Words) × ((k : ℕ) → get_mod_in (suc k) s ts (false, n) ≡ a)) ⊎ ((u : ℕ) × (u < length ts) × ((k : ℕ) → get_mod_in (suc k) s ts (false, n) ≡ get_mod_in k s ts (false, u)))
          at_kind true e r f = inl (stop 19, λ k. rw (q, e, get_mod_in))
          at_kind false e false f = inl (get_mod_in 1 s ts (false, n), λ k. rw (q, e, f, get_mod_in))
          at_kind false e true f = inr ((get_or cs 0 (false, 0)).1, first_in cs (subst (ChildrenIn (length ts)) q (formed n h).2), λ k. rw (q, e, f, get_mod_in) (either_way k (get_or cs 0 (false, 0)).0 (get_or cs 0 (false, 0)).1))

  -- `get_mod`: more fuel than the table is long changes nothing, acyclic or not.
  pub get_mod_enough : (t : Ty) → t.1 < length ts → (m : ℕ) → get_mod_in (m + suc (length ts)) s ts t ≡ get_mod s ts t
  unfolding get_mod get_mod_in
  get_mod_enough t h m = either_way (m + suc (length ts)) t.0 t.1 ∙ walk_enough (λ k n. get_mod_in k s ts (false, n)) (done []) (length ts) (λ n. refl) mod_step t.1 h m ∙ sym (either_way (suc (length ts)) t.0 t.1)
