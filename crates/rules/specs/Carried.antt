-- What every join keeps, unification keeps; what every push and every filling keeps, transfer keeps. For any property of tables.
use Prim.Native.Nat.{ℕ, zero, suc, ◌<◌}
use Rattle.std.specs.Prelude.{◌≡◌, Bool, not, ◌&&◌, ◌||◌, length, set}
use Rattle.std.proofs.Math.Path.{refl}
use Rattle.std.proofs.Common.{ap, subst}
use Rattle.std.proofs.Math.Bool.{true, false}
use mathlib.Core.List.{List, [], ◌∷◌, ◌++◌, map}
use Rattle.std.proofs.Math.Option.{Option, none, some}
use Rattle.std.proofs.Math.Dec.{eqb}
use Rattle.rules.specs.Lists.{Words}
use Rattle.rules.specs.Layout.{kind_closure, kind_error}
use Rattle.rules.specs.Sheet.{kind_flag, row_may_meet}
use Rattle.rules.specs.Types.{Ty, TypeState, unknown, known, Types, new_node, xor, invert_if, find, state_at, occurs, UnifyResult, success, failure, indeterminate, join, Unified, unify_each, unify_types, last_of, unify_children, unify_known, join_on_success, bind_unknown, unify_states, unify_roots, unify_in, unify, ImplType, unify_impl_type}
use Rattle.rules.specs.Transfer.{Transfer, mapped, param_for, transfer_each, transfer_in, transfer_types}
use Rattle.rules.specs.Robinson.{rep, AllIn, ChildrenIn, WellFormed}

-- A property that every join keeps.
module _ (P : Types → Type 0) (joins : (ts : Types) (a b : Ty) → P ts → P (join ts a b)) where
  abbrev Carries : (Types → Ty → Ty → Unified) → Type 0
  Carries f = (ts : Types) (a b : Ty) → P ts → P (f ts a b).1

  bind_carries : Carries bind_unknown
  unfolding bind_unknown
  bind_carries ts x y p = go (occurs ts x.1 y || occurs ts y.1 x) refl
    where
      go : (b : Bool) → (occurs ts x.1 y || occurs ts y.1 x) ≡ b → P (bind_unknown ts x y).1
      go true e = rw (e, bind_unknown) p
      go false e = rw (e, bind_unknown) (joins ts x y p)

  joined_carries : (m : Unified) (x y : Ty) → P m.1 → P (join_on_success m x y).1
  unfolding join_on_success
  joined_carries m x y p = go m.0 refl
    where
      go : (v : UnifyResult) → m.0 ≡ v → P (join_on_success m x y).1
      go success e = rw (e, join_on_success) (joins m.1 x y p)
      go failure e = rw (e, join_on_success) p
      go indeterminate e = rw (e, join_on_success) p

  module _ (f : Types → Ty → Ty → Unified) (carries : Carries f) where
    each_carries : (ts : Types) (xs ys : List Ty) → P ts → P (unify_each f ts xs ys).1
    unfolding unify_each
    each_carries ts [] ys p = p
    each_carries ts (x ∷ xs) [] p = p
    each_carries ts (x ∷ xs) (y ∷ ys) p = each_carries (f ts x y).1 xs ys (carries ts x y p)

    children_carry : (ts : Types) (k : ℕ) (xs ys : List Ty) → P ts → P (unify_children f ts k xs ys).1
    unfolding unify_children
    children_carry ts k xs ys p = go (eqb (length xs) (length ys)) refl (eqb k kind_closure) refl
      where
        go : (b : Bool) → eqb (length xs) (length ys) ≡ b → (c : Bool) → eqb k kind_closure ≡ c → P (unify_children f ts k xs ys).1
        go true e c q = rw (e, unify_children) (each_carries ts xs ys p)
        go false e true q = rw (e, q, unify_children) (each_carries ts (last_of xs) (last_of ys) p)
        go false e false q = rw (e, q, unify_children) p

    -- Two known types keep it,
    pub known_carries : (s : Words) (ts : Types) (inv : Bool) (k d : ℕ) (xs : List Ty) (k' d' : ℕ) (ys : List Ty) → P ts → P (unify_known f s ts inv k d xs k' d' ys).1
    unfolding unify_known
    known_carries s ts inv k d xs k' d' ys p = go (eqb k kind_error || eqb k' kind_error) refl (eqb k k' && eqb d d' && (not inv || kind_flag s row_may_meet k d)) refl
      where
        go : (b : Bool) → (eqb k kind_error || eqb k' kind_error) ≡ b → (c : Bool) → (eqb k k' && eqb d d' && (not inv || kind_flag s row_may_meet k d)) ≡ c → P (unify_known f s ts inv k d xs k' d' ys).1
        go true e c q = rw (e, unify_known) p
        go false e true q = rw (e, q, unify_known) (children_carry ts k xs (map (invert_if inv) ys) p)
        go false e false q = rw (e, q, unify_known) p

    states_carry : (s : Words) (ts : Types) (x y : Ty) (u v : TypeState) → P ts → P (unify_states f s ts x y u v).1
    unfolding unify_states
    states_carry s ts x y unknown v p = bind_carries ts x y p
    states_carry s ts x y (known i k d xs) unknown p = bind_carries ts x y p
    states_carry s ts x y (known i k d xs) (known j k' d' ys) p = joined_carries (unify_known f s ts (xor (xor i x.0) (xor j y.0)) k d xs k' d' ys) x y (known_carries s ts (xor (xor i x.0) (xor j y.0)) k d xs k' d' ys p)

    roots_carry : (s : Words) (ts : Types) (x y : Ty) → P ts → P (unify_roots f s ts x y).1
    unfolding unify_roots
    roots_carry s ts x y p = go (eqb x.1 y.1) refl
      where
        go : (b : Bool) → eqb x.1 y.1 ≡ b → P (unify_roots f s ts x y).1
        go true e = rw (e, unify_roots) p
        go false e = rw (e, unify_roots) (states_carry s ts x y (state_at ts x.1) (state_at ts y.1) p)

    types_carry : (ts : Types) (xs ys : List Ty) → P ts → P (unify_types f ts xs ys).1
    unfolding unify_types
    types_carry ts xs ys p = go (eqb (length xs) (length ys)) refl
      where
        go : (b : Bool) → eqb (length xs) (length ys) ≡ b → P (unify_types f ts xs ys).1
        go true e = rw (e, unify_types) (each_carries ts xs ys p)
        go false e = rw (e, unify_types) p

  -- and so do any two, to any depth.
  pub unify_in_carries : (n : ℕ) (s : Words) → Carries (unify_in n s)
  unfolding unify_in
  unify_in_carries zero s ts a b p = p
  unify_in_carries (suc n) s ts a b p = roots_carry (λ us t u. unify_in n s us t u) (unify_in_carries n s) s ts (find ts a) (find ts b) p

  -- Unification keeps it, whatever the verdict,
  pub unify_carries : (s : Words) → Carries (unify s)
  unfolding unify
  unify_carries s ts = unify_in_carries (suc (length ts)) s ts

  -- and so does that of impl types.
  pub impl_type_carries : (s : Words) (ts : Types) (a b : ImplType) → P ts → P (unify_impl_type s ts a b).1
  unfolding unify_impl_type
  impl_type_carries s ts a b p = go (eqb a.0 0 || eqb b.0 0) refl (eqb a.0 b.0) refl
    where
      go : (o : Bool) → (eqb a.0 0 || eqb b.0 0) ≡ o → (c : Bool) → eqb a.0 b.0 ≡ c → P (unify_impl_type s ts a b).1
      go true e c q = rw (e, unify_impl_type) p
      go false e true q = rw (e, q, unify_impl_type) (types_carry (unify s) (unify_carries s) ts a.1 b.1 p)
      go false e false q = rw (e, q, unify_impl_type) p

-- As many types arrive as are moved.
pub each_length : (f : Ty → Transfer → Ty × Transfer) (cs : List Ty) (m : Transfer) → length (transfer_each f cs m).0 ≡ length cs
unfolding transfer_each
each_length f [] m = refl
each_length f (c ∷ cs) m = ap suc (each_length f cs (f c m).1)

-- A new node for root r, unknown as yet.
abbrev pub pushed : Transfer → ℕ → Transfer
pushed m r = ((r, (false, length m.1)) ∷ m.0, m.1 ++ (new_node (length m.1) unknown ∷ []))

-- A property that every push of a root not yet mapped keeps, and every filling of a node with as many children as a root of the source has.
module _ (src : Types) (formed : WellFormed src) (ps : Option (List Ty)) (I : Transfer → Type 0) (pushes : (m : Transfer) (r : ℕ) → r < length src → mapped m.0 r ≡ none → I m → I (pushed m r)) (fills : (m : Transfer) (n r : ℕ) (i : Bool) (kd d : ℕ) (cs qs : List Ty) → state_at src r ≡ known i kd d cs → length qs ≡ length cs → I m → I (m.0, set m.1 n (new_node n (known i kd d qs)))) where
  abbrev Moves : (Ty → Transfer → Ty × Transfer) → Type 0
  Moves f = (t : Ty) (m : Transfer) → t.1 < length src → I m → I (f t m).1

  each_moves : (f : Ty → Transfer → Ty × Transfer) → Moves f → (cs : List Ty) (m : Transfer) → AllIn (length src) cs → I m → I (transfer_each f cs m).1
  unfolding transfer_each
  each_moves f moves [] m a v = v
  each_moves f moves (c ∷ cs) m a v = each_moves f moves cs (f c m).1 a.1 (moves c m a.0 v)

  in_moves : (k : ℕ) → Moves (transfer_in k src ps)
  unfolding transfer_in find invert_if rep
  in_moves zero t m h v = v
  in_moves (suc k) t m h v = go (mapped m.0 (rep src t.1)) refl (param_for ps (state_at src (rep src t.1))) refl (state_at src (rep src t.1)) refl (in_moves k)
    where
      go : (o : Option Ty) → mapped m.0 (rep src t.1) ≡ o → (u : Option Ty) → param_for ps (state_at src (rep src t.1)) ≡ u → (st : TypeState) → state_at src (rep src t.1) ≡ st → Moves (transfer_in k src ps) → I (transfer_in (suc k) src ps t m).1
      go (some u) e w f st q ih = rw (e, transfer_in) v
      go none e (some u) f st q ih = rw (e, f, transfer_in) v
      go none e none f unknown q ih = rw (e, f, q, transfer_in) (pushes m (rep src t.1) (formed t.1 h).0 e v)
      go none e none f (known i kd d cs) q ih =
          rw (e, f, q, transfer_in)
          (fills (transfer_each (λ c w. transfer_in k src ps c w) cs (pushed m (rep src t.1))).1 (length m.1) (rep src t.1) i kd d cs (transfer_each (λ c w. transfer_in k src ps c w) cs (pushed m (rep src t.1))).0 q
          (each_length (λ c w. transfer_in k src ps c w) cs (pushed m (rep src t.1)))
          (each_moves (λ c w. transfer_in k src ps c w) ih cs (pushed m (rep src t.1)) (subst (ChildrenIn (length src)) q (formed t.1 h).2) (pushes m (rep src t.1) (formed t.1 h).0 e v)))

  -- Transfer keeps it.
  pub transfer_carries : (ts : List Ty) (m : Transfer) → AllIn (length src) ts → I m → I (transfer_types src ps ts m).1
  unfolding transfer_types
  transfer_carries ts m a v = each_moves (transfer_in (suc (length src)) src ps) (in_moves (suc (length src))) ts m a v
