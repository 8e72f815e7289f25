-- Errors stay apart: no join that succeeds puts two of them into one class, for Error against a known type is indeterminate; and an import puts each at a new node of its own.
use Prim.Native.Nat.{ℕ, zero, suc, ◌≤◌, ◌<◌}
use Rattle.std.specs.Prelude.{◌≡◌, Bool, not, ◌&&◌, ◌||◌, ◌≢◌, ◌⊎◌, set}
use Rattle.std.proofs.Math.Path.{refl, sym, ap, subst}
use Rattle.std.proofs.Common.{◌∙◌, inr, le_trans, lt_irrefl, arith, length-append, length-set}
use Rattle.std.proofs.Math.Bool.{true, false}
use mathlib.Core.List.{List, [], ◌∷◌, map}
use Rattle.std.proofs.Math.Option.{Option, none, some, none-ne-some}
use Rattle.std.proofs.Math.Logic.{inl, ⊎_elim}
use Rattle.std.proofs.Math.Decide.{ℕ_discrete}
use Rattle.std.proofs.Math.Dec.{eqb}
use Rattle.std.proofs.Math.ListN.{length}
use Rattle.rules.specs.Lists.{Words}
use Rattle.rules.specs.Layout.{kind_closure, kind_error}
use Rattle.rules.specs.Sheet.{kind_flag, row_may_meet}
use Rattle.rules.specs.Types.{Ty, TypeState, unknown, known, TypeNode, Types, new_node, node_at, xor, invert_if, invert_state, find, state_at, success, larger, or_else, hang, join, Unified, occurs_in, unify_each, unify_types, unify_children, unify_known, bind_unknown, unify_states, unify_roots, unify_in, unify, ImplType, unify_impl_type}
use Rattle.rules.specs.Transfer.{Transfer, mapped, param_for, transfer_each, transfer_in, transfer_types}
use Rattle.rules.specs.Solutions.{term_size, Sol, terms, rep, Fits, Solves, AllIn, ChildrenIn, WellFormed, eqb_true, eqb_false, known≢, Readable}
use Rattle.rules.specs.Joining.{hang_state, hang_top, same-terms}
use Rattle.rules.specs.MostGeneral.{Won, Right, AfterAll, both_won, flip_in, known_right, join_won, unify_in_right}
use Rattle.rules.specs.TransferKeeps.{set_off}
use Rattle.rules.specs.Carried.{pushed, transfer_carries}
use Rattle.rules.specs.TransferCount.{push_cases}
use Rattle.rules.specs.UprightRoots.{relabel_out, turn, hung_top, hung_off}
use Rattle.rules.specs.CommonTerms.{Frame, frame_state, set_state, each_frame, past_push, in_frame}
use Rattle.rules.specs.CommonSides.{up_turns}

-- A state is Error.
abbrev pub IsError : TypeState → Type 0
IsError unknown = ⊥
IsError (known i k d cs) = k ≡ kind_error

-- From a table to a later one: a class that is Error stays so, and no two of them become one.
pub record Apart (ts us : Types) : Type 0 where
  pub stays : (a : ℕ) → a < length ts → IsError (state_at ts (rep ts a)) → IsError (state_at us (rep us a))
  pub apart : (a b : ℕ) → a < length ts → b < length ts → IsError (state_at ts (rep ts a)) → IsError (state_at ts (rep ts b)) → rep us a ≡ rep us b → rep ts a ≡ rep ts b

apart_refl : (ts : Types) → Apart ts ts
apart_refl ts = record { stays = λ a h e. e; apart = λ a b ha hb ea eb q. q }

apart_trans : (ts us vs : Types) → length us ≡ length ts → Apart ts us → Apart us vs → Apart ts vs
apart_trans ts us vs l p q = record {
  stays = λ a h e. q.stays a (on a h) (p.stays a h e);
  apart = λ a b ha hb ea eb r. p.apart a b ha hb ea eb (q.apart a b (on a ha) (on b hb) (p.stays a ha ea) (p.stays b hb eb) r);
}
  where
    on : (n : ℕ) → n < length ts → n < length us
    on n h = subst (λ N. n < N) (sym l) h

-- Of two states to be joined, what is beside an Error is unknown.
abbrev Clear : TypeState → TypeState → Type 0
Clear u v = (IsError u → v ≡ unknown) × (IsError v → u ≡ unknown)

-- Root lo was hung under root hi.
module _ (ts : Types) (lo hi : Ty) (hlo : lo.1 < length ts) (hhi : hi.1 < length ts) (rlo : rep ts lo.1 ≡ lo.1) (rhi : rep ts hi.1 ≡ hi.1) (ne : lo.1 ≢ hi.1) (formed : WellFormed ts) (clear : Clear (state_at ts lo.1) (state_at ts hi.1)) where
  goes : (n : ℕ) → n < length ts → rep ts n ≡ lo.1 → rep (hang ts lo hi) n ≡ hi.1
  unfolding rep
  goes n h e = ap (λ (t : Ty). t.1) (up_turns ts lo hi hlo hhi rlo rhi ne formed n h e)

  rests : (n : ℕ) → n < length ts → rep ts n ≢ lo.1 → rep (hang ts lo hi) n ≡ rep ts n
  unfolding rep
  rests n h d = go (ℕ_discrete n hi.1)
    where
      go : Dec (n ≡ hi.1) → rep (hang ts lo hi) n ≡ rep ts n
      go (yes q) = subst (λ m. rep (hang ts lo hi) m ≡ rep ts m) (sym q) (ap (λ (t : Ty). t.1) (hung_top ts lo hi hhi) ∙ sym rhi)
      go (no q) = ap (λ (nd : TypeNode). nd.up.1) (hung_off ts lo hi n h q ∙ relabel_out lo.1 (turn ts lo hi, hi.1) (node_at ts n) d)

  top_low : (b : Bool) (u v : TypeState) → v ≡ unknown → IsError u → IsError (or_else v (invert_state b u))
  unfolding or_else invert_state
  top_low b unknown v q e = absurd e
  top_low b (known i k d cs) unknown q e = e
  top_low b (known i k d cs) (known j k' d' ys) q e = absurd (known≢ q)

  top_high : (u v : TypeState) → IsError v → IsError (or_else v u)
  unfolding or_else
  top_high u unknown e = absurd e
  top_high u (known i k d cs) e = e

  hang_stays : (a : ℕ) → a < length ts → IsError (state_at ts (rep ts a)) → IsError (state_at (hang ts lo hi) (rep (hang ts lo hi) a))
  hang_stays a h e = go (ℕ_discrete (rep ts a) lo.1) (ℕ_discrete (rep ts a) hi.1)
    where
      go : Dec (rep ts a ≡ lo.1) → Dec (rep ts a ≡ hi.1) → IsError (state_at (hang ts lo hi) (rep (hang ts lo hi) a))
      go (yes q) z =
          let low : IsError (state_at ts lo.1) = subst (λ r. IsError (state_at ts r)) q e in
          subst (λ r. IsError (state_at (hang ts lo hi) r)) (sym (goes a h q)) (subst IsError (sym (hang_top ts lo hi hlo hhi rlo rhi ne)) (top_low (xor hi.0 lo.0) (state_at ts lo.1) (state_at ts hi.1) (clear.0 low) low))
      go (no q) (yes z) = subst (λ r. IsError (state_at (hang ts lo hi) r)) (sym (rests a h q ∙ z)) (subst IsError (sym (hang_top ts lo hi hlo hhi rlo rhi ne)) (top_high _ (state_at ts hi.1) (subst (λ r. IsError (state_at ts r)) z e)))
      go (no q) (no z) = subst (λ r. IsError (state_at (hang ts lo hi) r)) (sym (rests a h q)) (subst IsError (sym (hang_state ts lo hi hlo hhi rlo rhi ne (rep ts a) (formed a h).0 z)) e)

  -- Both cannot be Errors.
  not_both : IsError (state_at ts lo.1) → IsError (state_at ts hi.1) → ⊥
  not_both a b = subst IsError (clear.0 a) b

  hang-apart : Apart ts (hang ts lo hi)
  hang-apart = record { stays = hang_stays; apart = λ a b ha hb ea eb q. go a b ha hb ea eb q (ℕ_discrete (rep ts a) lo.1) (ℕ_discrete (rep ts b) lo.1) }
    where
      at_root : (a r : ℕ) → IsError (state_at ts (rep ts a)) → rep ts a ≡ r → IsError (state_at ts r)
      at_root a r e q = subst (λ n. IsError (state_at ts n)) q e

      go : (a b : ℕ) → a < length ts → b < length ts → IsError (state_at ts (rep ts a)) → IsError (state_at ts (rep ts b)) → rep (hang ts lo hi) a ≡ rep (hang ts lo hi) b → Dec (rep ts a ≡ lo.1) → Dec (rep ts b ≡ lo.1) → rep ts a ≡ rep ts b
      go a b ha hb ea eb q (yes x) (yes y) = x ∙ sym y
      go a b ha hb ea eb q (yes x) (no y) = absurd (not_both (at_root a lo.1 ea x) (at_root b hi.1 eb (sym (rests b hb y) ∙ sym q ∙ goes a ha x)))
      go a b ha hb ea eb q (no x) (yes y) = absurd (not_both (at_root b lo.1 eb y) (at_root a hi.1 ea (sym (rests a ha x) ∙ q ∙ goes b hb y)))
      go a b ha hb ea eb q (no x) (no y) = sym (rests a ha x) ∙ q ∙ rests b hb y

-- Two roots of which one is unknown, or none is Error, were joined.
module _ (ts : Types) (x y : Ty) (hx : x.1 < length ts) (hy : y.1 < length ts) (rx : rep ts x.1 ≡ x.1) (ry : rep ts y.1 ≡ y.1) (ne : x.1 ≢ y.1) (formed : WellFormed ts) (clear : Clear (state_at ts x.1) (state_at ts y.1)) where
  join_apart : Apart ts (join ts x y)
  unfolding join
  join_apart = go (larger ts x y) refl
    where
      go : (c : Bool) → larger ts x y ≡ c → Apart ts (join ts x y)
      go true e = rw (e, join) (hang-apart ts y x hy hx ry rx (λ q. ne (sym q)) formed (clear.1, clear.0))
      go false e = rw (e, join) (hang-apart ts x y hx hy rx ry ne formed clear)

  bind_apart : Apart ts (bind_unknown ts x y).1
  unfolding bind_unknown
  bind_apart = go (occurs_in (suc (length ts)) ts x.1 y || occurs_in (suc (length ts)) ts y.1 x) refl
    where
      go : (b : Bool) → (occurs_in (suc (length ts)) ts x.1 y || occurs_in (suc (length ts)) ts y.1 x) ≡ b → Apart ts (bind_unknown ts x y).1
      go true q = rw (q, bind_unknown) (apart_refl ts)
      go false q = rw (q, bind_unknown) join_apart

-- Two roots stay roots, and known as before.
pub record Still (ts us : Types) (x y : ℕ) : Type 0 where
  pub left : rep us x ≡ x
  pub right : rep us y ≡ y
  pub left_state : state_at us x ≡ state_at ts x
  pub right_state : state_at us y ≡ state_at ts y

-- Two known types that met: neither is Error,
pub known_plain : (f : Types → Ty → Ty → Unified) (s : Words) (ts : Types) (inv : Bool) (k d : ℕ) (xs : List Ty) (k' d' : ℕ) (ys : List Ty) → Won (unify_known f s ts inv k d xs k' d' ys).0 → (k ≢ kind_error) × (k' ≢ kind_error)
unfolding unify_known
known_plain f s ts inv k d xs k' d' ys w = go (ℕ_discrete k kind_error) (ℕ_discrete k' kind_error) w
  where
    go : Dec (k ≡ kind_error) → Dec (k' ≡ kind_error) → Won (unify_known f s ts inv k d xs k' d' ys).0 → (k ≢ kind_error) × (k' ≢ kind_error)
    go (yes q) z v = absurd (rw (eqb_true k kind_error q, unify_known) at v)
    go (no q) (yes z) v = absurd (rw (eqb_false k kind_error q, eqb_true k' kind_error z, unify_known) at v)
    go (no q) (no z) v = (q, z)

-- and where they are roots they stay so, for what their children touched is smaller.
pub known_still : (f : Types → Ty → Ty → Unified) → Right f → (s : Words) (ts : Types) (x y : ℕ) → WellFormed ts → x < length ts → y < length ts → rep ts x ≡ x → rep ts y ≡ y → Readable ts → (inv i : Bool) (k d : ℕ) (xs : List Ty) (j : Bool) (k' d' : ℕ) (ys : List Ty) → state_at ts x ≡ known i k d xs → state_at ts y ≡ known j k' d' ys → Won (unify_known f s ts inv k d xs k' d' ys).0 → Still ts (unify_known f s ts inv k d xs k' d' ys).1 x y
unfolding term_size
known_still f right s ts x y formed hx hy rx ry fr inv i k d xs j k' d' ys eu ev w = record { left = rx'; right = ry'; left_state = q.kept x hx rx rx' (λ z. known≢ (sym eu ∙ z)); right_state = q.kept y hy ry ry' (λ z. known≢ (sym ev ∙ z)) }
  where
    us : Types
    us = (unify_known f s ts inv k d xs k' d' ys).1

    children : (r : ℕ) (st : TypeState) → r < length ts → rep ts r ≡ r → state_at ts r ≡ st → ChildrenIn (length ts) st
    children r st h rr e = subst (ChildrenIn (length ts)) (ap (state_at ts) rr ∙ e) (formed r h).2

    ax : AllIn (length ts) xs
    ax = children x (known i k d xs) hx rx eu

    ay : AllIn (length ts) ys
    ay = children y (known j k' d' ys) hy ry ev

    p : (k ≡ k') × (d ≡ d') × AfterAll ts xs ys us × Readable us
    p = known_right f right s ts inv k d xs k' d' ys formed ax ay fr w

    q : AfterAll ts xs ys us
    q = p.2

    σ : Sol
    σ = p.3.0

    so : Solves us σ
    so = p.3.1.solves

    fit : (r : ℕ) → r < length ts → rep ts r ≡ r → (st : TypeState) → state_at ts r ≡ st → Fits σ r st
    fit r h rr st e = subst (Fits σ r) e (subst (λ n. Fits σ n (state_at ts n)) rr (q.out σ so r h).1)

    meet : terms σ xs ≡ terms σ ys
    meet = same-terms us σ so xs ys (subst (λ N. AllIn N xs) (sym q.len) ax) (subst (λ N. AllIn N ys) (sym q.len) ay) q.meet

    rx' : rep us x ≡ x
    rx' = q.quiet σ so x hx rx (omega (arith, ap term_size (fit x hx rx (known i k d xs) eu)))

    ry' : rep us y ≡ y
    ry' = q.quiet σ so y hy ry (omega (arith, ap term_size (fit y hy ry (known j k' d' ys) ev), ap term_size meet))

-- A success of unification, layer by layer.
module _ (s : Words) where
  abbrev Parts : (Types → Ty → Ty → Unified) → Type 0
  Parts f = (ts : Types) (a b : Ty) → WellFormed ts → a.1 < length ts → b.1 < length ts → Readable ts → Won (f ts a b).0 → Apart ts (f ts a b).1

  module _ (f : Types → Ty → Ty → Unified) (right : Right f) (parts : Parts f) where
    each_apart : (ts : Types) (xs ys : List Ty) → WellFormed ts → AllIn (length ts) xs → AllIn (length ts) ys → Readable ts → Won (unify_each f ts xs ys).0 → Apart ts (unify_each f ts xs ys).1
    unfolding unify_each
    each_apart ts [] ys formed ax ay fr w = apart_refl ts
    each_apart ts (x ∷ xs) [] formed ax ay fr w = apart_refl ts
    each_apart ts (x ∷ xs) (y ∷ ys) formed ax ay fr w =
        let m = f ts x y in
        let won = both_won m.0 (unify_each f m.1 xs ys).0 w in
        let p = right ts x y formed ax.0 ay.0 fr won.0 in
        let len : length ts ≡ length m.1 = sym p.0.len in
        apart_trans ts m.1 _ p.0.len (parts ts x y formed ax.0 ay.0 fr won.0) (each_apart m.1 xs ys p.0.formed (subst (λ N. AllIn N xs) len ax.1) (subst (λ N. AllIn N ys) len ay.1) p.1 won.1)

    children-apart : (ts : Types) (k : ℕ) (xs ys : List Ty) → WellFormed ts → AllIn (length ts) xs → AllIn (length ts) ys → Readable ts → Won (unify_children f ts k xs ys).0 → Apart ts (unify_children f ts k xs ys).1
    unfolding unify_children
    children-apart ts k xs ys formed ax ay fr w = go (eqb (length xs) (length ys)) refl (eqb k kind_closure) refl w
      where
        go : (b : Bool) → eqb (length xs) (length ys) ≡ b → (c : Bool) → eqb k kind_closure ≡ c → Won (unify_children f ts k xs ys).0 → Apart ts (unify_children f ts k xs ys).1
        go true e c q v = rw (e, unify_children) (each_apart ts xs ys formed ax ay fr (rw (e, unify_children) at v))
        go false e true q v = absurd (rw (e, q, unify_children) at v)
        go false e false q v = absurd (rw (e, q, unify_children) at v)

    known_apart : (ts : Types) (inv : Bool) (k d : ℕ) (xs : List Ty) (k' d' : ℕ) (ys : List Ty) → WellFormed ts → AllIn (length ts) xs → AllIn (length ts) ys → Readable ts → Won (unify_known f s ts inv k d xs k' d' ys).0 → Apart ts (unify_known f s ts inv k d xs k' d' ys).1
    unfolding unify_known
    known_apart ts inv k d xs k' d' ys formed ax ay fr w = go (eqb k kind_error || eqb k' kind_error) refl (eqb k k' && eqb d d' && (not inv || kind_flag s row_may_meet k d)) refl w
      where
        go : (b : Bool) → (eqb k kind_error || eqb k' kind_error) ≡ b → (c : Bool) → (eqb k k' && eqb d d' && (not inv || kind_flag s row_may_meet k d)) ≡ c → Won (unify_known f s ts inv k d xs k' d' ys).0 → Apart ts (unify_known f s ts inv k d xs k' d' ys).1
        go true e c e' v = absurd (rw (e, unify_known) at v)
        go false e false e' v = absurd (rw (e, e', unify_known) at v)
        go false e true e' v = rw (e, e', unify_known) (children-apart ts k xs (map (invert_if inv) ys) formed ax (flip_in inv (length ts) ys ay) fr (rw (e, e', unify_known) at v))

    module _ (ts : Types) (x y : Ty) (formed : WellFormed ts) (hx : x.1 < length ts) (hy : y.1 < length ts) (rx : rep ts x.1 ≡ x.1) (ry : rep ts y.1 ≡ y.1) (fr : Readable ts) where
      -- Two known roots.
      both-apart : x.1 ≢ y.1 → (inv i : Bool) (k d : ℕ) (xs : List Ty) (j : Bool) (k' d' : ℕ) (ys : List Ty) → state_at ts x.1 ≡ known i k d xs → state_at ts y.1 ≡ known j k' d' ys → let m = unify_known f s ts inv k d xs k' d' ys in Won m.0 → Apart ts (join m.1 x y)
      both-apart ne inv i k d xs j k' d' ys eu ev w =
          let us = (unify_known f s ts inv k d xs k' d' ys).1 in
          let ax = children x.1 (known i k d xs) hx rx eu in
          let ay = children y.1 (known j k' d' ys) hy ry ev in
          let p = (known_right f right s ts inv k d xs k' d' ys formed ax ay fr w).2 in
          let r = known_still f right s ts x.1 y.1 formed hx hy rx ry fr inv i k d xs j k' d' ys eu ev w in
          let plain = known_plain f s ts inv k d xs k' d' ys w in
          let clear : Clear (state_at us x.1) (state_at us y.1) = (λ z. absurd (plain.0 (subst IsError (r.left_state ∙ eu) z)), λ z. absurd (plain.1 (subst IsError (r.right_state ∙ ev) z))) in
          apart_trans ts us _ p.len (known_apart ts inv k d xs k' d' ys formed ax ay fr w) (join_apart us x y (subst (λ N. x.1 < N) (sym p.len) hx) (subst (λ N. y.1 < N) (sym p.len) hy) r.left r.right ne p.formed clear)
        where
          children : (r : ℕ) (st : TypeState) → r < length ts → rep ts r ≡ r → state_at ts r ≡ st → ChildrenIn (length ts) st
          children r st h rr e = subst (ChildrenIn (length ts)) (ap (state_at ts) rr ∙ e) (formed r h).2

      states_apart : x.1 ≢ y.1 → (u v : TypeState) → state_at ts x.1 ≡ u → state_at ts y.1 ≡ v → Won (unify_states f s ts x y u v).0 → Apart ts (unify_states f s ts x y u v).1
      unfolding unify_states
      states_apart ne unknown v eu ev w = bind_apart ts x y hx hy rx ry ne formed (λ z. absurd (subst IsError eu z), λ z. eu)
      states_apart ne (known i k d xs) unknown eu ev w = bind_apart ts x y hx hy rx ry ne formed (λ z. ev, λ z. absurd (subst IsError ev z))
      states_apart ne (known i k d xs) (known j k' d' ys) eu ev w =
          let inv = xor (xor i x.0) (xor j y.0) in
          let jw = join_won (unify_known f s ts inv k d xs k' d' ys) x y w in
          subst (Apart ts) (sym jw.1) (both-apart ne inv i k d xs j k' d' ys eu ev jw.0)

      roots_apart : Won (unify_roots f s ts x y).0 → Apart ts (unify_roots f s ts x y).1
      unfolding unify_roots
      roots_apart w = go (ℕ_discrete x.1 y.1) w
        where
          go : Dec (x.1 ≡ y.1) → Won (unify_roots f s ts x y).0 → Apart ts (unify_roots f s ts x y).1
          go (yes e) v = rw (eqb_true x.1 y.1 e, unify_roots) (apart_refl ts)
          go (no e) v = rw (eqb_false x.1 y.1 e, unify_roots) (states_apart e (state_at ts x.1) (state_at ts y.1) refl refl (rw (eqb_false x.1 y.1 e, unify_roots) at v))

  -- `unify`, to any depth.
  unify_in_parts : (n : ℕ) → Parts (unify_in n s)
  unfolding unify_in find invert_if rep
  unify_in_parts zero ts a b formed ha hb fr w = absurd w
  unify_in_parts (suc n) ts a b formed ha hb fr w =
      let ga = formed a.1 ha in
      let gb = formed b.1 hb in
      roots_apart (λ us t u. unify_in n s us t u) (unify_in_right n s) (unify_in_parts n) ts (find ts a) (find ts b) formed ga.0 gb.0 ga.1 gb.1 fr w

  -- Where `unify_impl_type` succeeds, Errors are apart as before.
  pub impl_type_apart : (ts : Types) (a b : ImplType) → WellFormed ts → AllIn (length ts) a.1 → AllIn (length ts) b.1 → Readable ts → (unify_impl_type s ts a b).0 ≡ success → Apart ts (unify_impl_type s ts a b).1
  unfolding unify_impl_type unify_types unify
  impl_type_apart ts a b formed ax ay fr won = go (eqb a.0 0 || eqb b.0 0) refl (eqb a.0 b.0) refl (eqb (length a.1) (length b.1)) refl (subst Won (sym won) tt)
    where
      go : (o : Bool) → (eqb a.0 0 || eqb b.0 0) ≡ o → (p : Bool) → eqb a.0 b.0 ≡ p → (q : Bool) → eqb (length a.1) (length b.1) ≡ q → Won (unify_impl_type s ts a b).0 → Apart ts (unify_impl_type s ts a b).1
      go true e p e' q e'' w = absurd (rw (e, unify_impl_type) at w)
      go false e false e' q e'' w = absurd (rw (e, e', unify_impl_type) at w)
      go false e true e' false e'' w = absurd (rw (e, e', unify_impl_type, e'', unify_types) at w)
      go false e true e' true e'' w = rw (e, e', unify_impl_type) (rw (e'', unify_types) (each_apart (unify s) (λ us. unify_in_right (suc (length us)) s us) (λ us. unify_in_parts (suc (length us)) us) ts a.1 b.1 formed ax ay fr (rw (e, e', unify_impl_type, e'', unify_types) at w)))

-- What the other nodes are where one was filled.
off_state : (ts : Types) (n k : ℕ) (st : TypeState) → k ≢ n → state_at (set ts n (new_node n st)) k ≡ state_at ts k
unfolding state_at
off_state ts n k st d = ap (λ (x : TypeNode). x.state) (set_off ts n k (new_node n st) d)

-- Where the roots of a source went.
module _ (src : Types) (ps : Option (List Ty)) where
  -- Root r went to a node that was pushed between m and m'; if it is Error that node is.
  record Came (m m' : Transfer) (r : ℕ) (u : Ty) : Type 0 where
    pub low : length m.1 ≤ u.1
    pub high : u.1 < length m'.1
    pub error : IsError (state_at src r) → IsError (state_at m'.1 u.1)

  abbrev Comes : Transfer → Transfer → Type 0
  Comes m m' = (r : ℕ) (u : Ty) → mapped m'.0 r ≡ some u → (mapped m.0 r ≡ some u) ⊎ Came m m' r u

  comes_trans : (m m' m'' : Transfer) → Frame m m' → Frame m' m'' → Comes m m' → Comes m' m'' → Comes m m''
  comes_trans m m' m'' f g p q r u e = ⊎_elim (λ z. ⊎_elim inl (λ c. inr (later c)) (p r u z)) (λ c. inr (sooner c)) (q r u e)
    where
      later : Came m m' r u → Came m m'' r u
      later c = record { low = c.low; high = le_trans c.high g.long; error = λ z. subst IsError (sym (frame_state m' m'' u.1 c.high g)) (c.error z) }

      sooner : Came m' m'' r u → Came m m'' r u
      sooner c = record { low = le_trans f.long c.low; high = c.high; error = c.error }

  each_comes : (f : Ty → Transfer → Ty × Transfer) → ((t : Ty) (m : Transfer) → Frame m (f t m).1) → ((t : Ty) (m : Transfer) → Comes m (f t m).1) → (cs : List Ty) (m : Transfer) → Comes m (transfer_each f cs m).1
  unfolding transfer_each
  each_comes f fr comes [] m = λ r u e. inl e
  each_comes f fr comes (c ∷ cs) m = comes_trans m (f c m).1 _ (fr c m) (each_frame f fr cs (f c m).1) (comes c m) (each_comes f fr comes cs (f c m).1)

  in_comes : (k : ℕ) (t : Ty) (m : Transfer) → Comes m (transfer_in k src ps t m).1
  unfolding transfer_in find invert_if rep
  in_comes zero t m = λ r u e. inl e
  in_comes (suc k) t m = go (mapped m.0 (rep src t.1)) refl (param_for ps (state_at src (rep src t.1))) refl (state_at src (rep src t.1)) refl (in_comes k)
    where
      r : ℕ
      r = rep src t.1

      n : ℕ
      n = length m.1

      longer : length (pushed m r).1 ≡ suc n
      longer = omega (arith, length-append m.1 (new_node (length m.1) unknown ∷ []))

      left_unknown : state_at src r ≡ unknown → Comes m (pushed m r)
      left_unknown q x u e = ⊎_elim inl (λ z. inr (record { low = omega (arith, z.1); high = omega (arith, z.1, longer); error = λ y. absurd (subst IsError (ap (state_at src) (sym z.0) ∙ q) y) })) (push_cases m r x u e)

      filled : (i : Bool) (kd d : ℕ) (cs : List Ty) → state_at src r ≡ known i kd d cs → (w : List Ty × Transfer) → Frame (pushed m r) w.1 → Comes (pushed m r) w.1 → Comes m (w.1.0, set w.1.1 n (new_node n (known i kd d w.0)))
      filled i kd d cs q w f c x u e = ⊎_elim (λ z. ⊎_elim inl (λ y. inr (at_new y)) (push_cases m r x u z)) (λ z. inr (behind z)) (c x u e)
        where
          us : Types
          us = set w.1.1 n (new_node n (known i kd d w.0))

          len : length us ≡ length w.1.1
          len = length-set w.1.1 n (new_node n (known i kd d w.0))

          inside : n < length w.1.1
          inside = past_push m w.1 r f

          at_new : (r ≡ x) × (u.1 ≡ n) × (u.0 ≡ false) → Came m (w.1.0, us) x u
          at_new y = record {
            low = omega (arith, y.1);
            high = omega (arith, y.1, inside, len);
            error = λ z. subst IsError (sym (ap (state_at us) y.1 ∙ set_state w.1.1 n (known i kd d w.0) inside)) (subst IsError (ap (state_at src) (sym y.0) ∙ q) z);
          }

          behind : Came (pushed m r) w.1 x u → Came m (w.1.0, us) x u
          behind z = record {
            low = omega (arith, z.low, longer);
            high = omega (arith, z.high, len);
            error = λ y. subst IsError (sym (off_state w.1.1 n u.1 (known i kd d w.0) (λ p. lt_irrefl n (omega (arith, z.low, longer, p))))) (z.error y);
          }

      go : (o : Option Ty) → mapped m.0 (rep src t.1) ≡ o → (u : Option Ty) → param_for ps (state_at src (rep src t.1)) ≡ u → (st : TypeState) → state_at src (rep src t.1) ≡ st → ((t : Ty) (m : Transfer) → Comes m (transfer_in k src ps t m).1) → Comes m (transfer_in (suc k) src ps t m).1
      go (some u) e w f st q ih = rw (e, transfer_in) (λ x v y. inl y)
      go none e (some u) f st q ih = rw (e, f, transfer_in) (λ x v y. inl y)
      go none e none f unknown q ih = rw (e, f, q, transfer_in) (left_unknown q)
      go none e none f (known i kd d cs) q ih = rw (e, f, q, transfer_in) (filled i kd d cs q (transfer_each (λ c w. transfer_in k src ps c w) cs (pushed m (rep src t.1))) (each_frame (λ c w. transfer_in k src ps c w) (in_frame src ps k) cs (pushed m (rep src t.1))) (each_comes (λ c w. transfer_in k src ps c w) (in_frame src ps k) ih cs (pushed m (rep src t.1))))

  -- Roots went to nodes of the table, no two to one.
  record Once (m : Transfer) : Type 0 where
    pub inside : (r : ℕ) (u : Ty) → mapped m.0 r ≡ some u → u.1 < length m.1
    pub once : (a b : ℕ) (u v : Ty) → mapped m.0 a ≡ some u → mapped m.0 b ≡ some v → u.1 ≡ v.1 → a ≡ b

  push_once : (m : Transfer) (r : ℕ) → Once m → Once (pushed m r)
  push_once m r o = record { inside = λ x u e. ⊎_elim (λ z. omega (arith, o.inside x u z, longer)) (λ z. omega (arith, z.1, longer)) (push_cases m r x u e); once = λ a b u v ea eb q. go a b u v q (push_cases m r a u ea) (push_cases m r b v eb) }
    where
      longer : length (pushed m r).1 ≡ suc (length m.1)
      longer = omega (arith, length-append m.1 (new_node (length m.1) unknown ∷ []))

      go : (a b : ℕ) (u v : Ty) → u.1 ≡ v.1 → (mapped m.0 a ≡ some u) ⊎ ((r ≡ a) × (u.1 ≡ length m.1) × (u.0 ≡ false)) → (mapped m.0 b ≡ some v) ⊎ ((r ≡ b) × (v.1 ≡ length m.1) × (v.0 ≡ false)) → a ≡ b
      go a b u v q (inl x) (inl y) = o.once a b u v x y q
      go a b u v q (inl x) (inr y) = absurd (lt_irrefl u.1 (omega (arith, o.inside a u x, q, y.1)))
      go a b u v q (inr x) (inl y) = absurd (lt_irrefl v.1 (omega (arith, o.inside b v y, q, x.1)))
      go a b u v q (inr x) (inr y) = sym x.0 ∙ y.0

  fill_once : (m : Transfer) (n : ℕ) (st : TypeState) → Once m → Once (m.0, set m.1 n (new_node n st))
  fill_once m n st o = record { inside = λ r u e. omega (arith, o.inside r u e, length-set m.1 n (new_node n st)); once = o.once }

  -- An import into dst: every root that came is at a new node, Error if it is, and no two are at one.
  pub import_came : (xs : List Ty) (dst : Types) (r : ℕ) (u : Ty) → mapped (transfer_types src ps xs ([], dst)).1.0 r ≡ some u → (length dst ≤ u.1) × (u.1 < length (transfer_types src ps xs ([], dst)).1.1) × (IsError (state_at src r) → IsError (state_at (transfer_types src ps xs ([], dst)).1.1 u.1))
  unfolding transfer_types mapped
  import_came xs dst r u e = ⊎_elim (λ z. absurd (none-ne-some u z)) (λ c. (c.low, c.high, c.error)) (each_comes (transfer_in (suc (length src)) src ps) (in_frame src ps (suc (length src))) (in_comes (suc (length src))) xs ([], dst) r u e)

  pub import_once : WellFormed src → (xs : List Ty) (dst : Types) → AllIn (length src) xs → (a b : ℕ) (u v : Ty) → mapped (transfer_types src ps xs ([], dst)).1.0 a ≡ some u → mapped (transfer_types src ps xs ([], dst)).1.0 b ≡ some v → u.1 ≡ v.1 → a ≡ b
  unfolding mapped
  import_once formed xs dst inside = (transfer_carries src formed ps Once (λ m r l e v. push_once m r v) (λ m n r i kd d cs qs e l v. fill_once m n (known i kd d qs) v) xs ([], dst) inside (record { inside = λ r u e. absurd (none-ne-some u e); once = λ a b u v ea eb q. absurd (none-ne-some u ea) })).once
