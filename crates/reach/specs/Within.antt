-- An import makes nodes only for marked ones: where all that is asked for is marked, and with a marked node all its children, it adds at most as many nodes as are marked. A Param that is given needs no mark.
use Prim.Native.Nat.{ℕ, zero, suc, ◌+◌, ◌≤◌, ◌<◌}
use Rattle.std.specs.Prelude.{◌≡◌, false, ◌≢◌, ◌⊎◌, set}
use Rattle.std.proofs.Math.Path.{refl, ap}
use Rattle.std.proofs.Common.{sym, ◌∙◌, ap₂, subst, inl, inr, not-suc-le-zero, length-set, get_or-set_same, get_or-set_other}
use mathlib.Core.List.{List, [], ◌∷◌}
use Rattle.std.proofs.Math.Option.{Option, none, some}
use native.Mathlib.Omega.{arith}
use Rattle.std.proofs.Math.Decide.{ℕ_discrete}
use Rattle.std.proofs.Math.ListN.{length, length-append}
use Rattle.rules.specs.Lists.{Words}
use Rattle.rules.specs.Sheet.{at}
use Rattle.rules.specs.Types.{Ty, TypeState, unknown, known, Types, new_node, invert_if, find, state_at}
use Rattle.rules.specs.Transfer.{Transfer, mapped, param_for, transfer_each, transfer_in, transfer_types, import_types}
use Rattle.rules.specs.Solutions.{rep, AllIn, ChildrenIn, WellFormed}
use Rattle.rules.specs.Acyclic.{children}
use Rattle.rules.specs.Yields.{Every}
use Rattle.rules.specs.Carried.{pushed}
use Rattle.rules.specs.TransferCount.{mapped_other, mapped_here}

-- The sum of what f gives for the numbers below n.
unfoldable sum : (ℕ → ℕ) → ℕ → ℕ
sum f zero = 0
sum f (suc n) = f n + sum f n

sum_same : (f g : ℕ → ℕ) (n : ℕ) → ((j : ℕ) → j < n → f j ≡ g j) → sum f n ≡ sum g n
unfolding sum
sum_same f g zero o = refl
sum_same f g (suc n) o = omega (arith, o n (omega arith), sum_same f g n (λ j h. o j (omega arith)))

-- One more at one place is one more in all.
sum_more : (f g : ℕ → ℕ) (r n : ℕ) → r < n → f r ≡ suc (g r) → ((j : ℕ) → r ≢ j → f j ≡ g j) → sum f n ≡ suc (sum g n)
unfolding sum
sum_more f g r zero h e o = absurd (not-suc-le-zero h)
sum_more f g r (suc n) h e o = go (ℕ_discrete r n) (sum_more f g r n)
  where
    go : Dec (r ≡ n) → (r < n → f r ≡ suc (g r) → ((j : ℕ) → r ≢ j → f j ≡ g j) → sum f n ≡ suc (sum g n)) → f n + sum f n ≡ suc (g n + sum g n)
    go (yes q) ih = omega (arith, subst (λ k. f k ≡ suc (g k)) q e, sum_same f g n (λ j l. o j (λ w. not-suc-le-zero {n = 0} (omega arith))))
    go (no q) ih = omega (arith, o n q, ih (omega arith) e o)

-- 1 for a node that is marked, by a 0, and not mapped.
unfoldable awaits : ℕ → Option Ty → ℕ
awaits zero none = 1
awaits zero (some u) = 0
awaits (suc p) o = 0

abbrev awaited : Words → List (ℕ × Ty) → ℕ → ℕ
awaited ws ps j = awaits (at ws j) (mapped ps j)

-- How many of the nodes below n are marked.
pub marked : Words → ℕ → ℕ
marked ws n = sum (awaited ws []) n

marked_here : (ws : Words) (j : ℕ) → at ws j ≡ 0 → awaited ws [] j ≡ 1
unfolding awaits mapped
marked_here ws j e = ap (λ p. awaits p (mapped [] j)) e

unmarked_here : (p : ℕ) (o : Option Ty) → p ≢ 0 → awaits p o ≡ 0
unfolding awaits
unmarked_here zero o z = absurd (z refl)
unmarked_here (suc p) o z = refl

-- Where none is marked there are none,
pub marked-none : (ws : Words) (n : ℕ) → ((j : ℕ) → j < n → at ws j ≢ 0) → marked ws n ≡ 0
unfolding marked sum
marked-none ws zero h = refl
marked-none ws (suc n) h = omega (arith, unmarked_here (at ws n) (mapped [] n) (h n (omega arith)), marked-none ws n (λ j l. h j (omega arith)))

-- and one more mark is one more.
pub marked_more : (ws : Words) (r n : ℕ) → r < n → r < length ws → at ws r ≢ 0 → marked (set ws r 0) n ≡ suc (marked ws n)
unfolding marked
marked_more ws r n h l z = sum_more (awaited (set ws r 0) []) (awaited ws []) r n h
    (omega (arith, marked_here (set ws r 0) r (get_or-set_same ws r 0 0 l), unmarked_here (at ws r) (mapped [] r) z))
    (λ j o. ap (λ p. awaits p (mapped [] j)) (get_or-set_other ws r j 0 0 (λ e. o (sym e))))

-- A node that is marked, or a Param that is given.
abbrev pub Covered : Types → Option (List Ty) → Words → ℕ → Type 0
Covered src ps ws n = (at ws n ≡ 0) ⊎ ((u : Ty) × (param_for ps (state_at src n) ≡ some u))

abbrev pub AllCovered : Types → Option (List Ty) → Words → List Ty → Type 0
AllCovered src ps ws cs = Every (λ (c : Ty). Covered src ps ws c.1) cs

not_some : (u : Ty) → none ≡ some u → ⊥
not_some u e = let z : ◌≡◌ {A = ℕ} 0 1 = cc in omega arith

module _ (src : Types) (formed : WellFormed src) (flat : (n : ℕ) → n < length src → rep src n ≡ n) (ps : Option (List Ty)) (ws : Words) (closed : (n : ℕ) → n < length src → at ws n ≡ 0 → AllCovered src ps ws (children (state_at src n))) (c : ℕ) where
  -- Pushed nodes and marked ones not yet mapped, together.
  abbrev Counted : Transfer → Type 0
  Counted m = length m.1 + sum (awaited ws m.0) (length src) ≡ c

  counted_push : (m : Transfer) (r : ℕ) → r < length src → at ws r ≡ 0 → mapped m.0 r ≡ none → Counted m → Counted (pushed m r)
  unfolding awaits
  counted_push m r h k e v = omega (
    arith,
    length-append m.1 (new_node (length m.1) unknown ∷ []),
    sum_more (awaited ws m.0) (awaited ws ((r, (false, length m.1)) ∷ m.0)) r (length src) h
        (ap₂ awaits k e ∙ ap suc (sym (ap₂ awaits k (mapped_here m.0 r (false, length m.1)))))
        (λ j o. ap (awaits (at ws j)) (sym (mapped_other m.0 r (false, length m.1) j o))),
  )

  abbrev Moves : (Ty → Transfer → Ty × Transfer) → Type 0
  Moves f = (t : Ty) (m : Transfer) → t.1 < length src → Covered src ps ws t.1 → Counted m → Counted (f t m).1

  each_counted : (f : Ty → Transfer → Ty × Transfer) → Moves f → (cs : List Ty) (m : Transfer) → AllIn (length src) cs → AllCovered src ps ws cs → Counted m → Counted (transfer_each f cs m).1
  unfolding transfer_each
  each_counted f moves [] m a k v = v
  each_counted f moves (t ∷ cs) m a k v = each_counted f moves cs (f t m).1 a.1 k.1 (moves t m a.0 k.0 v)

  in_counted : (n : ℕ) → Moves (transfer_in n src ps)
  unfolding transfer_in find invert_if rep children
  in_counted zero t m h k v = v
  in_counted (suc n) t m h k v = go (mapped m.0 r) refl (param_for ps (state_at src r)) refl (state_at src r) refl (in_counted n)
    where
      r : ℕ
      r = rep src t.1

      low : r < length src
      low = (formed t.1 h).0

      mark : param_for ps (state_at src r) ≡ none → Covered src ps ws r → at ws r ≡ 0
      mark f (inl e) = e
      mark f (inr u) = absurd (not_some u.0 (sym f ∙ u.1))

      its : param_for ps (state_at src r) ≡ none → at ws r ≡ 0
      its f = mark f (subst (Covered src ps ws) (sym (flat t.1 h)) k)

      go : (o : Option Ty) → mapped m.0 r ≡ o → (u : Option Ty) → param_for ps (state_at src r) ≡ u → (st : TypeState) → state_at src r ≡ st → Moves (transfer_in n src ps) → Counted (transfer_in (suc n) src ps t m).1
      go (some u) e w f st q ih = rw (e, transfer_in) v
      go none e (some u) f st q ih = rw (e, f, transfer_in) v
      go none e none f unknown q ih = rw (e, f, q, transfer_in) (counted_push m r low (its f) e v)
      go none e none f (known i kd d cs) q ih =
          rw (e, f, q, transfer_in)
          (let w = transfer_each (λ x y. transfer_in n src ps x y) cs (pushed m r) in
          omega (
            arith,
            length-set w.1.1 (length m.1) (new_node (length m.1) (known i kd d w.0)),
            each_counted (λ x y. transfer_in n src ps x y) ih cs (pushed m r) (subst (ChildrenIn (length src)) q (formed t.1 h).2) (inner q (closed r low (its f))) (counted_push m r low (its f) e v),
          ))
        where
          inner : state_at src r ≡ known i kd d cs → AllCovered src ps ws (children (state_at src r)) → AllCovered src ps ws cs
          inner q a = subst (λ (st : TypeState). AllCovered src ps ws (children st)) q a

-- An import of covered types adds at most as many nodes as are marked.
pub import_within : (src : Types) → WellFormed src → ((n : ℕ) → n < length src → rep src n ≡ n) → (ps : Option (List Ty)) (ws : Words) → ((n : ℕ) → n < length src → at ws n ≡ 0 → AllCovered src ps ws (children (state_at src n))) → (ts : List Ty) (dst : Types) → AllIn (length src) ts → AllCovered src ps ws ts → length (import_types src ps ts dst).1 ≤ length dst + marked ws (length src)
unfolding import_types transfer_types marked
import_within src formed flat ps ws closed ts dst a k =
    let n = length dst + sum (awaited ws []) (length src) in
    omega (arith, each_counted src formed flat ps ws closed n (transfer_in (suc (length src)) src ps) (in_counted src formed flat ps ws closed n (suc (length src))) ts ([], dst) a k refl)
