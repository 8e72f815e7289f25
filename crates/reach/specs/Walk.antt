-- The walk that marks what some types reach.
use Rattle.std.specs.Prelude.{ℕ, ◌+◌, ◌/◌, ◌≤◌, ◌<◌, ◌≡◌, refl, Bool, true, false, [], ◌∷◌, ◌≢◌, ◌⊎◌, eqb, length, set}
use Rattle.std.proofs.Common.{sym, ◌∙◌, ap, subst, inl, inr, ⊎_elim, eq-or-lt_of_le, arith, length-set, get_or-set_same, get_or-set_other, eqb-true}
use Rattle.std.proofs.Math.Decide.{ℕ_discrete}
use Rattle.rules.specs.Lists.{Words}
use Rattle.rules.specs.Sheet.{at, chain}
use Rattle.rules.specs.WordLaws.{word_past}
use Rattle.rules.specs.Members.{In, in_cases, in_empty}
use Rattle.rules.specs.Pigeonholes.{lt_or}
use Rattle.reach.specs.Within.{marked, marked_more}

never : {A : Type 0} → false ≡ true → A
never e = let z : ◌≡◌ {A = ℕ} 0 1 = cc in absurd (omega arith)

-- true: the node of the record at p is a Param, and parameters are given.
pub record Spares (s : Words) (w : Bool) (p : ℕ) (r : Bool) : Type 0 where
  pub given : r ≡ true → w ≡ true
  pub param : r ≡ true → at s (p + 1) ≡ 1

pub spares_none : (s : Words) (w : Bool) (p : ℕ) → Spares s w p false
spares_none s w p = record { given = λ e. never e; param = λ e. never e }

pub spares_kind : (s : Words) (w : Bool) (p k : ℕ) → w ≡ true → k ≡ at s (p + 1) → Spares s w p (eqb k 1)
spares_kind s w p k h e = record { given = λ q. h; param = λ q. sym e ∙ eqb-true k 1 q }

-- A node of a table with records at the places ch that is marked, or a Param that is given.
abbrev pub Reached : Words → Words → Bool → Words → ℕ → Type 0
Reached s ch w ws m = (at ws m ≡ 0) ⊎ ((w ≡ true) × (at s (at ch m + 1) ≡ 1))

-- So are all that the cells of a chain name.
abbrev pub CellsReached : Words → Words → Bool → Words → ℕ → Type 0
CellsReached s ch w ws head = (c : ℕ) → In c (chain s head) → Reached s ch w ws (at s (c + 1) / 2)

-- A record that stands in the queue, from k on and before e.
pub record Waits (qs : Words) (k e p : ℕ) : Type 0 where
  pub spot : ℕ
  pub from : k ≤ spot
  pub low : spot < e
  pub is : at qs spot ≡ p

-- What holds between the steps of a walk: the queue's end is the number of marks, and a marked node waits in the queue, from k on, or its children are reached.
pub record Walking (s ch : Words) (w : Bool) (ws qs : Words) (k e : ℕ) : Type 0 where
  pub long : length ws ≡ length ch
  pub room : length qs ≡ 256
  pub few : e ≤ 256
  pub passed : k ≤ e
  pub count : marked ws (length ch) ≡ e
  pub place : (j : ℕ) → (at ws j ≡ 0) ⊎ (at ws j ≡ at ch j)
  pub closed : (j : ℕ) → j < length ch → at ws j ≡ 0 → Waits qs k e (at ch j) ⊎ CellsReached s ch w ws (at s (at ch j + 4))

-- A walk that went on: marks stay, and the queue grows at its end.
pub record Went (s ch : Words) (w : Bool) (ws qs us rs : Words) (k e r : ℕ) : Type 0 where
  pub walking : Walking s ch w us rs k r
  pub kept : (j : ℕ) → at ws j ≡ 0 → at us j ≡ 0
  pub held : (i : ℕ) → i < e → at rs i ≡ at qs i
  pub on : e ≤ r

went_none : (s ch : Words) (w : Bool) (ws qs : Words) (k e : ℕ) → Walking s ch w ws qs k e → Went s ch w ws qs ws qs k e e
went_none s ch w ws qs k e h = record { walking = h; kept = λ j z. z; held = λ i l. refl; on = omega arith }

went_on : (s ch : Words) (w : Bool) (ws qs us rs vs ts : Words) (k l e r o : ℕ) → Went s ch w ws qs us rs k e r → Went s ch w us rs vs ts l r o → Went s ch w ws qs vs ts l e o
went_on s ch w ws qs us rs vs ts k l e r o a b = record { walking = b.walking; kept = λ j z. b.kept j (a.kept j z); held = λ i h. b.held i (omega (arith, a.on)) ∙ a.held i h; on = omega (arith, a.on, b.on) }

reached_on : (s ch : Words) (w : Bool) (ws us : Words) → ((j : ℕ) → at ws j ≡ 0 → at us j ≡ 0) → (m : ℕ) → Reached s ch w ws m → Reached s ch w us m
reached_on s ch w ws us kept m (inl e) = inl (kept m e)
reached_on s ch w ws us kept m (inr e) = inr e

-- Node m is entered.
pub record Enters (s : Words) (w : Bool) (ws qs : Words) (e m : ℕ) (us rs : Words) (r : ℕ) : Type 0 where
  pub goes : (ch : Words) (k : ℕ) → Walking s ch w ws qs k e → Went s ch w ws qs us rs k e r × Reached s ch w us m

-- It is marked already.
pub enters_marked : (s : Words) (w : Bool) (ws qs : Words) (e m p : ℕ) → p ≡ at ws m → p ≡ 0 → Enters s w ws qs e m ws qs e
enters_marked s w ws qs e m p ep z = record { goes = λ ch k h. (went_none s ch w ws qs k e h, inl (sym ep ∙ z)) }

its_place : (s ch : Words) (w : Bool) (ws qs : Words) (k e m p : ℕ) → Walking s ch w ws qs k e → p ≡ at ws m → p ≢ 0 → p ≡ at ch m
its_place s ch w ws qs k e m p h ep z = ⊎_elim (λ a. absurd (z (ep ∙ a))) (λ a. ep ∙ a) (h.place m)

-- It is a Param that is given.
pub enters_given : (s : Words) (w : Bool) (ws qs : Words) (e m p v : ℕ) (r : Bool) → p ≡ at ws m → p ≢ 0 → v ≡ p → Spares s w v r → r ≡ true → Enters s w ws qs e m ws qs e
enters_given s w ws qs e m p v r ep z ev g q = record { goes = λ ch k h. (went_none s ch w ws qs k e h, inr (g.given q, ap (λ x. at s (x + 1)) (sym (its_place s ch w ws qs k e m p h ep z) ∙ sym ev) ∙ g.param q)) }

-- Any other is a node.
pub enters_inside : (ws : Words) (m p : ℕ) → p ≡ at ws m → p ≢ 0 → m < length ws
enters_inside ws m p e z = ⊎_elim (λ h. h) (λ h. absurd (z (e ∙ sym (word_past ws m h)))) (lt_or m (length ws))

-- It is new.
module _ (s : Words) (w : Bool) (ws qs : Words) (e m p : ℕ) (ep : p ≡ at ws m) (z : p ≢ 0) (l : e < 256) where
  at_m : m < length ws
  at_m = enters_inside ws m p ep z

  here : at (set ws m 0) m ≡ 0
  here = get_or-set_same ws m 0 0 at_m

  kept_new : (j : ℕ) → at ws j ≡ 0 → at (set ws m 0) j ≡ 0
  kept_new j o = elim (ℕ_discrete j m) [ yes q ↦ subst (λ x. at (set ws m 0) x ≡ 0) (sym q) here | no q ↦ get_or-set_other ws m j 0 0 q ∙ o ]

  held_new : (i : ℕ) → i < e → at (set qs e p) i ≡ at qs i
  held_new i o = get_or-set_other qs e i p 0 (λ q. absurd (omega arith))

  module _ (ch : Words) (k : ℕ) (h : Walking s ch w ws qs k e) where
    place_new : (j : ℕ) → (at (set ws m 0) j ≡ 0) ⊎ (at (set ws m 0) j ≡ at ch j)
    place_new j = elim (ℕ_discrete j m) [ yes q ↦ inl (subst (λ x. at (set ws m 0) x ≡ 0) (sym q) here) | no q ↦ rw (get_or-set_other ws m j 0 0 q) (h.place j) ]

    still_waits : (j : ℕ) → Waits qs k e (at ch j) → Waits (set qs e p) k (e + 1) (at ch j)
    still_waits j a = record { spot = a.spot; from = a.from; low = omega (arith, a.low); is = held_new a.spot a.low ∙ a.is }

    waits_new : Waits (set qs e p) k (e + 1) (at ch m)
    waits_new = record { spot = e; from = h.passed; low = omega arith; is = get_or-set_same qs e p 0 (omega (arith, h.room)) ∙ its_place s ch w ws qs k e m p h ep z }

    closed_new : (j : ℕ) → j < length ch → at (set ws m 0) j ≡ 0 → Waits (set qs e p) k (e + 1) (at ch j) ⊎ CellsReached s ch w (set ws m 0) (at s (at ch j + 4))
    closed_new j o q = elim (ℕ_discrete j m) [
      | yes d ↦ inl (subst (λ x. Waits (set qs e p) k (e + 1) (at ch x)) (sym d) waits_new)
      | no d ↦ ⊎_elim (λ a. inl (still_waits j a)) (λ a. inr (λ c i. reached_on s ch w ws (set ws m 0) kept_new (at s (c + 1) / 2) (a c i))) (h.closed j o (sym (get_or-set_other ws m j 0 0 d) ∙ q))
    ]

    went_new : Went s ch w ws qs (set ws m 0) (set qs e p) k e (e + 1)
    went_new = record {
      walking = record {
        long = length-set ws m 0 ∙ h.long;
        room = length-set qs e p ∙ h.room;
        few = omega arith;
        passed = omega (arith, h.passed);
        count = omega (arith, marked_more ws m (length ch) (omega (arith, at_m, h.long)) at_m (λ o. z (ep ∙ o)), h.count);
        place = place_new;
        closed = closed_new;
      };
      kept = kept_new;
      held = held_new;
      on = omega arith;
    }

  pub enters_new : Enters s w ws qs e m (set ws m 0) (set qs e p) (e + 1)
  enters_new = record { goes = λ ch k h. (went_new ch k h, inl here) }

-- The cells of a chain are entered.
pub record EntersCells (s : Words) (w : Bool) (ws qs : Words) (e head : ℕ) (us rs : Words) (r : ℕ) : Type 0 where
  pub goes : (ch : Words) (k : ℕ) → Walking s ch w ws qs k e → Went s ch w ws qs us rs k e r × CellsReached s ch w us head

-- Those of cs are left.
pub record Turned (s ch : Words) (w : Bool) (ws qs us rs : Words) (k e r head : ℕ) (cs : Words) : Type 0 where
  pub went : Went s ch w ws qs us rs k e r
  pub behind : (x : ℕ) → In x (chain s head) → In x cs ⊎ Reached s ch w us (at s (x + 1) / 2)

pub record Turning (s : Words) (w : Bool) (ws qs : Words) (e head : ℕ) (us rs : Words) (r : ℕ) (cs : Words) : Type 0 where
  pub goes : (ch : Words) (k : ℕ) → Walking s ch w ws qs k e → Turned s ch w ws qs us rs k e r head cs

pub turning_start : (s : Words) (w : Bool) (ws qs : Words) (e head : ℕ) (cs : Words) → cs ≡ chain s head → Turning s w ws qs e head ws qs e cs
turning_start s w ws qs e head cs q = record { goes = λ ch k h. record { went = went_none s ch w ws qs k e h; behind = λ x i. inl (subst (In x) (sym q) i) } }

module _ (s : Words) (w : Bool) (ws qs : Words) (e head : ℕ) (us rs : Words) (r : ℕ) (cs : Words) (t : Turning s w ws qs e head us rs r cs) where
  pub turning_end : cs ≡ [] → EntersCells s w ws qs e head us rs r
  turning_end q = record { goes = λ ch k h. let o = t.goes ch k h in (o.went, λ x i. ⊎_elim (λ a. absurd (in_empty (subst (In x) q a))) (λ a. a) (o.behind x i)) }

  pub turning_on : (c v m : ℕ) (ds xs ys : Words) (o : ℕ) → cs ≡ c ∷ ds → v ≡ at s (c + 1) → m ≡ v / 2 → Enters s w us rs r m xs ys o → Turning s w ws qs e head xs ys o ds
  turning_on c v m ds xs ys o q ev em g = record {
    goes = λ ch k h.
        let d = t.goes ch k h in
        let f = g.goes ch k d.went.walking in
        let u : m ≡ at s (c + 1) / 2 = em ∙ ap (λ x. x / 2) ev in
        record {
          went = went_on s ch w ws qs us rs xs ys k k e r o d.went f.0;
          behind = λ x i. ⊎_elim
              (λ l. ⊎_elim (λ y. inr (subst (Reached s ch w xs) (u ∙ ap (λ j. at s (j + 1) / 2) (sym y)) f.1)) inl (in_cases (subst (In x) q l)))
              (λ l. inr (reached_on s ch w us xs f.0.kept (at s (x + 1) / 2) l))
              (d.behind x i);
        };
  }

-- The queue is worked off.
pub record Ends (s : Words) (w : Bool) (ws qs : Words) (n : ℕ) (us rs : Words) (r : ℕ) : Type 0 where
  pub goes : (ch : Words) → Walking s ch w ws qs 0 n → Went s ch w ws qs us rs r n r

-- It is, up to k.
pub record Running (s : Words) (w : Bool) (ws qs : Words) (n : ℕ) (us rs : Words) (k e : ℕ) : Type 0 where
  pub goes : (ch : Words) → Walking s ch w ws qs 0 n → Went s ch w ws qs us rs k n e

pub running_start : (s : Words) (w : Bool) (ws qs : Words) (n : ℕ) → Running s w ws qs n ws qs 0 n
running_start s w ws qs n = record { goes = λ ch h. went_none s ch w ws qs 0 n h }

module _ (s : Words) (w : Bool) (ws qs : Words) (n : ℕ) (us rs : Words) (k e : ℕ) (t : Running s w ws qs n us rs k e) where
  pub running_end : e ≤ k → Ends s w ws qs n us rs e
  running_end l = record { goes = λ ch h. let o = t.goes ch h in subst (λ x. Went s ch w ws qs us rs x n e) (let q : k ≡ e = omega (arith, o.walking.passed) in q) o }

  -- The next record's cells are entered.
  module _ (head : ℕ) (xs ys : Words) (o : ℕ) (l : k < e) (eh : head ≡ at s (at rs k + 4)) (g : EntersCells s w us rs e head xs ys o) where
    module _ (ch : Words) (h : Walking s ch w ws qs 0 n) where
      its : Went s ch w us rs xs ys k e o × CellsReached s ch w xs head
      its = g.goes ch k (t.goes ch h).walking

      abbrev walk : Walking s ch w xs ys k o
      walk = its.0.walking

      waits_on : (j : ℕ) → Waits ys k o (at ch j) → Waits ys (k + 1) o (at ch j) ⊎ CellsReached s ch w xs (at s (at ch j + 4))
      waits_on j a = ⊎_elim
          (λ q. inr (subst (CellsReached s ch w xs) (eh ∙ ap (λ x. at s (x + 4)) (sym (its.0.held k l) ∙ ap (at ys) q ∙ a.is)) its.1))
          (λ q. inl (record { spot = a.spot; from = omega arith; low = a.low; is = a.is }))
          (eq-or-lt_of_le a.from)

      next : Went s ch w us rs xs ys (k + 1) e o
      next = record {
        walking = record {
          long = walk.long;
          room = walk.room;
          few = walk.few;
          passed = omega (arith, its.0.on);
          count = walk.count;
          place = walk.place;
          closed = λ j b q. ⊎_elim (waits_on j) inr (walk.closed j b q);
        };
        kept = its.0.kept;
        held = its.0.held;
        on = its.0.on;
      }

    pub running_on : Running s w ws qs n xs ys (k + 1) o
    running_on = record { goes = λ ch h. went_on s ch w ws qs us rs xs ys k (k + 1) n e o (t.goes ch h) (next ch h) }
