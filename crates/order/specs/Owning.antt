-- Whether a type is its own inverse, by the notes: false only where it is not.
use Rattle.std.specs.Prelude.{ℕ, zero, suc, ◌+◌, ◌/◌, ◌≤◌, ◌<◌, ◌≡◌, refl, Bool, true, false, not, List, [], ◌∷◌, ◌≢◌, ◌⊎◌, length, take, drop, set}
use Rattle.std.proofs.Common.{sym, ◌∙◌, ap, ap₂, subst, true≢false, inl, inr, add-one, arith, length-set, drop-cons, get_or-take, length-take-le, get_or-set_other}
use Rattle.rules.specs.Lists.{Words, all}
use Rattle.rules.specs.Sheet.{at, kind_flag, row_own_inverse}
use Rattle.rules.specs.Types.{Ty, unknown, known, Types, invert_state, find, state_at, kind, self_inverse_in}
use Rattle.table.specs.declared.Row.{Row}
use Rattle.refs.specs.Meaning.{turn}
use Rattle.order.specs.Stage.{stands, Kin, Run, Stage, kind_word, id_word, kids}
use Rattle.order.specs.Mirror.{source, Mirror, Marks, marks_same, marks_on, mirror_marks, stands_at, follow_find}
use Rattle.order.specs.Following.{Owns, lives}
use Rattle.order.specs.Meeting.{state_known, state_unknown, shown}
use Rattle.order.specs.Words.{Roots, Kids}

-- A mark is set.
pub mark_set : (m : Words) (w : ℕ) → Marks m (set m (6144 + w) 1)
mark_set m w = record { len = length-set m (6144 + w) 1; same = λ j h. get_or-set_other m (6144 + w) j 1 0 (λ q. omega (arith, q, h)) }

-- Some types: false, one of them is not its own inverse.
pub record OwnsAll (s ps ws m us m' : Words) (r : Bool) : Type 0 where
  pub marks : Marks m m'
  pub at : r ≡ false → (st : Stage s ps ws) (ts : Types) → Run ts → Mirror s ps ws st m ts → (cs : List Ty) → Kin st.to st.live st.table cs us → (k : ℕ) → all (λ c. self_inverse_in k s ts c) cs ≡ false

-- false: a ref is unknown, or its kind is not its own inverse.
pub record Flagged (s ps ws : Words) (r : ℕ) (b : Bool) : Type 0 where
  pub not : b ≡ false → kind_word s ps ws r ≢ 0 → kind_flag s row_own_inverse (kind_word s ps ws r) (id_word s ps ws r) ≡ false

pub flagged_unknown : (s ps ws : Words) (r k : ℕ) → k ≡ kind_word s ps ws r → k ≡ 0 → Flagged s ps ws r false
flagged_unknown s ps ws r k e z = record { not = λ b n. absurd (n (sym e ∙ z)) }

pub flagged_by : (s ps ws : Words) (r k d i j : ℕ) (b : Bool) → k ≡ kind_word s ps ws r → d ≡ id_word s ps ws r → i ≡ k → j ≡ d → b ≡ kind_flag s 2 i j → Flagged s ps ws r b
flagged_by s ps ws r k d i j b ek ed ei ej e = record { not = λ z n. sym (ap₂ (kind_flag s 2) (ei ∙ ek) (ej ∙ ed)) ∙ sym e ∙ z }

-- By what a type is found to be.
own_found : (k : ℕ) (s : Words) (ts : Types) (a b : Ty) → find ts a ≡ find ts b → self_inverse_in k s ts a ≡ self_inverse_in k s ts b
unfolding self_inverse_in kind
own_found zero s ts a b e = refl
own_found (suc k) s ts a b e = ap {B = Bool} (λ (r : Ty). elim (invert_state r.0 (state_at ts r.1)) [ unknown ↦ false | known i kd d cs ↦ elim (kind_flag s row_own_inverse kd d) [ true ↦ all (λ c. self_inverse_in k s ts c) cs | false ↦ false ] ]) e

own_none : (k : ℕ) (s : Words) (ts : Types) (t x : Ty) → find ts t ≡ x → state_at ts x.1 ≡ unknown → self_inverse_in k s ts t ≡ false
unfolding self_inverse_in kind invert_state
own_none zero s ts t x e q = refl
own_none (suc k) s ts t x e q = rw (e, q, self_inverse_in, kind)

own_opened : (k : ℕ) (s : Words) (ts : Types) (t x : Ty) (i : Bool) (kd d : ℕ) (cs : List Ty) → find ts t ≡ x → state_at ts x.1 ≡ known i kd d cs → (b : Bool) → kind_flag s row_own_inverse kd d ≡ b → (b ≡ false) ⊎ ((j : ℕ) → all (λ c. self_inverse_in j s ts c) cs ≡ false) → self_inverse_in k s ts t ≡ false
unfolding self_inverse_in kind invert_state
own_opened zero s ts t x i kd d cs e q b f c = refl
own_opened (suc k) s ts t x i kd d cs e q true f (inl z) = absurd (true≢false z)
own_opened (suc k) s ts t x i kd d cs e q true f (inr z) = rw (e, q, f, self_inverse_in, kind) (z k)
own_opened (suc k) s ts t x i kd d cs e q false f c = rw (e, q, f, self_inverse_in, kind)

-- A test that does not hold.
pub not_held : (c : Bool) → not c ≡ true → c ≡ false
not_held true z = absurd (true≢false (sym z))
not_held false z = refl

-- Nothing is said.
pub owns_true : (s ps ws m : Words) (t : ℕ) → Owns s ps ws m t m true
owns_true s ps ws m t = record { marks = marks_same m; at = λ e. absurd (true≢false e) }

pub all_true : (s ps ws m us m' : Words) → Marks m m' → OwnsAll s ps ws m us m' true
all_true s ps ws m us m' q = record { marks = q; at = λ e. absurd (true≢false e) }

pub owns_marked : (s ps ws m us : Words) (t : ℕ) (m₁ : Words) (b : Bool) (m₂ : Words) → OwnsAll s ps ws m us m₁ b → Marks m₁ m₂ → Owns s ps ws m t m₂ true
owns_marked s ps ws m us t m₁ b m₂ o q = record { marks = marks_on m m₁ m₂ o.marks q; at = λ e. absurd (true≢false e) }

-- The root of type t has its state of type p: it is unknown, or of such a kind,
pub owns_flag : (s ps ws m : Words) (t x p : ℕ) (b : Bool) → (x < 4096 → Roots s ps m t x) → x < 4096 → p ≡ turn x (source m (x / 2)) → Flagged s ps ws (p / 2) b → not b ≡ true → Owns s ps ws m t m false
owns_flag s ps ws m t x p b f h ep g nb = record { marks = marks_same m; at = λ e st ts run k l j. go st ts k l j (kind_word s ps ws (p / 2)) refl }
  where
    go : (st : Stage s ps ws) (ts : Types) → Mirror s ps ws st m ts → st.live (t / 2) ≡ true → (j k : ℕ) → kind_word s ps ws (p / 2) ≡ k → self_inverse_in j s ts (stands st.to t) ≡ false
    go st ts k l j zero e =
        let a = (f h).at ws st ts k l in
        own_none j s ts (stands st.to t) (stands st.to x) a.2 (ap (λ (u : Ty). state_at ts u.1) (stands_at s ps ws st x a.0) ∙ state_unknown s ps ws m x p ep st ts k a.0 a.1 e)
    go st ts k l j (suc n) e =
        let z : kind_word s ps ws (p / 2) ≢ 0 = λ q. omega (arith, sym e ∙ q) in
        let a = (f h).at ws st ts k l in
        own_opened j s ts (stands st.to t) (stands st.to x) _ _ _ _ a.2 (ap (λ (u : Ty). state_at ts u.1) (stands_at s ps ws st x a.0) ∙ state_known s ps ws m x p ep st ts k a.0 a.1 z) false (g.not (not_held b nb) z) (inl refl)

-- or one of its children is not.
pub owns_kids : (s ps ws m : Words) (t x p : ℕ) (m' : Words) (b : Bool) → (x < 4096 → Roots s ps m t x) → x < 4096 → p ≡ turn x (source m (x / 2)) → OwnsAll s ps ws m (kids s ps ws (p / 2)) m' b → not b ≡ true → Owns s ps ws m t m' false
owns_kids s ps ws m t x p m' b f h ep g nb = record { marks = g.marks; at = λ e st ts run k l j. go st ts run k l j (kind_word s ps ws (p / 2)) refl }
  where
    go : (st : Stage s ps ws) (ts : Types) → Run ts → Mirror s ps ws st m ts → st.live (t / 2) ≡ true → (j k : ℕ) → kind_word s ps ws (p / 2) ≡ k → self_inverse_in j s ts (stands st.to t) ≡ false
    go st ts run k l j zero e =
        let a = (f h).at ws st ts k l in
        own_none j s ts (stands st.to t) (stands st.to x) a.2 (ap (λ (u : Ty). state_at ts u.1) (stands_at s ps ws st x a.0) ∙ state_unknown s ps ws m x p ep st ts k a.0 a.1 e)
    go st ts run k l j (suc n) e =
        let z : kind_word s ps ws (p / 2) ≢ 0 = λ q. omega (arith, sym e ∙ q) in
        let a = (f h).at ws st ts k l in
        own_opened j s ts (stands st.to t) (stands st.to x) _ _ _ _ a.2 (ap (λ (u : Ty). state_at ts u.1) (stands_at s ps ws st x a.0) ∙ state_known s ps ws m x p ep st ts k a.0 a.1 z) _ refl (inr (g.at (not_held b nb) st ts run k _ (shown s ps ws m x p ep st ts k a.0 a.1 z).kin))

-- One type and then the others.
all_one : (s ps ws m : Words) (u : ℕ) (us m' : Words) → Owns s ps ws m u m' false → OwnsAll s ps ws m (u ∷ us) m' false
unfolding all
all_one s ps ws m u us m' o = record { marks = o.marks; at = λ e st ts run k cs q j. go st ts run k cs q j }
  where
    go : (st : Stage s ps ws) (ts : Types) → Run ts → Mirror s ps ws st m ts → (cs : List Ty) → Kin st.to st.live st.table cs (u ∷ us) → (j : ℕ) → all (λ c. self_inverse_in j s ts c) cs ≡ false
    go st ts run k [] q j = absurd q
    go st ts run k (c ∷ cs) q j = rw (own_found j s ts c (stands st.to u) (follow_find s ps ws st m ts k c (stands st.to u) q.0 (lives st u q.1) q.2) ∙ o.at refl st ts run k q.1 j, all)

all_more : (s ps ws m : Words) (u : ℕ) (m₁ : Words) (b : Bool) (us m' : Words) (r : Bool) → Owns s ps ws m u m₁ b → OwnsAll s ps ws m₁ us m' r → OwnsAll s ps ws m (u ∷ us) m' r
unfolding all
all_more s ps ws m u m₁ b us m' r o p = record { marks = marks_on m m₁ m' o.marks p.marks; at = λ e st ts run k cs q j. go e st ts run k cs q j }
  where
    first : (f : Ty → Bool) (c : Ty) (cs : List Ty) → all f cs ≡ false → all f (c ∷ cs) ≡ false
    first f c cs e = by (f c) refl
      where
        by : (d : Bool) → f c ≡ d → all f (c ∷ cs) ≡ false
        by true z = rw (z, all) e
        by false z = rw (z, all)

    go : r ≡ false → (st : Stage s ps ws) (ts : Types) → Run ts → Mirror s ps ws st m ts → (cs : List Ty) → Kin st.to st.live st.table cs (u ∷ us) → (j : ℕ) → all (λ c. self_inverse_in j s ts c) cs ≡ false
    go e st ts run k [] q j = absurd q
    go e st ts run k (c ∷ cs) q j = first (λ c. self_inverse_in j s ts c) c cs (p.at e st ts run (mirror_marks s ps ws st m m₁ ts o.marks k) cs q.3 j)

-- j types of a row are tested, and what is found of the others is found of all.
pub record Owning (s ps ws m : Words) (o : Row) (m₁ : Words) (j : ℕ) : Type 0 where
  pub marks : Marks m m₁
  pub long : o.n ≤ length o.types
  pub few : o.n ≤ 8
  pub rest : (m' : Words) → OwnsAll s ps ws m₁ (drop j (take o.n o.types)) m' false → OwnsAll s ps ws m (take o.n o.types) m' false

pub owning_start : (s ps ws m : Words) (r : ℕ) (o : Row) → Kids s ps ws r o → Owning s ps ws m o m 0
owning_start s ps ws m r o k = record { marks = marks_same m; long = k.long; few = k.few; rest = λ m' p. p }

module _ (s ps ws m : Words) (o : Row) (m₁ : Words) (j : ℕ) (k : Owning s ps ws m o m₁ j) where
  here : j < o.n → drop j (take o.n o.types) ≡ at o.types j ∷ drop (j + 1) (take o.n o.types)
  here h = drop-cons (take o.n o.types) j 0 (omega (arith, length-take-le o.n o.types k.long)) ∙ (λ i. get_or-take o.n o.types j 0 h i ∷ drop (sym (add-one j) i) (take o.n o.types))

  pub owning_on : (u : ℕ) (m₂ : Words) (b : Bool) → j < o.n → u ≡ at o.types j → Owns s ps ws m₁ u m₂ b → Owning s ps ws m o m₂ (j + 1)
  owning_on u m₂ b h e w = record {
    marks = marks_on m m₁ m₂ k.marks w.marks;
    long = k.long;
    few = k.few;
    rest = λ m' p. k.rest m' (subst (λ (us : Words). OwnsAll s ps ws m₁ us m' false) (sym (here h)) (subst (λ v. OwnsAll s ps ws m₁ (v ∷ drop (j + 1) (take o.n o.types)) m' false) e (all_more s ps ws m₁ u m₂ b (drop (j + 1) (take o.n o.types)) m' false w p)));
  }

  pub owning_not : (r u : ℕ) (m₂ : Words) (b : Bool) → Kids s ps ws r o → j < o.n → u ≡ at o.types j → Owns s ps ws m₁ u m₂ b → not b ≡ true → OwnsAll s ps ws m (kids s ps ws r) m₂ false
  owning_not r u m₂ b t h e w nb =
      subst (λ (us : Words). OwnsAll s ps ws m us m₂ false) t.are
      (k.rest m₂ (subst (λ (us : Words). OwnsAll s ps ws m₁ us m₂ false) (sym (here h)) (subst (λ v. OwnsAll s ps ws m₁ (v ∷ drop (j + 1) (take o.n o.types)) m₂ false) e (all_one s ps ws m₁ u (drop (j + 1) (take o.n o.types)) m₂ (subst (Owns s ps ws m₁ u m₂) (not_held b nb) w)))))

  pub owning_end : (us : Words) → OwnsAll s ps ws m us m₁ true
  owning_end us = all_true s ps ws m us m₁ k.marks
