-- Classes of types that would contain themselves: there are none, for a type is larger than its children.
use Rattle.std.specs.Prelude.{ℕ, zero, suc, ◌/◌, ◌%◌, ◌<◌, ◌≡◌, Bool, true, false, List, ◌≢◌, ◌⊎◌, length, set, get_or, replicate}
use Rattle.std.proofs.Common.{sym, ◌∙◌, ap, subst, inl, inr, ⊎_elim, arith, length-set, get_or-set_same, get_or-set_other}
use Rattle.std.proofs.lemmas.List.{get_or_past}
use Rattle.std.proofs.Math.Decide.{ℕ_discrete}
use Rattle.rules.specs.Lists.{Words}
use Rattle.rules.specs.Sheet.{at}
use Rattle.rules.specs.Pigeonholes.{lt_or}
use Rattle.rules.specs.SignedTerms.{SignedSol}
use Rattle.table.specs.declared.Row.{Row}
use Rattle.refs.specs.Meaning.{means, Records, Meaning}
use Rattle.refs.specs.Refs.{Alike}
use Rattle.refs.specs.Links.{Linked, Finds}
use Rattle.refs.specs.Children.{Gathers}
use Rattle.meeting.specs.declared.cycles.Mark.{Mark}
use Rattle.meeting.specs.declared.cycles.Mark.TheVariants.{Unseen, Open, Done}
use Rattle.meeting.specs.Meeting.{true_not}
use Rattle.meeting.specs.Sizes.{size, size_same, child_smaller, size_mod}

-- The mark of ref r.
abbrev pub mark_at : List Mark → ℕ → Mark
mark_at ms r = get_or ms r Unseen

not_true : false ≡ true → ⊥
not_true e = let z : ◌≡◌ {A = ℕ} 0 1 = cc in omega arith

not_open : Unseen ≡ Open → ⊥
not_open e = let z : ◌≡◌ {A = ℕ} 0 1 = cc in omega arith

done_not : Done ≡ Open → ⊥
done_not e = let z : ◌≡◌ {A = ℕ} 0 1 = cc in omega arith

-- x is the root of t, along links and by its type parameter.
pub record Roots (s ps ls : Words) (t x : ℕ) : Type 0 where
  pub same : (m : SignedSol) → Records s ps m → Linked s m ls → means s m t ≡ means s m x

pub roots_found : (s ps ls : Words) (t y : ℕ) → Finds ls t y → Roots s ps ls t y
roots_found s ps ls t y f = record { same = λ m w l. f.at s m l }

pub roots_param : (s ps ls : Words) (t y p x : ℕ) → Finds ls t y → Alike s ps y p → Finds ls p x → Roots s ps ls t x
roots_param s ps ls t y p x f a g = record { same = λ m w l. f.at s m l ∙ a.at m w ∙ g.at s m l }

-- Type t is smaller than every open ref.
pub record Below (m : SignedSol) (ms : List Mark) (t : ℕ) : Type 0 where
  pub less : (y : ℕ) → mark_at ms (y % 2048) ≡ Open → size m (t / 2) < size m y

-- What is open in us was open in ms.
pub record Kept (ms us : List Mark) : Type 0 where
  pub was : (y : ℕ) → mark_at us y ≡ Open → mark_at ms y ≡ Open

pub kept_same : (ms : List Mark) → Kept ms ms
kept_same ms = record { was = λ y e. e }

kept_below : (m : SignedSol) (ms us : List Mark) (t : ℕ) → Kept ms us → Below m ms t → Below m us t
kept_below m ms us t k b = record { less = λ y e. b.less y (k.was (y % 2048) e) }

-- A walk down from t. true: nothing gives meanings in which t is smaller than every open ref.
pub record Within (s ps ws ls : Words) (ms : List Mark) (t : ℕ) (us : List Mark) (b : Bool) : Type 0 where
  pub cycle : b ≡ true → (m : SignedSol) → Meaning s ps ws m → Linked s m ls → Below m ms t → ⊥
  pub kept : b ≡ false → Kept ms us

-- A walk down from the first n of ns.
pub record Among (s ps ws ls : Words) (ms : List Mark) (n : ℕ) (ns : Words) (us : List Mark) (b : Bool) : Type 0 where
  pub cycle : b ≡ true → (m : SignedSol) → Meaning s ps ws m → Linked s m ls → ((j : ℕ) → j < n → Below m ms (at ns j)) → ⊥
  pub kept : b ≡ false → Kept ms us

-- What is open after place x is marked k.
newly : (ms : List Mark) (x : ℕ) (k : Mark) (y : ℕ) → mark_at (set ms x k) y ≡ Open → ((y ≡ x) × (k ≡ Open)) ⊎ ((y ≢ x) × (mark_at ms y ≡ Open))
newly ms x k y e = elim (ℕ_discrete y x) [
  | no d ↦ inr (d, sym (get_or-set_other ms x y k Unseen d) ∙ e)
  | yes d ↦ ⊎_elim
      (λ h. inl (d, sym (get_or-set_same ms x k Unseen h) ∙ ap (mark_at (set ms x k)) (sym d) ∙ e))
      (λ h. absurd (not_open (sym (get_or_past (set ms x k) y Unseen (omega (arith, length-set ms x k, d, h))) ∙ e)))
      (lt_or x (length ms))
]

pub within_not : (s ps ws ls : Words) (ms : List Mark) (t : ℕ) → Within s ps ws ls ms t ms false
within_not s ps ws ls ms t = record { cycle = λ e. absurd (not_true e); kept = λ e. kept_same ms }

-- Its root is open.
pub within_open : (s ps ws ls : Words) (ms : List Mark) (t x : ℕ) (k : Mark) → Roots s ps ls t x → k ≡ mark_at ms (x / 2 % 2048) → k ≡ Open → Within s ps ws ls ms t ms true
within_open s ps ws ls ms t x k r e q = record {
  cycle = λ y m w l b. omega (arith, b.less (x / 2) (sym e ∙ q), size_same s m t x (r.same m w.records l));
  kept = λ y. absurd (true_not y);
}

-- Its root x is opened, and its children are walked, which are smaller.
module _ (s ps ws ls : Words) (ms : List Mark) (t x : ℕ) (o : Row) (r : Roots s ps ls t x) (g : Gathers s ps ws (x / 2) o) (ns : List Mark) (en : ns ≡ set ms (x / 2 % 2048) Open) (us : List Mark) (b : Bool) (a : Among s ps ws ls ns o.n o.types us b) where
  smaller_below : (m : SignedSol) → Meaning s ps ws m → Linked s m ls → Below m ms t → (u : ℕ) → size m (u / 2) < size m (x / 2) → Below m ns u
  smaller_below m w l c u small = record { less = λ y e. one y (newly ms (x / 2 % 2048) Open (y % 2048) (sym (ap (λ (us' : List Mark). mark_at us' (y % 2048)) en) ∙ e)) }
    where
      one : (y : ℕ) → ((y % 2048 ≡ x / 2 % 2048) × (◌≡◌ {A = Mark} Open Open)) ⊎ ((y % 2048 ≢ x / 2 % 2048) × (mark_at ms (y % 2048) ≡ Open)) → size m (u / 2) < size m y
      one y (inl p) = omega (arith, small, size_mod m y (x / 2) p.0)
      one y (inr p) = omega (arith, small, c.less y p.1, size_same s m t x (r.same m w.records l))

  pub within-found : b ≡ true → Within s ps ws ls ms t us true
  within-found e = record {
    cycle = λ y m w l c. a.cycle e m w l (λ j h. smaller_below m w l c (at o.types j) (child_smaller s ps ws m (x / 2) o g w j h));
    kept = λ y. absurd (true_not y);
  }

  pub within_done : b ≡ false → (vs : List Mark) → vs ≡ set us (x / 2 % 2048) Done → Within s ps ws ls ms t vs false
  within_done e vs ev = record {
    cycle = λ y. absurd (not_true y);
    kept = λ y. record { was = λ v q. late v (newly us (x / 2 % 2048) Done v (sym (ap (λ (us' : List Mark). mark_at us' v) ev) ∙ q)) };
  }
    where
      early : (v : ℕ) → v ≢ x / 2 % 2048 → ((v ≡ x / 2 % 2048) × (◌≡◌ {A = Mark} Open Open)) ⊎ ((v ≢ x / 2 % 2048) × (mark_at ms v ≡ Open)) → mark_at ms v ≡ Open
      early v d (inl p) = absurd (d p.0)
      early v d (inr p) = p.1

      late : (v : ℕ) → ((v ≡ x / 2 % 2048) × (Done ≡ Open)) ⊎ ((v ≢ x / 2 % 2048) × (mark_at us v ≡ Open)) → mark_at ms v ≡ Open
      late v (inl p) = absurd (done_not p.1)
      late v (inr p) = early v p.0 (newly ms (x / 2 % 2048) Open v (sym (ap (λ (us' : List Mark). mark_at us' v) en) ∙ (a.kept e).was v p.1))

-- Those of a row in turn.
module _ (s ps ws ls : Words) (ms : List Mark) (n : ℕ) (xs : Words) (ns : List Mark) (k : Kept ms ns) where
  pub among_end : Among s ps ws ls ms n xs ns false
  among_end = record { cycle = λ e. absurd (not_true e); kept = λ e. k }

  pub among_found : (j t : ℕ) (us : List Mark) (b : Bool) → t ≡ at xs j → j < n → Within s ps ws ls ns t us b → b ≡ true → Among s ps ws ls ms n xs us true
  among_found j t us b et h w e = record {
    cycle = λ y m v l c. w.cycle e m v l (kept_below m ms ns t k (subst (Below m ms) (sym et) (c j h)));
    kept = λ y. absurd (true_not y);
  }

pub kept_on : (s ps ws ls : Words) (ms ns : List Mark) (t : ℕ) (us : List Mark) (b : Bool) → Kept ms ns → Within s ps ws ls ns t us b → b ≡ false → Kept ms us
kept_on s ps ws ls ms ns t us b k w e = record { was = λ y q. k.was y ((w.kept e).was y q) }

-- One that was walked is marked as done.
pub kept-marked : (s ps ws ls : Words) (ms ns : List Mark) (t : ℕ) (us : List Mark) (b : Bool) (vs : List Mark) → Kept ms ns → Within s ps ws ls ns t us b → b ≡ false → vs ≡ set us (t / 2 % 2048) Done → Kept ms vs
kept-marked s ps ws ls ms ns t us b vs k w e ev = record { was = λ y q. one y (newly us (t / 2 % 2048) Done y (sym (ap (λ (us' : List Mark). mark_at us' y) ev) ∙ q)) }
  where
    one : (y : ℕ) → ((y ≡ t / 2 % 2048) × (Done ≡ Open)) ⊎ ((y ≢ t / 2 % 2048) × (mark_at us y ≡ Open)) → mark_at ms y ≡ Open
    one y (inl p) = absurd (done_not p.1)
    one y (inr p) = (kept_on s ps ws ls ms ns t us b k w e).was y p.1

-- true: nothing gives meanings in which links are true.
pub record Cyclic (s ps ws ls : Words) (b : Bool) : Type 0 where
  pub cycle : b ≡ true → (m : SignedSol) → Meaning s ps ws m → Linked s m ls → ⊥

blank : (n y : ℕ) → mark_at (replicate n Unseen) y ≡ Open → ⊥
blank zero y e = not_open e
blank (suc n) zero e = not_open e
blank (suc n) (suc y) e = blank n y e

-- Walks down from some refs. true: nothing gives meanings in which links are true, where no ref was open before.
pub record Cycling (s ps ws ls : Words) (ms us : List Mark) (b : Bool) : Type 0 where
  pub cycle : b ≡ true → (m : SignedSol) → Meaning s ps ws m → Linked s m ls → ((y : ℕ) → mark_at ms y ≢ Open) → ⊥
  pub kept : b ≡ false → Kept ms us

pub cycling_not : (s ps ws ls : Words) (ms us : List Mark) → Kept ms us → Cycling s ps ws ls ms us false
cycling_not s ps ws ls ms us k = record { cycle = λ e. absurd (not_true e); kept = λ e. k }

pub cycling_found : (s ps ws ls : Words) (ms ns : List Mark) (t : ℕ) (us : List Mark) (b : Bool) → Kept ms ns → Within s ps ws ls ns t us b → b ≡ true → Cycling s ps ws ls ms us true
cycling_found s ps ws ls ms ns t us b k w e = record {
  cycle = λ y m v l z. w.cycle e m v l (record { less = λ x q. absurd (z (x % 2048) (k.was (x % 2048) q)) });
  kept = λ y. absurd (true_not y);
}

-- At the start no ref is open.
pub cyclic_first : (s ps ws ls : Words) (n : ℕ) (us : List Mark) (b : Bool) → Cycling s ps ws ls (replicate n Unseen) us b → b ≡ true → Cyclic s ps ws ls b
cyclic_first s ps ws ls n us b c e = record { cycle = λ y m v l. c.cycle e m v l (λ x q. blank n x q) }

pub cyclic_then : (s ps ws ls : Words) (n : ℕ) (us : List Mark) (b : Bool) (vs : List Mark) (d : Bool) → Cycling s ps ws ls (replicate n Unseen) us b → b ≡ false → Cycling s ps ws ls us vs d → Cyclic s ps ws ls d
cyclic_then s ps ws ls n us b vs d c e a = record { cycle = λ y m v l. a.cycle y m v l (λ x q. blank n x ((c.kept e).was x q)) }
