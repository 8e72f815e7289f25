-- The arguments of a signature and of the question.
use Rattle.std.specs.Prelude.{ℕ, ◌+◌, ◌/◌, ◌%◌, ◌<◌, ◌≡◌, refl, Bool, true, false, ◌≢◌}
use Rattle.std.specs.Int.{from_bool}
use Rattle.std.proofs.Common.{sym, ◌∙◌, ap, subst, arith}
use Rattle.rules.specs.Lists.{Words}
use Rattle.rules.specs.Layout.{kind_error}
use Rattle.rules.specs.Sheet.{at}
use Rattle.rules.specs.SignedTerms.{SignedSol}
use Rattle.queries.specs.declared.Query.{Query}
use Rattle.refs.specs.Meaning.{means, Meaning}
use Rattle.refs.specs.Refs.{KindOf, IdOf, Bit, bits_apart, side_bit, Sided, type_side, apart}
use Rattle.order.specs.Brought.{Brought}
use Rattle.order.specs.Arguments.{Fails}
use Rattle.loose.specs.Loose.{own_type, asked_type, LooseMeaning, Opposed}
use Rattle.meeting.specs.declared.state.Meeting.{Meeting}
use Rattle.meeting.specs.Meeting.{Holds, After, after_none, Fresh, fresh_holds, Meets, known_same, known_sides, kinds-same, errors_same}
use Rattle.meeting.specs.Rows.{Ran}
use Rattle.meeting.specs.Cycles.{Cyclic}

-- The arguments of a signature and of the question mean the same.
pub record Agree (s : Words) (m : SignedSol) (ws : Words) (p q : Query) : Type 0 where
  pub same : (k : ℕ) → k < q.n → means s m (own_type p k) ≡ means s m (asked_type ws q k)

pub record ArgsMet (s ps ws : Words) (o : Meeting) (p q : Query) (r : Meeting) (c : Bool) : Type 0 where
  pub at : (m : SignedSol) → Meaning s ps ws m → Holds s m o → Agree s m ws p q → After s m r c

pub args_start : (s ps ws : Words) (o : Meeting) (p q : Query) → ArgsMet s ps ws o p q o false
args_start s ps ws o p q = record { at = λ m w h a. record { holds = h; free = refl } }

pub args_on : (s ps ws : Words) (o : Meeting) (p q : Query) (r : Meeting) (k a b : ℕ) (t : Meeting) (c : Bool) → ArgsMet s ps ws o p q r false → k < q.n → a ≡ 2048 + at p.args k % 2048 → b ≡ asked_type ws q k → Meets s ps ws r a b t c → ArgsMet s ps ws o p q t c
args_on s ps ws o p q r k a b t c g h ea eb u = record { at = λ m w l x. u.at m w (g.at m w l x).holds (ap (means s m) ea ∙ x.same k h ∙ ap (means s m) (sym eb)) }

-- For a candidate, where g is true, what is loose is besides not its own inverse, and the rule succeeds from the table that it is brought into.
pub record Clashing (g : Bool) (s ps ws : Words) (p q : Query) (b : Bool) : Type 0 where
  pub clash : b ≡ true → (m : SignedSol) → Meaning s ps ws m → (g ≡ true → LooseMeaning s ps ws p q m) → (g ≡ true → Brought s ps ws p q) → Agree s m ws p q → ⊥

-- At the start there are no links and no pairs.
module _ (g : Bool) (s ps ws : Words) (o : Meeting) (p q : Query) (r : Meeting) (c : Bool) (f : Fresh o) (t : ArgsMet s ps ws o p q r c) where
  after : (m : SignedSol) → Meaning s ps ws m → Agree s m ws p q → After s m r c
  after m w a = t.at m w (fresh_holds s m o f) a

  pub clashing_args : c ≡ true → Clashing g s ps ws p q true
  clashing_args e = record { clash = λ b m w v u a. after_none s m r (subst (After s m r) e (after m w a)) }

  module _ (i : Meeting) (b : Bool) (d : Ran s ps ws r i b) where
    pub clashing_run : b ≡ true → Clashing g s ps ws p q true
    clashing_run e = record { clash = λ z m w v u a. after_none s m i (subst (After s m i) e (d.at m w (after m w a).holds)) }

    pub clashing_cyclic : (y : Bool) → Cyclic s ps ws i.links y → Clashing g s ps ws p q y
    clashing_cyclic y x = record { clash = λ z m w v u a. x.cycle z m w (d.at m w (after m w a).holds).holds.linked }

    pub clashing_opposed : g ≡ true → (y : Bool) → Opposed s ps ws i.links p q y → y ≡ true → Clashing g s ps ws p q true
    clashing_opposed o y x e = record { clash = λ z m w v u a. x.clash e m w (v o) (d.at m w (after m w a).holds).holds.linked }

-- The roots of two arguments clash.
pub record RootClash (s ps ws : Words) (a b : ℕ) (r : Bool) : Type 0 where
  pub clash : r ≡ true → (m : SignedSol) → Meaning s ps ws m → means s m a ≡ means s m b → ⊥

pub root_clash_not : (s ps ws : Words) (a b : ℕ) → RootClash s ps ws a b false
root_clash_not s ps ws a b = record { clash = λ e. let z : ◌≡◌ {A = ℕ} 0 1 = cc in absurd (omega arith) }

pub root_kinds : (s ps ws : Words) (a b k j : ℕ) → KindOf s ps ws (a / 2) k → KindOf s ps ws (b / 2) j → k ≢ 0 → j ≢ 0 → k ≢ j → RootClash s ps ws a b true
root_kinds s ps ws a b k j ek ej zk zj n = record { clash = λ e m w q. n (kinds-same s ps ws a b k j ek ej zk zj m w q) }

pub root_errors : (s ps ws : Words) (a b k j : ℕ) → KindOf s ps ws (a / 2) k → KindOf s ps ws (b / 2) j → k ≢ 0 → j ≢ 0 → k ≡ kind_error → a / 2 ≢ b / 2 → RootClash s ps ws a b true
root_errors s ps ws a b k j ek ej zk zj o n = record { clash = λ e m w q. n (errors_same s ps ws a b k j ek ej zk zj o m w q) }

pub root_ids : (s ps ws : Words) (a b k j c d : ℕ) → KindOf s ps ws (a / 2) k → KindOf s ps ws (b / 2) j → k ≢ 0 → j ≢ 0 → IdOf s ps ws (a / 2) c → IdOf s ps ws (b / 2) d → c ≢ d → RootClash s ps ws a b true
root_ids s ps ws a b k j c d ek ej zk zj ec ed n = record { clash = λ e m w q. n (known_same s ps ws a b k j c d ek ej zk zj ec ed m w q) }

root_sides : (s ps ws : Words) (a b k j c d r : ℕ) (o : Bool) → KindOf s ps ws (a / 2) k → KindOf s ps ws (b / 2) j → k ≢ 0 → j ≢ 0 → IdOf s ps ws (a / 2) c → IdOf s ps ws (b / 2) d → Bit (apart s ps ws a b) r → r ≡ 1 → Sided s k c o → RootClash s ps ws a b o
root_sides s ps ws a b k j c d r o ek ej zk zj ec ed t er f = record { clash = λ e m w q. bits_apart (type_side s ps ws a) (type_side s ps ws b) r t er (known_sides s ps ws a b k j c d ek ej zk zj ec ed m w q (f.is e)) }

pub root_apart : (s ps ws : Words) (a b k j c d : ℕ) (i o : Bool) → KindOf s ps ws (a / 2) k → KindOf s ps ws (b / 2) j → k ≢ 0 → j ≢ 0 → IdOf s ps ws (a / 2) c → IdOf s ps ws (b / 2) d → i ≡ apart s ps ws a b → i ≡ true → Sided s k c o → RootClash s ps ws a b o
root_apart s ps ws a b k j c d i o ek ej zk zj ec ed ei t f = root_sides s ps ws a b k j c d (from_bool i) o ek ej zk zj ec ed (side_bit i (apart s ps ws a b) (from_bool i) ei refl) (ap from_bool t) f

pub clashing_root : (s ps ws : Words) (p q : Query) (k a b : ℕ) (r : Bool) → k < q.n → a ≡ 2048 + at p.args k % 2048 → b ≡ asked_type ws q k → RootClash s ps ws a b r → r ≡ true → Clashing false s ps ws p q true
clashing_root s ps ws p q k a b r h ea eb o e = record { clash = λ y m w v u x. o.clash e m w (ap (means s m) ea ∙ x.same k h ∙ ap (means s m) (sym eb)) }

pub clashing_not : (g : Bool) (s ps ws : Words) (p q : Query) → Clashing g s ps ws p q false
clashing_not g s ps ws p q = record { clash = λ e. let z : ◌≡◌ {A = ℕ} 0 1 = cc in absurd (omega arith) }

pub clashing_found : (g : Bool) (s ps ws : Words) (p q : Query) (r : Bool) → Clashing false s ps ws p q r → r ≡ true → Clashing g s ps ws p q true
clashing_found g s ps ws p q r o e = record { clash = λ y m w v u x. o.clash e m w (λ n. let z : ◌≡◌ {A = ℕ} 0 1 = cc in absurd (omega arith)) (λ n. let z : ◌≡◌ {A = ℕ} 0 1 = cc in absurd (omega arith)) x }

-- The rule fails for a candidate.
pub clashing_order : (g : Bool) (s ps ws : Words) (p q : Query) (r : Bool) → g ≡ true → Fails s ps ws p q r → Clashing g s ps ws p q r
clashing_order g s ps ws p q r e f = record { clash = λ z m w v u x. f.unfit z (u e) }

pub clashing_whole : (g : Bool) (s ps ws : Words) (p q : Query) (r : Bool) → Clashing g s ps ws p q r → r ≡ true → Clashing g s ps ws p q true
clashing_whole g s ps ws p q r o e = subst (Clashing g s ps ws p q) e o
