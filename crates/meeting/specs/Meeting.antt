-- Two types that mean the same are met: their classes are joined, and they are queued where both have a kind; or they clash, so that nothing gives them the same meaning.
use Rattle.std.specs.Prelude.{ℕ, ◌+◌, ◌*◌, ◌/◌, ◌%◌, ◌≤◌, ◌<◌, ◌≡◌, refl, Bool, true, false, List, None, ◌≢◌, length, set, get_or, replicate}
use Prim.Native.Nat.{zero, suc}
use Rattle.std.specs.Int.{from_bool}
use Rattle.std.proofs.Common.{sym, ◌∙◌, ap, subst, ⊎_elim, arith, not-suc-le-zero, length-set, get_or-set_same, get_or-set_other}
use Rattle.std.proofs.lemmas.List.{get_or_past}
use Rattle.std.proofs.Math.Decide.{ℕ_discrete}
use Rattle.rules.specs.Lists.{Words}
use Rattle.rules.specs.Layout.{kind_error}
use Rattle.rules.specs.Sheet.{at, kind_flag, row_own_inverse}
use Rattle.rules.specs.Pigeonholes.{lt_or}
use Rattle.rules.specs.SignedTerms.{SignedSol, turned, label, label-plain, label_error, label_flag}
use Rattle.refs.specs.Meaning.{odd, means, means_mod, means-turn, turn, Meaning, Parts, made_parts}
use Rattle.refs.specs.Refs.{KindOf, IdOf, sort_type, error_one, id_one, id_any, side_of, type_side, apart, Bit, bit_yes, bit_no, bit-sum, bit_type, bits_apart, side_bit, Sided, sided_not}
use Rattle.refs.specs.Links.{Linked, linked-none, Finds, finds_own, Links, Settles}
use Rattle.meeting.specs.declared.state.Meeting.{Meeting}
use Rattle.meeting.specs.declared.state.Pair.{Pair}

-- The pair at place k.
abbrev pub pair_at : List Pair → ℕ → Pair
pair_at ps k = get_or ps k (record { x = 0; y = 0; bound = None })

-- What is kept while types are met: the links, and the pairs in the queue, are of types that mean the same.
pub record Holds (s : Words) (m : SignedSol) (q : Meeting) : Type 0 where
  pub linked : Linked s m q.links
  pub queued : (k : ℕ) → k < q.len → means s m (pair_at q.pairs k).x ≡ means s m (pair_at q.pairs k).y

-- The same after a step, and b, whether that found a clash, is false.
pub record After (s : Words) (m : SignedSol) (q : Meeting) (b : Bool) : Type 0 where
  pub holds : Holds s m q
  pub free : b ≡ false

not_true : false ≡ true → ⊥
not_true e = let z : ◌≡◌ {A = ℕ} 0 1 = cc in omega arith

pub true_not : true ≡ false → ⊥
true_not e = let z : ◌≡◌ {A = ℕ} 0 1 = cc in omega arith

pub after_none : (s : Words) (m : SignedSol) (q : Meeting) → After s m q true → ⊥
after_none s m q a = true_not a.free

-- There are no links and no pairs.
pub record Fresh (q : Meeting) : Type 0 where
  pub unlinked : (k : ℕ) → at q.links k ≡ 0
  pub empty : q.len ≡ 0

blank : (n k : ℕ) → at (replicate n 0) k ≡ 0
blank zero k = refl
blank (suc n) zero = refl
blank (suc n) (suc k) = blank n k

pub fresh : (n : ℕ) (q : Meeting) → q.links ≡ replicate n 0 → q.len ≡ 0 → Fresh q
fresh n q e l = record { unlinked = λ k. ap (λ (ls : Words). at ls k) e ∙ blank n k; empty = l }

pub fresh_holds : (s : Words) (m : SignedSol) (q : Meeting) → Fresh q → Holds s m q
fresh_holds s m q f = record { linked = linked-none s m q.links f.unlinked; queued = λ k h. absurd (not-suc-le-zero (let z : k < 0 = omega (arith, h, f.empty) in z)) }

-- What holds before holds after,
pub record Keeps (q r : Meeting) : Type 0 where
  pub at : (s : Words) (m : SignedSol) → Holds s m q → Holds s m r

pub keeps_same : (q r : Meeting) → r.links ≡ q.links → r.pairs ≡ q.pairs → r.len ≡ q.len → Keeps q r
keeps_same q r el ep en = record {
  at = λ s m h. record {
    linked = subst (Linked s m) (sym el) h.linked;
    queued = λ k j. rw ep (h.queued k (omega (arith, en, j)));
  };
}

-- with fewer pairs,
pub keeps_fewer : (q r : Meeting) → r.links ≡ q.links → r.pairs ≡ q.pairs → r.len ≤ q.len → Keeps q r
keeps_fewer q r el ep en = record {
  at = λ s m h. record {
    linked = subst (Linked s m) (sym el) h.linked;
    queued = λ k j. rw ep (h.queued k (omega (arith, en, j)));
  };
}

-- A pair is set to types that mean the same.
pub queued_set : (s : Words) (m : SignedSol) (ps : List Pair) (i : ℕ) (v : Pair) (k : ℕ) → means s m v.x ≡ means s m v.y → (k ≢ i → means s m (pair_at ps k).x ≡ means s m (pair_at ps k).y) → means s m (pair_at (set ps i v) k).x ≡ means s m (pair_at (set ps i v) k).y
queued_set s m ps i v k q o = elim (ℕ_discrete k i) [
  | no d ↦ rw (get_or-set_other ps i k v (record { x = 0; y = 0; bound = None }) d) (o d)
  | yes d ↦ ⊎_elim
      (λ h. subst (λ (w : Pair). means s m w.x ≡ means s m w.y) (sym (ap (pair_at (set ps i v)) d ∙ get_or-set_same ps i v (record { x = 0; y = 0; bound = None }) h)) q)
      (λ h. subst (λ (w : Pair). means s m w.x ≡ means s m w.y) (sym (get_or_past (set ps i v) k (record { x = 0; y = 0; bound = None }) (omega (arith, length-set ps i v, d)))) refl)
      (lt_or i (length ps))
]

-- or where x and y mean the same.
pub record Joins (q : Meeting) (x y : ℕ) (r : Meeting) : Type 0 where
  pub at : (s : Words) (m : SignedSol) → Holds s m q → means s m x ≡ means s m y → Holds s m r

pub joins_same : (q : Meeting) (x y : ℕ) (r : Meeting) → r.links ≡ q.links → r.pairs ≡ q.pairs → r.len ≡ q.len → Joins q x y r
joins_same q x y r el ep en = record { at = λ s m h e. (keeps_same q r el ep en).at s m h }

-- They are linked,
pub joins_linked : (q : Meeting) (x y : ℕ) (r : Meeting) → Links q.links x y r.links → r.pairs ≡ q.pairs → r.len ≡ q.len → Joins q x y r
joins_linked q x y r l ep en = record {
  at = λ s m h e. record {
    linked = l.at s m h.linked e;
    queued = λ k j. rw ep (h.queued k (omega (arith, en, j)));
  };
}

-- or queued.
pub joins_queued : (q : Meeting) (x y : ℕ) (r : Meeting) (v : Pair) → r.links ≡ q.links → r.pairs ≡ set q.pairs q.len v → r.len ≡ q.len + 1 → v.x ≡ x % 4096 → v.y ≡ y % 4096 → Joins q x y r
joins_queued q x y r v el ep en ex ey = record {
  at = λ s m h e. record {
    linked = subst (Linked s m) (sym el) h.linked;
    queued = λ k j. rw ep (queued_set s m q.pairs q.len v k (ap (means s m) ex ∙ means_mod s m x ∙ e ∙ sym (means_mod s m y) ∙ ap (means s m) (sym ey)) (λ d. h.queued k (omega (arith, en, j, d))));
  };
}

pub joins_then : (q : Meeting) (x y : ℕ) (r t : Meeting) → Joins q x y r → Joins r x y t → Joins q x y t
joins_then q x y r t i j = record { at = λ s m h e. j.at s m (i.at s m h e) e }

pub joins_after : (q : Meeting) (x y : ℕ) (r t : Meeting) → r.links ≡ q.links → r.pairs ≡ q.pairs → r.len ≡ q.len → Joins r x y t → Joins q x y t
joins_after q x y r t el ep en j = record { at = λ s m h e. j.at s m ((keeps_same q r el ep en).at s m h) e }

-- Whether a kind and id is surely not its own inverse is told.
pub record Decides (s : Words) (q : Meeting) (k d : ℕ) (r : Meeting) (b : Bool) : Type 0 where
  pub keeps : Keeps q r
  pub sided : Sided s k d b

pub decides_not : (s : Words) (q : Meeting) (k d : ℕ) (r : Meeting) → Keeps q r → Decides s q k d r false
decides_not s q k d r a = record { keeps = a; sided = sided_not s k d }

-- Types x and y are met, of a kind and id that is its own inverse.
pub record Inverts (s : Words) (q : Meeting) (x y k d : ℕ) (r : Meeting) (b : Bool) : Type 0 where
  pub at : (m : SignedSol) → kind_flag s row_own_inverse k d ≢ false → Holds s m q → means s m x ≡ means s m y → After s m r b

module _ (s : Words) (q : Meeting) (x y k d : ℕ) (r : Meeting) (b : Bool) (c : Decides s q k d r b) where
  pub inverts_sided : b ≡ true → Inverts s q x y k d r true
  inverts_sided eb = record { at = λ m o h e. absurd (o (c.sided.is eb)) }

  pub inverts_joins : (t : Meeting) → Joins r x y t → Inverts s q x y k d t false
  inverts_joins t j = record { at = λ m o h e. record { holds = j.at s m (c.keeps.at s m h) e; free = refl } }

-- Types a and b are met.
pub record Meets (s ps ws : Words) (q : Meeting) (a b : ℕ) (r : Meeting) (c : Bool) : Type 0 where
  pub at : (m : SignedSol) → Meaning s ps ws m → Holds s m q → means s m a ≡ means s m b → After s m r c

-- Two types that have kinds and mean the same.
module _ (s ps ws : Words) (x y k j c d : ℕ) (ek : KindOf s ps ws (x / 2) k) (ej : KindOf s ps ws (y / 2) j) (zk : k ≢ 0) (zj : j ≢ 0) (ec : IdOf s ps ws (x / 2) c) (ed : IdOf s ps ws (y / 2) d) (m : SignedSol) (w : Meaning s ps ws m) (q : means s m x ≡ means s m y) where
  known_parts : Parts s (type_side s ps ws x) (type_side s ps ws y) k j (label w.records.name k c (x / 2)) (label w.records.name j d (y / 2)) (sort_type s ps ws m x k c w ek ec zk).over (sort_type s ps ws m y j d w ej ed zj).over
  known_parts =
      let a = sort_type s ps ws m x k c w ek ec zk in
      let b = sort_type s ps ws m y j d w ej ed zj in
      made_parts s (type_side s ps ws x) (type_side s ps ws y) k j (label w.records.name k c (x / 2)) (label w.records.name j d (y / 2)) a.over b.over (sym a.is ∙ q ∙ b.is)

  -- They are of one kind, an Error is the same ref,
  pub known_kinds : k ≡ j
  known_kinds = known_parts.kinds

  pub known_errors : k ≡ kind_error → x / 2 ≡ y / 2
  known_errors e =
      let o : j ≡ kind_error = sym known_kinds ∙ e in
      error_one s ps ws m w (x / 2) (y / 2) (subst (KindOf s ps ws (x / 2)) e ek) (subst (KindOf s ps ws (y / 2)) o ej)
      (sym (label_error w.records.name k c (x / 2) e) ∙ known_parts.ids ∙ label_error w.records.name j d (y / 2) o)

  -- of one id, and of one side if that is not its own inverse.
  pub known_same : c ≡ d
  known_same = elim (ℕ_discrete k kind_error) [
    | yes e ↦ id_one s ps ws (x / 2) c d ec (subst (λ r. IdOf s ps ws r d) (sym (known_errors e)) ed)
    | no n ↦ sym (label-plain w.records.name k c (x / 2) n) ∙ known_parts.ids ∙ label-plain w.records.name j d (y / 2) (λ e. n (known_kinds ∙ e))
  ]

  pub known_sides : kind_flag s row_own_inverse k c ≡ false → type_side s ps ws x ≡ type_side s ps ws y
  known_sides o = known_parts.sides (label_flag s row_own_inverse w.records.name k c (x / 2) ∙ o)

pub kinds-same : (s ps ws : Words) (x y k j : ℕ) → KindOf s ps ws (x / 2) k → KindOf s ps ws (y / 2) j → k ≢ 0 → j ≢ 0 → (m : SignedSol) → Meaning s ps ws m → means s m x ≡ means s m y → k ≡ j
kinds-same s ps ws x y k j ek ej zk zj m w q = known_kinds s ps ws x y k j (id_any s ps ws (x / 2)).0 (id_any s ps ws (y / 2)).0 ek ej zk zj (id_any s ps ws (x / 2)).1 (id_any s ps ws (y / 2)).1 m w q

pub errors_same : (s ps ws : Words) (x y k j : ℕ) → KindOf s ps ws (x / 2) k → KindOf s ps ws (y / 2) j → k ≢ 0 → j ≢ 0 → k ≡ kind_error → (m : SignedSol) → Meaning s ps ws m → means s m x ≡ means s m y → x / 2 ≡ y / 2
errors_same s ps ws x y k j ek ej zk zj e m w q = known_errors s ps ws x y k j (id_any s ps ws (x / 2)).0 (id_any s ps ws (y / 2)).0 ek ej zk zj (id_any s ps ws (x / 2)).1 (id_any s ps ws (y / 2)).1 m w q e

module _ (s ps ws : Words) (q : Meeting) (x y : ℕ) where
  -- Nothing is said of them, or one has no kind.
  pub meets_same : Meets s ps ws q x y q false
  meets_same = record { at = λ m w h e. record { holds = h; free = refl } }

  pub meets_joins : (r : Meeting) → Joins q x y r → Meets s ps ws q x y r false
  meets_joins r j = record { at = λ m w h e. record { holds = j.at s m h e; free = refl } }

  pub meets_other : (r : Meeting) → Joins q y x r → Meets s ps ws q x y r false
  meets_other r j = record { at = λ m w h e. record { holds = j.at s m h (sym e); free = refl } }

  pub meets_kept : (r t : Meeting) (c : Bool) → Keeps q r → Meets s ps ws r x y t c → Meets s ps ws q x y t c
  meets_kept r t c k u = record { at = λ m w h e. u.at m w (k.at s m h) e }

  pub meets_right : (r t : Meeting) (c : Bool) → Keeps q r → Meets s ps ws r y x t c → Meets s ps ws q x y t c
  meets_right r t c k u = record { at = λ m w h e. u.at m w (k.at s m h) (sym e) }

  -- Both have one.
  pub roots_kinds : (k j : ℕ) → KindOf s ps ws (x / 2) k → KindOf s ps ws (y / 2) j → k ≢ 0 → j ≢ 0 → k ≢ j → Meets s ps ws q x y q true
  roots_kinds k j ek ej zk zj n = record { at = λ m w h e. absurd (n (kinds-same s ps ws x y k j ek ej zk zj m w e)) }

  -- Both are Errors, and different refs.
  pub roots_errors : (k : ℕ) → KindOf s ps ws (x / 2) k → KindOf s ps ws (y / 2) k → k ≢ 0 → k ≡ kind_error → x / 2 ≢ y / 2 → Meets s ps ws q x y q true
  roots_errors k ek ej zk o n = record { at = λ m w h e. absurd (n (errors_same s ps ws x y k k ek ej zk zk o m w e)) }

  -- It is the same.
  module _ (k : ℕ) (ek : KindOf s ps ws (x / 2) k) (ej : KindOf s ps ws (y / 2) k) (zk : k ≢ 0) (c d : ℕ) (ec : IdOf s ps ws (x / 2) c) (ed : IdOf s ps ws (y / 2) d) where
    pub known_ids : c ≢ d → Meets s ps ws q x y q true
    known_ids n = record { at = λ m w h e. absurd (n (known_same s ps ws x y k k c d ek ej zk zk ec ed m w e)) }

    pub known_inverted : (i : ℕ) → Bit (apart s ps ws x y) i → i ≡ 1 → (r : Meeting) (b : Bool) → Inverts s q x y k c r b → Meets s ps ws q x y r b
    known_inverted i o ei r b f = record { at = λ m w h e. f.at m (λ z. bits_apart (type_side s ps ws x) (type_side s ps ws y) i o ei (known_sides s ps ws x y k k c d ek ej zk zk ec ed m w e z)) h e }

pub known_apart : (s ps ws : Words) (q : Meeting) (x y k c d : ℕ) (i : Bool) (r : Meeting) (b : Bool) → KindOf s ps ws (x / 2) k → KindOf s ps ws (y / 2) k → k ≢ 0 → IdOf s ps ws (x / 2) c → IdOf s ps ws (y / 2) d → i ≡ apart s ps ws x y → i ≡ true → Inverts s q x y k c r b → Meets s ps ws q x y r b
known_apart s ps ws q x y k c d i r b ek ej z ec ed ei t f = known_inverted s ps ws q x y k ek ej z c d ec ed (from_bool i) (side_bit i (apart s ps ws x y) (from_bool i) ei refl) (ap from_bool t) r b f

pub kind_as : (s ps ws : Words) (r k j : ℕ) → KindOf s ps ws r j → k ≡ j → KindOf s ps ws r k
kind_as s ps ws r k j o e = subst (KindOf s ps ws r) (sym e) o

-- Two types are linked to their roots, which are met,
module _ (s ps ws : Words) (q : Meeting) (a b x y : ℕ) (ks : Words) (r : Meeting) (f : Finds q.links a x) (g : Finds q.links b y) (i : Links q.links a x ks) (j : Links ks b y r.links) (ep : r.pairs ≡ q.pairs) (en : r.len ≡ q.len) where
  shortened : (m : SignedSol) → Holds s m q → Holds s m r
  shortened m h = record { linked = j.at s m (i.at s m h.linked (f.at s m h.linked)) (g.at s m h.linked); queued = λ k l. rw ep (h.queued k (omega (arith, en, l))) }

  pub found-same : Meets s ps ws q a b r false
  found-same = record { at = λ m w h e. record { holds = shortened m h; free = refl } }

  pub found_meets : (t : Meeting) (c : Bool) → Meets s ps ws r x y t c → Meets s ps ws q a b t c
  found_meets t c u = record { at = λ m w h e. u.at m w (shortened m h) (sym (f.at s m h.linked) ∙ e ∙ g.at s m h.linked) }

-- and what these settle to.
module _ (s ps ws : Words) (q : Meeting) (a b x y : ℕ) (ks : Words) (r : Meeting) (f : Settles s ps q.links a ks x) (g : Settles s ps ks b r.links y) (ep : r.pairs ≡ q.pairs) (en : r.len ≡ q.len) where
  settled : (m : SignedSol) → Meaning s ps ws m → Holds s m q → Holds s m r
  settled m w h = record { linked = g.links m w.records (f.links m w.records h.linked); queued = λ k l. rw ep (h.queued k (omega (arith, en, l))) }

  pub settled_same : x ≡ y → Meets s ps ws q a b r false
  settled_same o = record { at = λ m w h e. record { holds = settled m w h; free = refl } }

  pub settled_meets : (t : Meeting) (c : Bool) → Meets s ps ws r x y t c → Meets s ps ws q a b t c
  settled_meets t c u = record { at = λ m w h e. u.at m w (settled m w h) (sym (f.at m w.records h.linked) ∙ e ∙ g.at m w.records (f.links m w.records h.linked)) }

-- A type and its inverse differ in side.
side-bit : (i : Bool) → (b : ℕ) × Bit i b
side-bit true = (1, bit_yes true refl)
side-bit false = (0, bit_no false refl)

inverse-rest : (x y : ℕ) → y ≡ turn 1 x → x % 2 + y % 2 ≡ 1
inverse-rest x y e = omega arith

sides_sum : (a u b : ℕ) → a + u ≡ 1 → ((a + b) % 2 + (u + b) % 2) % 2 ≡ 1
sides_sum a u b e = omega arith

own_apart : (s ps ws : Words) (x y : ℕ) → y ≡ turn 1 x → (b : ℕ) × (Bit (apart s ps ws x y) b × (b ≡ 1))
own_apart s ps ws x y e =
    let c = side-bit (side_of s ps ws (x / 2)) in
    let z : x / 2 ≡ y / 2 = omega (arith, e) in
    let o = subst (λ r. Bit (side_of s ps ws r) c.0) z c.1 in (
      ((x % 2 + c.0) % 2 + (y % 2 + c.0) % 2) % 2,
      (bit-sum (type_side s ps ws x) (type_side s ps ws y) ((x % 2 + c.0) % 2) ((y % 2 + c.0) % 2) (bit_type s ps ws x c.0 c.1) (bit_type s ps ws y c.0 o), sides_sum (x % 2) (y % 2) c.0 (inverse-rest x y e)),
    )

module _ (s ps ws : Words) (q : Meeting) (x k d : ℕ) (ek : KindOf s ps ws (x / 2) k) (zk : k ≢ 0) (ed : IdOf s ps ws (x / 2) d) where
  mirrors_inverts : (y : ℕ) → y ≡ turn 1 x → (r : Meeting) (b : Bool) → Inverts s q x y k d r b → Meets s ps ws q x (turn 1 x) r b
  mirrors_inverts y ey r b i =
      let z : x / 2 ≡ y / 2 = omega (arith, ey) in
      let ej = subst (λ n. KindOf s ps ws n k) z ek in
      let eg = subst (λ n. IdOf s ps ws n d) z ed in
      let o = own_apart s ps ws x y ey in
      let u = known_inverted s ps ws q x y k ek ej zk d d ed eg o.0 o.1.0 o.1.1 r b i in
      record { at = λ m w h e. u.at m w h (e ∙ ap (means s m) (sym ey)) }

  pub mirrors_sided : (r : Meeting) (b : Bool) → Decides s q k d r b → b ≡ true → Meets s ps ws q x (turn 1 x) r true
  mirrors_sided r b c eb = mirrors_inverts (turn 1 x) refl r true (inverts_sided s q x (turn 1 x) k d r b c eb)

  pub mirrors_joins : (r : Meeting) (b : Bool) (y : ℕ) (t : Meeting) → Decides s q k d r b → y ≡ turn 1 x → Joins r x y t → Meets s ps ws q x (turn 1 x) t false
  mirrors_joins r b y t c ey j = mirrors_inverts y ey t false (inverts_joins s q x y k d r b c t j)

-- Two types that mean the same are their own inverses together.
own_same : (s : Words) (m : SignedSol) (t x : ℕ) → means s m t ≡ means s m x → means s m t ≡ means s m (turn 1 t) → means s m x ≡ means s m (turn 1 x)
own_same s m t x f q = sym f ∙ q ∙ means-turn s m 1 t ∙ ap (turned s (odd 1)) f ∙ sym (means-turn s m 1 x)

-- A type is met with its own inverse by x, which is found from it.
pub own_found : (s ps ws : Words) (q : Meeting) (t x : ℕ) (r : Meeting) (b : Bool) → Finds q.links t x → Meets s ps ws q x (turn 1 x) r b → Meets s ps ws q t (turn 1 t) r b
own_found s ps ws q t x r b f p = record { at = λ m w h e. p.at m w h (own_same s m t x (f.at s m h.linked) e) }

-- The other type is given by a number that is the same.
pub meets_as : (s ps ws : Words) (q : Meeting) (a b y : ℕ) (r : Meeting) (c : Bool) → y ≡ b → Meets s ps ws q a y r c → Meets s ps ws q a b r c
meets_as s ps ws q a b y r c o t = record { at = λ m w h e. t.at m w h (e ∙ ap (means s m) (sym o)) }

-- An unknown that is linked to its own inverse is linked to y in its place, which is met with its own inverse.
pub bind_mirrors : (s ps ws : Words) (q : Meeting) (x y c w u : ℕ) (r t : Meeting) (b : Bool) → c ≡ x / 2 % 2048 → w ≡ c → u ≡ at q.links w → u ≡ 2 * c + 2 → Joins q x y r → Meets s ps ws r y (turn 1 y) t b → Meets s ps ws q x y t b
bind_mirrors s ps ws q x y c w u r t b ec ew eu o l p = record {
  at = λ m a h e. p.at m a (l.at s m h e) (own_same s m x y e ((finds_own q.links x c w u ec ew eu o).at s m h.linked));
}
