-- The notes as words are written: a root hung under another, and two joined.
use Rattle.std.specs.Prelude.{ℕ, ◌+◌, ◌-◌, ◌*◌, ◌/◌, ◌%◌, ◌≤◌, ◌<◌, ◌≡◌, refl, Bool, true, false, ◌≢◌, length, set}
use Rattle.std.proofs.Common.{sym, ◌∙◌, ap, subst, true≢false, arith, length-set, get_or-set_same, get_or-set_other}
use Rattle.rules.specs.Lists.{Words}
use Rattle.rules.specs.Sheet.{at}
use Rattle.rules.specs.Types.{Types, size_at}
use Rattle.refs.specs.Meaning.{turn}
use Rattle.order.specs.Stage.{Stage, base}
use Rattle.order.specs.Mirror.{source, source_own, source_other, Mirror, Hung, TwoRoots, mirror_left, mirror_right}
use Rattle.order.specs.Meeting.{Joins}

-- Where a root has its state from.
pub state_own : (m : Words) (x w f : ℕ) → x < 4096 → w ≡ x / 2 % 2048 → f ≡ at m (4096 + w) → f ≡ 0 → x ≡ turn x (source m (x / 2))
state_own m x w f h ew ef z =
    let r : w ≡ x / 2 = ew ∙ (let y : x / 2 % 2048 ≡ x / 2 = omega (arith, h) in y) in
    sym (ap (turn x) (source_own m (x / 2) (ap (λ j. at m (4096 + j)) (sym r) ∙ sym ef ∙ z)) ∙ (let y : turn x (2 * (x / 2)) ≡ x = omega arith in y))

pub state_other : (m : Words) (x w f p : ℕ) → x < 4096 → w ≡ x / 2 % 2048 → f ≡ at m (4096 + w) → f ≢ 0 → p ≡ turn (x % 2) (f - 1) → p ≡ turn x (source m (x / 2))
state_other m x w f p h ew ef z ep =
    let r : w ≡ x / 2 = ew ∙ (let y : x / 2 % 2048 ≡ x / 2 = omega (arith, h) in y) in
    let e : at m (4096 + x / 2) ≡ f = ap (λ j. at m (4096 + j)) (sym r) ∙ sym ef in
    ep ∙ (let y : turn (x % 2) (f - 1) ≡ turn x (f - 1) = omega arith in y) ∙ ap (turn x) (sym (source_other m (x / 2) (λ q. z (sym e ∙ q)) ∙ ap (λ j. j - 1) e))

-- Root hi has its state from lo's.
pub record Inherits (m : Words) (lo hi : ℕ) (m' : Words) : Type 0 where
  pub len : length m' ≡ length m
  pub there : length m ≡ 8192 → at m' (4096 + hi / 2) ≡ turn hi (turn lo (source m (lo / 2))) % 4096 + 1
  pub rest : (j : ℕ) → j ≢ 4096 + hi / 2 → at m' j ≡ at m j

pub inherits_set : (m : Words) (lo hi p v w : ℕ) → hi < 4096 → p ≡ turn lo (source m (lo / 2)) → v ≡ turn (hi % 2) p → w ≡ hi / 2 % 2048 → Inherits m lo hi (set m (4096 + w) (v % 4096 + 1))
inherits_set m lo hi p v w h ep ev ew =
    let r : w ≡ hi / 2 = ew ∙ (let y : hi / 2 % 2048 ≡ hi / 2 = omega (arith, h) in y) in
    let f : v ≡ turn hi (turn lo (source m (lo / 2))) = ev ∙ (let y : turn (hi % 2) p ≡ turn hi p = omega arith in y) ∙ ap (turn hi) ep in
    record {
      len = length-set m (4096 + w) (v % 4096 + 1);
      there = λ l. ap (λ j. at (set m (4096 + w) (v % 4096 + 1)) (4096 + j)) (sym r) ∙ get_or-set_same m (4096 + w) (v % 4096 + 1) 0 (omega (arith, l, r, h)) ∙ ap (λ j. j % 4096 + 1) f;
      rest = λ j d. get_or-set_other m (4096 + w) j (v % 4096 + 1) 0 (λ q. d (q ∙ ap (λ i. 4096 + i) r));
    }

-- Root lo, whose class has n nodes, is hung under root hi, unless that comes to too many.
pub record Hangs (m : Words) (lo hi n : ℕ) (bare : Bool) (m' : Words) (r : ℕ) : Type 0 where
  pub went : r ≢ 0
  pub at : r ≡ 1 → length m ≡ 8192 → Hung m lo hi n bare m'

-- The words of size and link are written.
module _ (m : Words) (lo hi n g w v z : ℕ) (hl : lo < 4096) (hh : hi < 4096) (ew : w ≡ hi / 2 % 2048) (ez : z ≡ lo / 2 % 2048) (eg : g ≡ at m (2048 + w)) (ev : v ≡ turn (lo % 2) hi) where
  abbrev m₁ : Words
  m₁ = set m (2048 + w) (g + n)

  abbrev m₂ : Words
  m₂ = set m₁ z (v % 4096 + 1)

  rw₁ : w ≡ hi / 2
  rw₁ = ew ∙ (let y : hi / 2 % 2048 ≡ hi / 2 = omega (arith, hh) in y)

  rz₁ : z ≡ lo / 2
  rz₁ = ez ∙ (let y : lo / 2 % 2048 ≡ lo / 2 = omega (arith, hl) in y)

  far : (j : ℕ) → j ≢ z → j ≢ 2048 + w → at m₂ j ≡ at m j
  far j a b = get_or-set_other m₁ z j (v % 4096 + 1) 0 a ∙ get_or-set_other m (2048 + w) j (g + n) 0 b

  pub hangs_put : Hangs m lo hi n false m₂ 1
  hangs_put = record {
    went = λ e. omega (arith, e);
    at = λ e l. record {
      long = length-set m₁ z (v % 4096 + 1) ∙ length-set m (2048 + w) (g + n) ∙ l;
      link = ap (at m₂) (sym rz₁) ∙ get_or-set_same m₁ z (v % 4096 + 1) 0 (omega (arith, l, length-set m (2048 + w) (g + n), rz₁, hl)) ∙ ap (λ j. j % 4096 + 1) (ev ∙ (let y : turn (lo % 2) hi ≡ turn lo hi = omega arith in y));
      links = λ r h d. far r (λ q. d (q ∙ rz₁)) (λ q. omega (arith, q, h));
      gain = ap (λ j. at m₂ (2048 + j)) (sym rw₁) ∙ get_or-set_other m₁ z (2048 + w) (v % 4096 + 1) 0 (λ q. omega (arith, q, rz₁, hl)) ∙ get_or-set_same m (2048 + w) (g + n) 0 (omega (arith, l, rw₁, hh)) ∙ ap (λ j. j + n) (eg ∙ ap (λ j. at m (2048 + j)) rw₁);
      gains = λ r h d. far (2048 + r) (λ q. omega (arith, q, rz₁, hl)) (λ q. d (omega (arith, q, rw₁)));
      from = λ b. absurd (true≢false (sym b));
      kept = λ b. far (4096 + hi / 2) (λ q. omega (arith, q, rz₁, hl)) (λ q. omega (arith, q, rw₁, hh));
      froms = λ r h d. far (4096 + r) (λ q. omega (arith, q, rz₁, hl)) (λ q. omega (arith, q, rw₁, hh));
    };
  }

-- The state is handed on before.
pub hangs_bare : (m : Words) (lo hi n : ℕ) (b : Bool) (m₁ m' : Words) (r : ℕ) → lo < 4096 → hi < 4096 → b ≡ true → Inherits m lo hi m₁ → Hangs m₁ lo hi n false m' r → Hangs m lo hi n b m' r
hangs_bare m lo hi n b m₁ m' r hl hh eb i g = record {
  went = g.went;
  at = λ e l.
      let o = g.at e (i.len ∙ l) in
      record {
        long = o.long;
        link = o.link;
        links = λ j h d. o.links j h d ∙ i.rest j (λ q. omega (arith, q, h));
        gain = o.gain ∙ ap (λ j. j + n) (i.rest (2048 + hi / 2) (λ q. omega (arith, q)));
        gains = λ j h d. o.gains j h d ∙ i.rest (2048 + j) (λ q. omega (arith, q, h));
        from = λ z. o.kept refl ∙ i.there l;
        kept = λ z. absurd (true≢false (sym eb ∙ z));
        froms = λ j h d. o.froms j h d ∙ i.rest (4096 + j) (λ q. d (omega (arith, q)));
      };
}

pub hangs_known : (m : Words) (lo hi n : ℕ) (b : Bool) (m' : Words) (r : ℕ) → b ≡ false → Hangs m lo hi n false m' r → Hangs m lo hi n b m' r
hangs_known m lo hi n b m' r e g = subst (λ c. Hangs m lo hi n c m' r) (sym e) g

-- The size of the class of a root.
class_size : (s ps ws : Words) (st : Stage s ps ws) (m : Words) (ts : Types) → Mirror s ps ws st m ts → (x y a : ℕ) → TwoRoots s ps ws st m x y → a ≡ base ws (x / 2) + at m (2048 + x / 2) → a ≡ size_at ts (st.to (x / 2)).1
class_size s ps ws st m ts k x y a o e = e ∙ ap (λ j. j + at m (2048 + x / 2)) (sym (st.size (x / 2) o.left.live o.left.plain)) ∙ sym (k.size (x / 2) o.left o.left_root)

class_other : (s ps ws : Words) (st : Stage s ps ws) (m : Words) (ts : Types) → Mirror s ps ws st m ts → (x y b : ℕ) → TwoRoots s ps ws st m x y → b ≡ base ws (y / 2) + at m (2048 + y / 2) → b ≡ size_at ts (st.to (y / 2)).1
class_other s ps ws st m ts k x y b o e = e ∙ ap (λ j. j + at m (2048 + y / 2)) (sym (st.size (y / 2) o.right.live o.right.plain)) ∙ sym (k.size (y / 2) o.right o.right_root)

pub joins_not : (ws m : Words) (x y : ℕ) (bx by : Bool) (m' : Words) → Joins ws m x y bx by m' 2
joins_not ws m x y bx by m' = record { went = λ e. omega (arith, e); at = λ e. absurd (omega (arith, e)) }

pub joins_left : (ws m : Words) (x y a b : ℕ) (bx by : Bool) (m' : Words) (r : ℕ) → (a < 65536 → a ≡ base ws (x / 2) + at m (2048 + x / 2)) → (b < 65536 → b ≡ base ws (y / 2) + at m (2048 + y / 2)) → a < 65536 → b < 65536 → b < a → Hangs m y x b bx m' r → Joins ws m x y bx by m' r
joins_left ws m x y a b bx by m' r ea eb sa sb h g = record {
  went = g.went;
  at = λ e s ps st ts run k o px py.
      mirror_left s ps ws st m ts k run x y a b o (class_size s ps ws st m ts k x y a o (ea sa)) (class_other s ps ws st m ts k x y b o (eb sb)) bx m' h px (g.at e k.long);
}

pub joins_right : (ws m : Words) (x y a b : ℕ) (bx by : Bool) (m' : Words) (r : ℕ) → (a < 65536 → a ≡ base ws (x / 2) + at m (2048 + x / 2)) → (b < 65536 → b ≡ base ws (y / 2) + at m (2048 + y / 2)) → a < 65536 → b < 65536 → a ≤ b → Hangs m x y a by m' r → Joins ws m x y bx by m' r
joins_right ws m x y a b bx by m' r ea eb sa sb h g = record {
  went = g.went;
  at = λ e s ps st ts run k o px py.
      mirror_right s ps ws st m ts k run x y a b o (class_size s ps ws st m ts k x y a o (ea sa)) (class_other s ps ws st m ts k x y b o (eb sb)) by m' h py (g.at e k.long);
}
