-- The steps of the test, as the code takes them.
use Rattle.std.specs.Prelude.{ℕ, ◌/◌, ◌%◌, ◌<◌, ◌≡◌, refl, Bool, true, false, not, Option, Some, None, MatchOption, map, ◌≢◌, eqb}
use Rattle.std.specs.Option.{is_some}
use Rattle.std.proofs.Common.{sym, ◌∙◌, ap, ap₂, inl, inr, arith, true≢false, eq-eqb as eq_yes}
use Rattle.rules.specs.Lists.{Words}
use Rattle.rules.specs.Sheet.{at, kind_flag}
use Rattle.refs.specs.Meaning.{turn}
use Rattle.refs.specs.Refs.{apart, Bit}
use Rattle.rules.specs.Types.{Types, find}
use Rattle.order.specs.Stage.{stands, Stage, kind_word, id_word, kids}
use Rattle.order.specs.Mirror.{source, Mirror, mirror_marks}
use Rattle.order.specs.Following.{Follows, FollowsAll, Meets, Owns, RootOf, all_nothing, follows_nothing, meets_nothing, follows_found, same_class, own_class, meet_class}
use Rattle.order.specs.Meeting.{Joins, tells_kind, meets_bind, meets_kinds, meets_error, meets_ids, meets_flag, meets_kids, meets_join}
use Rattle.order.specs.Words.{Linked, Roots, Steps, Shortens, mirror_shorter, root_stays}
use Rattle.order.specs.Owning.{not_held}

-- Two types by their roots, to which they are linked first.
module _ (s ps ws m : Words) (a b x y : ℕ) (m₁ m₂ : Words) (p : x < 4096 → Roots s ps m a x) (hx : x < 4096) (ga : Shortens m a x m₁) (q : y < 4096 → Roots s ps m₁ b y) (hy : y < 4096) (gb : Shortens m₁ b y m₂) where
  -- What is found of a table that the notes are of.
  record Seen (st : Stage s ps ws) (ts : Types) : Type 0 where
    later : Mirror s ps ws st m₂ ts
    left : RootOf s ps ws st m₂ ts a x
    right : RootOf s ps ws st m₂ ts b y

  seen : (st : Stage s ps ws) (ts : Types) → Mirror s ps ws st m ts → st.live (a / 2) ≡ true → st.live (b / 2) ≡ true → Seen st ts
  seen st ts k la lb =
      let fa = (p hx).at ws st ts k la in
      let k₁ = mirror_shorter s ps ws st m ts k a x la fa.0 fa.1 fa.2 m₁ ga in
      let fb = (q hy).at ws st ts k₁ lb in
      let stay = root_stays s ps ws st m₁ ts k₁ b y lb fb.0 fb.1 fb.2 m₂ gb in
      record {
        later = mirror_shorter s ps ws st m₁ ts k₁ b y lb fb.0 fb.1 fb.2 m₂ gb;
        left = record { sound = fa.0; root = stay x fa.0 (root_stays s ps ws st m ts k a x la fa.0 fa.1 fa.2 m₁ ga x fa.0 fa.1); is = fa.2 };
        right = record { sound = fb.0; root = stay y fb.0 fb.1; is = fb.2 };
      }

  pub go_same : x ≡ y → Follows s ps ws m a b m₂ 1
  go_same e = record { at = λ st n ts run k la lb w. let o = seen st ts k la lb in (λ z. absurd (omega (arith, z)), λ z. same_class s ps ws m₂ a b x y st ts o.later o.left o.right n (ap (λ j. j / 2) e) w) }

  pub go_own : (m' : Words) (o : Bool) → x / 2 ≡ y / 2 → Owns s ps ws m₂ x m' o → o ≡ true → Follows s ps ws m a b m' 1
  go_own m' o e g z = record { at = λ st n ts run k la lb w. let v = seen st ts k la lb in (λ z. absurd (omega (arith, z)), λ z. mirror_marks s ps ws st m₂ m' _ g.marks (same_class s ps ws m₂ a b x y st ts v.later v.left v.right n e w)) }

  pub go_not_own : (m' : Words) (o : Bool) → x ≢ y → x / 2 ≡ y / 2 → Owns s ps ws m₂ x m' o → o ≡ false → Follows s ps ws m a b m' 0
  go_not_own m' o d e g z = record { at = λ st n ts run k la lb w. let v = seen st ts k la lb in absurd (own_class s ps ws m₂ a b x y st ts v.later v.left v.right n d e (g.at z st ts run v.later v.left.sound.live) w) }

  pub go_meets : (m' : Words) (r : ℕ) → x / 2 ≢ y / 2 → Meets s ps ws m₂ x y m' r → Follows s ps ws m a b m' r
  go_meets m' r d g = record { at = λ st n ts run k la lb w. let v = seen st ts k la lb in meet_class s ps ws m₂ a b x y st ts v.later v.left v.right n run d m' r g w }

pub go_stop : (s ps ws m : Words) (a b : ℕ) (m' : Words) → Follows s ps ws m a b m' 2
go_stop s ps ws m a b m' = follows_nothing s ps ws m a b m' 2 (λ e. omega (arith, e)) (λ e. omega (arith, e))

pub all_stop : (s ps ws m us vs m' : Words) → FollowsAll s ps ws m us vs m' 2
all_stop s ps ws m us vs m' = all_nothing s ps ws m us vs m' 2 (λ e. omega (arith, e)) (λ e. omega (arith, e))

pub meet_stop : (s ps ws m : Words) (x y : ℕ) (m' : Words) → Meets s ps ws m x y m' 2
meet_stop s ps ws m x y m' = meets_nothing s ps ws m x y m' 2 (λ e. omega (arith, e)) (λ e. omega (arith, e))

-- Two types that are linked to one, or one to the other.
pub pair_near : (s ps ws m : Words) (a b x y : ℕ) → Steps m a x → Steps m b y → x ≡ y → Follows s ps ws m a b m 1
pair_near s ps ws m a b x y p q e = follows_found s ps ws m a b (λ st ts k la lb. p.at s ps ws st ts k la ∙ ap (λ j. find ts (stands st.to j)) e ∙ sym (q.at s ps ws st ts k lb))

-- Two roots of which one is unknown.
module _ (s ps ws m : Words) (x y p q k l : ℕ) (ep : p ≡ turn x (source m (x / 2))) (eq : q ≡ turn y (source m (y / 2))) (ek : k ≡ kind_word s ps ws (p / 2)) (el : l ≡ kind_word s ps ws (q / 2)) where
  pub meet_left : (m' : Words) (r : ℕ) → k ≡ 0 → Joins ws m x y (eqb k 0) (eqb l 0) m' r → Meets s ps ws m x y m' r
  meet_left m' r e j = meets_bind s ps ws m x y (eqb k 0) (eqb l 0) m' r (tells_kind s ps ws m x p ep k ek) (tells_kind s ps ws m y q eq l el) (inl (eq_yes k 0 e)) j

  pub meet_right : (m' : Words) (r : ℕ) → l ≡ 0 → Joins ws m x y (eqb k 0) (eqb l 0) m' r → Meets s ps ws m x y m' r
  meet_right m' r e j = meets_bind s ps ws m x y (eqb k 0) (eqb l 0) m' r (tells_kind s ps ws m x p ep k ek) (tells_kind s ps ws m y q eq l el) (inr (eq_yes l 0 e)) j

-- Types p and q of which known roots have their states: 2, they clash; else whether they meet inverted.
pub record Compared (s ps ws : Words) (p q c : ℕ) : Type 0 where
  pub clash : c ≡ 2 → (m : Words) (x y : ℕ) (m' : Words) → p ≡ turn x (source m (x / 2)) → q ≡ turn y (source m (y / 2)) → kind_word s ps ws (p / 2) ≢ 0 → kind_word s ps ws (q / 2) ≢ 0 → Meets s ps ws m x y m' 0
  pub bit : c ≢ 2 → Bit (apart s ps ws p q) c

module _ (s ps ws : Words) (p q k l : ℕ) (ek : k ≡ kind_word s ps ws (p / 2)) (el : l ≡ kind_word s ps ws (q / 2)) where
  pub compared_kinds : k ≢ l → Compared s ps ws p q 2
  compared_kinds n = record { clash = λ e m x y m' ep eq kp kq. meets_kinds s ps ws m x y p q ep eq kp kq m' (λ z. n (ek ∙ z ∙ sym el)); bit = λ z. absurd (z refl) }

  pub compared_error : k ≡ 13 → Compared s ps ws p q 2
  compared_error z = record { clash = λ e m x y m' ep eq kp kq. meets_error s ps ws m x y p q ep eq kp kq m' (sym ek ∙ z); bit = λ z. absurd (z refl) }

  pub compared_ids : (d c : ℕ) → d ≡ id_word s ps ws (p / 2) → c ≡ id_word s ps ws (q / 2) → d ≢ c → Compared s ps ws p q 2
  compared_ids d c ed ec n = record { clash = λ e m x y m' ep eq kp kq. meets_ids s ps ws m x y p q ep eq kp kq m' (λ z. n (ed ∙ z ∙ sym ec)); bit = λ z. absurd (z refl) }

pub compared_flag : (s ps ws : Words) (p q k d b i j : ℕ) (f : Bool) → k ≡ kind_word s ps ws (p / 2) → d ≡ id_word s ps ws (p / 2) → Bit (apart s ps ws p q) b → b ≡ 1 → i ≡ k → j ≡ d → f ≡ kind_flag s 3 i j → not f ≡ true → Compared s ps ws p q 2
compared_flag s ps ws p q k d b i j f ek ed bit e ei ej ef n = record { clash = λ e' m x y m' ep eq kp kq. meets_flag s ps ws m x y p q ep eq kp kq m' b bit e (sym (ap₂ (kind_flag s 3) (ei ∙ ek) (ej ∙ ed)) ∙ sym ef ∙ not_held f n); bit = λ z. absurd (z refl) }

pub compared_bit : (s ps ws : Words) (p q b : ℕ) → Bit (apart s ps ws p q) b → Compared s ps ws p q b
compared_bit s ps ws p q b o = record { clash = λ e. absurd (omega (arith, o.small, e)); bit = λ z. o }

-- The roots are joined, if they are roots still.
pub record Rejoins (ws m : Words) (x y : ℕ) (m' : Words) (r : ℕ) : Type 0 where
  pub went : r ≢ 0
  pub left : r ≡ 1 → at m (x / 2) ≡ 0
  pub right : r ≡ 1 → at m (y / 2) ≡ 0
  pub joins : r ≡ 1 → Joins ws m x y false false m' r

pub rejoins_not : (ws m : Words) (x y : ℕ) (m' : Words) → Rejoins ws m x y m' 2
rejoins_not ws m x y m' = record { went = λ e. omega (arith, e); left = λ e. absurd (omega (arith, e)); right = λ e. absurd (omega (arith, e)); joins = λ e. absurd (omega (arith, e)) }

pub rejoins_both : (ws m : Words) (x y : ℕ) (o p : Option ℕ) (m' : Words) (r : ℕ) → x < 4096 → y < 4096 → MatchOption o (at m (x / 2 % 2048) ≡ 0) (Linked m x) → MatchOption p (at m (y / 2 % 2048) ≡ 0) (Linked m y) → is_some o ≡ false → is_some p ≡ false → Joins ws m x y false false m' r → Rejoins ws m x y m' r
rejoins_both ws m x y (Some u) p m' r hx hy f g e d j = absurd (true≢false e)
rejoins_both ws m x y None (Some v) m' r hx hy f g e d j = absurd (true≢false d)
rejoins_both ws m x y None None m' r hx hy f g e d j = record {
  went = j.went;
  left = λ z. ap (at m) (let w : x / 2 ≡ x / 2 % 2048 = omega (arith, hx) in w) ∙ f;
  right = λ z. ap (at m) (let w : y / 2 ≡ y / 2 % 2048 = omega (arith, hy) in w) ∙ g;
  joins = λ z. j;
}

-- Two known roots.
module _ (s ps ws m : Words) (x y p q c : ℕ) (ep : p ≡ turn x (source m (x / 2))) (eq : q ≡ turn y (source m (y / 2))) (kp : kind_word s ps ws (p / 2) ≢ 0) (kq : kind_word s ps ws (q / 2) ≢ 0) (o : Compared s ps ws p q c) where
  pub known_clash : (m' : Words) → c ≡ 2 → Meets s ps ws m x y m' 0
  known_clash m' e = o.clash e m x y m' ep eq kp kq

  pub known_kids : (m₁ : Words) (r : ℕ) → c ≢ 2 → FollowsAll s ps ws m (kids s ps ws (p / 2)) (map (turn c) (kids s ps ws (q / 2))) m₁ r → r ≢ 1 → Meets s ps ws m x y m₁ r
  known_kids m₁ r n f z = meets_kids s ps ws m x y p q ep eq kp kq c m₁ r (o.bit n) f z

  pub known_joined : (m₁ : Words) (r₁ : ℕ) (m₂ : Words) (r : ℕ) → c ≢ 2 → FollowsAll s ps ws m (kids s ps ws (p / 2)) (map (turn c) (kids s ps ws (q / 2))) m₁ r₁ → r₁ ≡ 1 → Rejoins ws m₁ x y m₂ r → Meets s ps ws m x y m₂ r
  known_joined m₁ r₁ m₂ r n f e g = record {
    at = λ st j ts run k w v. (g.went, λ z. ((meets_join s ps ws m x y p q ep eq kp kq c m₁ r₁ m₂ r (o.bit n) f e (g.left z) (g.right z) (g.joins z)).at st j ts run k w v).1 z);
  }

-- A kind that is read is there.
pub kind_there : (s ps ws : Words) (r k : ℕ) → k ≡ kind_word s ps ws r → k ≢ 0 → kind_word s ps ws r ≢ 0
kind_there s ps ws r k e z q = z (e ∙ q)
