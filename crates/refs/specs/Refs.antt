-- What is read of a ref: the place of its record, its kind, its id and its side, and the type parameter that it is.
use Rattle.std.specs.Prelude.{ℕ, ◌+◌, ◌-◌, ◌*◌, ◌/◌, ◌%◌, ◌≤◌, ◌<◌, ◌≡◌, refl, Bool, true, false, ◌≢◌, not, eqb, ltb, length}
use Rattle.std.specs.Int.{from_bool}
use Rattle.std.proofs.Math.Bool.{beq}
use Rattle.std.proofs.Common.{sym, ◌∙◌, ap, ap₂, subst, ⊎_elim, arith, eq-eqb, ne_eqb, lt-ltb, le-ltb}
use Rattle.rules.specs.Lists.{Words}
use Rattle.rules.specs.Layout.{kind_error}
use Rattle.rules.specs.Sheet.{at, kind_flag, row_own_inverse}
use Rattle.rules.specs.Types.{xor}
use Rattle.rules.specs.WordLaws.{word_past}
use Rattle.rules.specs.Pigeonholes.{lt_or}
use Rattle.rules.specs.SignedTerms.{SignedSol, made, turned, label}
use Rattle.table.specs.Packing.{types_of, kind_at, id_at, inverted_at}
use Rattle.table.specs.ChildTypes.{odd-sum}
use Rattle.refs.specs.Meaning.{odd, means, means-turn, turn, Sort, type_sort, Records, Meaning, row, record_side, record_types}

-- The place of the record of a ref; 0 where it has none.
unfoldable pub place : Words → ℕ → ℕ
place ps r = elim (ltb r 1024) [ true ↦ 0 | false ↦ at ps (r - 1024) ]

pub place_none : (ps : Words) (r : ℕ) → r < 1024 → 0 ≡ place ps r
unfolding place
place_none ps r h = sym (rw (lt-ltb r 1024 h, place))

pub place_at : (ps : Words) (r : ℕ) → 1024 ≤ r → place ps r ≡ at ps (r - 1024)
unfolding place
place_at ps r h = rw (le-ltb r 1024 h, place)

pub place_word : (ps : Words) (r w p : ℕ) → 1024 ≤ r → w ≡ r - 1024 → p ≡ at ps w → p ≡ place ps r
place_word ps r w p h e q = q ∙ ap (at ps) e ∙ sym (place_at ps r h)

-- A place that is not 0 is that of a record.
pub place_high : (ps : Words) (r : ℕ) → place ps r ≢ 0 → 1024 ≤ r
place_high ps r z = ⊎_elim (λ h. absurd (z (sym (place_none ps r h)))) (λ h. h) (lt_or r 1024)

place_in : (ps : Words) (r : ℕ) → place ps r ≢ 0 → r - 1024 < length ps
place_in ps r z = ⊎_elim (λ h. h) (λ h. absurd (z (place_at ps r (place_high ps r z) ∙ sym (word_past ps (r - 1024) h)))) (lt_or (r - 1024) (length ps))

-- The kind of a ref; 0 where it has none, and for a Param of the signature.
pub record KindOf (s ps ws : Words) (r k : ℕ) : Type 0 where
  pub node : r < 256 → k ≡ kind_at (types_of ws) r
  pub inside : 256 ≤ r → k ≢ 0 → place ps r ≢ 0
  pub is : 256 ≤ r → k ≢ 0 → at s (place ps r + 1) ≡ k
  pub plain : 256 ≤ r → k ≢ 1

pub kind-node : (s ps ws : Words) (r k : ℕ) → r < 256 → k ≡ kind_at (types_of ws) r → KindOf s ps ws r k
kind-node s ps ws r k h e = record { node = λ l. e; inside = λ l. absurd (omega arith); is = λ l. absurd (omega arith); plain = λ l. absurd (omega arith) }

pub kind-none : (s ps ws : Words) (r : ℕ) → 256 ≤ r → KindOf s ps ws r 0
kind-none s ps ws r h = record { node = λ l. absurd (omega arith); inside = λ l z. absurd (z refl); is = λ l z. absurd (z refl); plain = λ l. omega arith }

pub kind_record : (s ps ws : Words) (r p k : ℕ) → p ≡ place ps r → p ≢ 0 → k ≡ at s (p + 1) → k ≢ 1 → KindOf s ps ws r k
kind_record s ps ws r p k e z q n = record {
  node = λ l. absurd (omega (arith, place_high ps r (λ y. z (e ∙ y))));
  inside = λ l y o. z (e ∙ o);
  is = λ l y. sym (q ∙ ap (λ j. at s (j + 1)) e);
  plain = λ l. n;
}

-- The id of a ref that has a kind.
pub record IdOf (s ps ws : Words) (r d : ℕ) : Type 0 where
  pub node : r < 256 → d ≡ id_at (types_of ws) r
  pub is : 256 ≤ r → d ≡ at s (place ps r + 3)

pub id_node : (s ps ws : Words) (r d : ℕ) → r < 256 → d ≡ id_at (types_of ws) r → IdOf s ps ws r d
id_node s ps ws r d h e = record { node = λ l. e; is = λ l. absurd (omega arith) }

pub id_record : (s ps ws : Words) (r p d : ℕ) → 256 ≤ r → p ≡ place ps r → d ≡ at s (p + 3) → IdOf s ps ws r d
id_record s ps ws r p d h e q = record { node = λ l. absurd (omega arith); is = λ l. q ∙ ap (λ j. at s (j + 3)) e }

-- A ref has one id.
pub id_one : (s ps ws : Words) (r c d : ℕ) → IdOf s ps ws r c → IdOf s ps ws r d → c ≡ d
id_one s ps ws r c d p q = ⊎_elim (λ h. p.node h ∙ sym (q.node h)) (λ h. p.is h ∙ sym (q.is h)) (lt_or r 256)

-- Its kind alone.
pub id_any : (s ps ws : Words) (r : ℕ) → (d : ℕ) × IdOf s ps ws r d
id_any s ps ws r = ⊎_elim
    (λ h. (id_at (types_of ws) r, record { node = λ l. refl; is = λ l. absurd (omega arith) }))
    (λ h. (at s (place ps r + 3), record { node = λ l. absurd (omega arith); is = λ l. refl }))
    (lt_or r 256)

-- The side of what a ref is.
unfoldable pub side_of : Words → Words → Words → ℕ → Bool
side_of s ps ws r = elim (ltb r 256) [ true ↦ inverted_at (types_of ws) r | false ↦ record_side s (place ps r) ]

pub side-node : (s ps ws : Words) (r : ℕ) → r < 256 → side_of s ps ws r ≡ inverted_at (types_of ws) r
unfolding side_of
side-node s ps ws r h = rw (lt-ltb r 256 h, side_of)

pub side_record : (s ps ws : Words) (r : ℕ) → 256 ≤ r → side_of s ps ws r ≡ record_side s (place ps r)
unfolding side_of
side_record s ps ws r h = rw (le-ltb r 256 h, side_of)

-- 1 for true and 0 for false.
pub record Bit (b : Bool) (r : ℕ) : Type 0 where
  pub small : r < 2
  pub is : odd r ≡ b

pub bit_yes : (b : Bool) → b ≡ true → Bit b 1
unfolding odd
bit_yes b e = record { small = omega arith; is = sym e }

pub bit_no : (b : Bool) → b ≡ false → Bit b 0
unfolding odd
bit_no b e = record { small = omega arith; is = sym e }

pub record_inverted : (s : Words) (p w : ℕ) → w ≡ at s (p + 2) → w ≡ 1 → Bit (record_side s p) 1
record_inverted s p w e q = bit_yes (record_side s p) (eq-eqb (at s (p + 2)) 1 (sym e ∙ q))

pub record_upright : (s : Words) (p w : ℕ) → w ≡ at s (p + 2) → w ≢ 1 → Bit (record_side s p) 0
record_upright s p w e q = bit_no (record_side s p) (ne_eqb (at s (p + 2)) 1 (λ z. q (e ∙ z)))

pub node_inverted_lem : (s ps ws : Words) (r : ℕ) (b : Bool) → r < 256 → b ≡ inverted_at (types_of ws) r → b ≡ true → Bit (side_of s ps ws r) 1
node_inverted_lem s ps ws r b h e q = bit_yes (side_of s ps ws r) (side-node s ps ws r h ∙ sym e ∙ q)

pub node-upright : (s ps ws : Words) (r : ℕ) (b : Bool) → r < 256 → b ≡ inverted_at (types_of ws) r → b ≡ false → Bit (side_of s ps ws r) 0
node-upright s ps ws r b h e q = bit_no (side_of s ps ws r) (side-node s ps ws r h ∙ sym e ∙ q)

pub side-place : (s ps ws : Words) (r p b : ℕ) → 256 ≤ r → p ≡ place ps r → Bit (record_side s p) b → Bit (side_of s ps ws r) b
side-place s ps ws r p b h e o = record { small = o.small; is = o.is ∙ ap (record_side s) e ∙ sym (side_record s ps ws r h) }

-- The side of what a type is.
abbrev pub type_side : Words → Words → Words → ℕ → Bool
type_side s ps ws t = xor (odd t) (side_of s ps ws (t / 2))

-- The difference of the sides of two types.
abbrev pub apart : Words → Words → Words → ℕ → ℕ → Bool
apart s ps ws x y = xor (type_side s ps ws x) (type_side s ps ws y)

-- The sides as they are read: of a node, of a record, and of a type, which may turn them.
pub node_side : (s ps ws : Words) (r : ℕ) (b : Bool) → b ≡ inverted_at (types_of ws) r → r < 256 → b ≡ side_of s ps ws r
node_side s ps ws r b e h = e ∙ sym (side-node s ps ws r h)

pub place_side : (s ps ws : Words) (r p : ℕ) (b : Bool) → b ≡ record_side s p → p ≡ place ps r → 256 ≤ r → b ≡ side_of s ps ws r
place_side s ps ws r p b e q h = e ∙ ap (record_side s) q ∙ sym (side_record s ps ws r h)

pub beq_xor : (a b : Bool) → not (beq a b) ≡ xor a b
beq_xor true true = refl
beq_xor true false = refl
beq_xor false true = refl
beq_xor false false = refl

pub turned_side : (s ps ws : Words) (t : ℕ) (b : Bool) → b ≡ side_of s ps ws (t / 2) → not (beq (eqb (t % 2) 1) b) ≡ type_side s ps ws t
unfolding odd
turned_side s ps ws t b e = beq_xor (eqb (t % 2) 1) b ∙ ap (xor (eqb (t % 2) 1)) e

pub sides_apart : (s ps ws : Words) (x y : ℕ) (a b : Bool) → a ≡ type_side s ps ws x → b ≡ type_side s ps ws y → not (beq a b) ≡ apart s ps ws x y
sides_apart s ps ws x y a b ea eb = beq_xor a b ∙ ap₂ xor ea eb

-- The same as a number.
pub side_bit : (b i : Bool) (r : ℕ) → b ≡ i → r ≡ from_bool b → Bit i r
side_bit true i r e q = subst (Bit i) (sym q) (bit_yes i (sym e))
side_bit false i r e q = subst (Bit i) (sym q) (bit_no i (sym e))

odd-rest : (t : ℕ) → odd (t % 2) ≡ odd t
unfolding odd
odd-rest t = ap (λ k. eqb k 1) (let z : t % 2 % 2 ≡ t % 2 = omega arith in z)

pub bit-sum : (a b : Bool) (x y : ℕ) → Bit a x → Bit b y → Bit (xor a b) ((x + y) % 2)
unfolding odd
bit-sum a b x y p q = record { small = omega arith; is = ap (λ k. eqb k 1) (let z : (x + y) % 2 % 2 ≡ (x + y) % 2 = omega arith in z) ∙ sym (odd-sum x y) ∙ ap₂ xor p.is q.is }

pub bit-odd : (t : ℕ) → Bit (odd t) (t % 2)
bit-odd t = record { small = omega arith; is = odd-rest t }

pub bit_type : (s ps ws : Words) (t b : ℕ) → Bit (side_of s ps ws (t / 2)) b → Bit (type_side s ps ws t) ((t % 2 + b) % 2)
bit_type s ps ws t b o = bit-sum (odd t) (side_of s ps ws (t / 2)) (t % 2) b (bit-odd t) o

pub bits_apart : (a b : Bool) (r : ℕ) → Bit (xor a b) r → r ≡ 1 → a ≡ b → ⊥
unfolding odd
bits_apart a b r o e q = never (sym (xor_same b) ∙ ap (λ x. xor x b) (sym q) ∙ sym o.is ∙ ap odd e)
  where
    xor_same : (i : Bool) → xor i i ≡ false
    xor_same true = refl
    xor_same false = refl

    never : false ≡ true → ⊥
    never z = let y : ◌≡◌ {A = ℕ} 0 1 = cc in omega arith

-- true: a kind and id that is not its own inverse.
pub record Sided (s : Words) (k d : ℕ) (r : Bool) : Type 0 where
  pub is : r ≡ true → kind_flag s row_own_inverse k d ≡ false

pub sided_not : (s : Words) (k d : ℕ) → Sided s k d false
sided_not s k d = record { is = λ e. let z : ◌≡◌ {A = ℕ} 0 1 = cc in absurd (omega arith) }

pub sided_flag : (s : Words) (k d i j : ℕ) (b : Bool) → i ≡ k → j ≡ d → b ≡ kind_flag s 2 i j → b ≡ false → Sided s k d true
sided_flag s k d i j b ei ej e q = record { is = λ z. sym (sym q ∙ e ∙ ap₂ (kind_flag s 2) ei ej) }

-- What has a kind is of that kind, and of its id, or its name, and its side.
pub ref_low : (m : SignedSol) (r : ℕ) → r < 2048 → m (r % 2048) ≡ m r
ref_low m r h = ap m (let z : r % 2048 ≡ r = omega arith in z)

module _ (s ps : Words) (m : SignedSol) (w : Records s ps m) (r : ℕ) (z : place ps r ≢ 0) where
  high : 1024 ≤ r
  high = place_high ps r z

  is_at : place ps r ≡ at ps (r - 1024)
  is_at = place_at ps r high

  inside : r - 1024 < length ps
  inside = place_in ps r z

  ref_record : m (r % 2048) ≡ m (1024 + (r - 1024))
  ref_record = ap m (let e : r % 2048 ≡ 1024 + (r - 1024) = omega (arith, high, inside, w.few) in e)

  ref_back : 1024 + (r - 1024) ≡ r
  ref_back = omega (arith, high)

  pub record_plain : at s (place ps r + 1) ≢ 0 → at s (place ps r + 1) ≢ 1 → m (r % 2048) ≡ made s (record_side s (place ps r)) (at s (place ps r + 1)) (label w.name (at s (place ps r + 1)) (at s (place ps r + 3)) r) (row s m (record_types s (at s (place ps r + 4))))
  record_plain y n =
      ref_record
      ∙ w.plain (r - 1024) inside (λ q. y (ap (λ p. at s (p + 1)) is_at ∙ q)) (λ q. n (ap (λ p. at s (p + 1)) is_at ∙ q))
      ∙ ap₂ (λ (p q : ℕ). made s (record_side s p) (at s (p + 1)) (label w.name (at s (p + 1)) (at s (p + 3)) q) (row s m (record_types s (at s (p + 4))))) (sym is_at) ref_back

  record_param : at s (place ps r + 1) ≡ 1 → at s (place ps r + 3) < 8 → m (r % 2048) ≡ turned s (record_side s (place ps r)) (m (256 + at s (place ps r + 3)))
  record_param y n =
      ref_record
      ∙ w.param (r - 1024) inside (sym (ap (λ p. at s (p + 1)) is_at) ∙ y) (subst (λ p. at s (p + 3) < 8) is_at n)
      ∙ ap (λ p. turned s (record_side s p) (m (256 + at s (p + 3)))) (sym is_at)

sort_of : (s ps ws : Words) (m : SignedSol) (r k d : ℕ) (w : Meaning s ps ws m) → KindOf s ps ws r k → IdOf s ps ws r d → k ≢ 0 → Sort s (m (r % 2048)) (side_of s ps ws r) k (label w.records.name k d r)
sort_of s ps ws m r k d w e q z = ⊎_elim low high (lt_or r 256)
  where
    low : r < 256 → Sort s (m (r % 2048)) (side_of s ps ws r) k (label w.records.name k d r)
    low h =
        let o = w.nodes.known r h (λ y. z (e.node h ∙ y)) in
        record { over = o.over; is = ref_low m r (omega arith) ∙ o.is ∙ (λ t. made s (sym (side-node s ps ws r h) t) (sym (e.node h) t) (label w.records.name (sym (e.node h) t) (sym (q.node h) t) r) o.over) }

    high : 256 ≤ r → Sort s (m (r % 2048)) (side_of s ps ws r) k (label w.records.name k d r)
    high h = record {
      over = row s m (record_types s (at s (place ps r + 4)));
      is =
          record_plain s ps m w.records r (e.inside h z) (λ y. z (sym (e.is h z) ∙ y)) (λ y. e.plain h (sym (e.is h z) ∙ y))
          ∙ (λ t. made s (sym (side_record s ps ws r h) t) (e.is h z t) (label w.records.name (e.is h z t) (sym (q.is h) t) r) (row s m (record_types s (at s (place ps r + 4)))));
    }

pub sort_type : (s ps ws : Words) (m : SignedSol) (t k d : ℕ) (w : Meaning s ps ws m) → KindOf s ps ws (t / 2) k → IdOf s ps ws (t / 2) d → k ≢ 0 → Sort s (means s m t) (type_side s ps ws t) k (label w.records.name k d (t / 2))
sort_type s ps ws m t k d w e q z = let o = sort_of s ps ws m (t / 2) k d w e q z in record { over = o.over; is = type_sort s m t (side_of s ps ws (t / 2)) k (label w.records.name k d (t / 2)) o.over o.is }

-- Refs that are Error and have one name are one.
module _ (s ps ws : Words) (m : SignedSol) (w : Meaning s ps ws m) where
  error_node : (r : ℕ) → KindOf s ps ws r kind_error → r < 256 → kind_at (types_of ws) r ≡ kind_error
  error_node r e h = sym (e.node h)

  module _ (r : ℕ) (e : KindOf s ps ws r kind_error) (h : 256 ≤ r) where
    error_place : place ps r ≢ 0
    error_place = e.inside h (omega arith)

    error_back : 1024 + (r - 1024) ≡ r
    error_back = omega (arith, place_high ps r error_place)

    error_in : r - 1024 < length ps
    error_in = place_in ps r error_place

    error_record : at s (at ps (r - 1024) + 1) ≡ kind_error
    error_record = ap (λ p. at s (p + 1)) (sym (place_at ps r (place_high ps r error_place))) ∙ e.is h (omega arith)

  error_both : (a b : ℕ) → KindOf s ps ws a kind_error → KindOf s ps ws b kind_error → 256 ≤ a → b < 256 → w.records.name a ≢ w.records.name b
  error_both a b p q h l e = w.errors.both (a - 1024) b (error_in a p h) l (error_record a p h) (error_node b q l) (ap w.records.name (error_back a p h) ∙ e)

  pub error_one : (a b : ℕ) → KindOf s ps ws a kind_error → KindOf s ps ws b kind_error → w.records.name a ≡ w.records.name b → a ≡ b
  error_one a b p q e = ⊎_elim
      (λ h. ⊎_elim (λ l. w.errors.nodes a b h l (error_node a p h) (error_node b q l) e) (λ l. absurd (error_both b a q p l h (sym e))) (lt_or b 256))
      (λ h. ⊎_elim (λ l. absurd (error_both a b p q h l e)) (λ l. high h l) (lt_or b 256))
      (lt_or a 256)
    where
      high : 256 ≤ a → 256 ≤ b → a ≡ b
      high h l =
          let x = error_back a p h in
          let y = error_back b q l in
          sym x ∙ ap (λ k. 1024 + k) (w.errors.records (a - 1024) (b - 1024) (error_in a p h) (error_in b q l) (error_record a p h) (error_record b q l) (ap w.records.name x ∙ e ∙ sym (ap w.records.name y))) ∙ y

-- Two types of which a Param of the signature is one, and its type parameter the other; or the same.
pub record Alike (s ps : Words) (x r : ℕ) : Type 0 where
  pub at : (m : SignedSol) → Records s ps m → means s m x ≡ means s m r

odd_low : (n b : ℕ) → odd b ≡ odd (2 * n + b)
unfolding odd
odd_low n b = ap (λ k. eqb k 1) (let z : b % 2 ≡ (2 * n + b) % 2 = omega arith in z)

pub alike_param : (s ps : Words) (x p k d b r : ℕ) → p ≡ place ps (x / 2) → p ≢ 0 → k ≡ at s (p + 1) → k ≡ 1 → d ≡ at s (p + 3) → d < 8 → Bit (record_side s p) b → r ≡ turn x (2 * (256 + d) + b) → Alike s ps x r
unfolding means
alike_param s ps x p k d b r e z ek q ed l o er = record { at = λ m w. one m w }
  where
    id : at s (place ps (x / 2) + 3) ≡ d
    id = sym (ed ∙ ap (λ j. at s (j + 3)) e)

    param : (m : SignedSol) → turned s (record_side s p) (m (256 + d)) ≡ means s m (2 * (256 + d) + b)
    param m =
        let c : (2 * (256 + d) + b) / 2 ≡ 256 + d = omega (arith, o.small) in
        let a : 256 + d ≡ (2 * (256 + d) + b) / 2 % 2048 = omega (arith, c) in
        (λ t. turned s (sym o.is t) (m (a t))) ∙ ap (λ i. turned s i (m ((2 * (256 + d) + b) / 2 % 2048))) (odd_low (256 + d) b)

    one : (m : SignedSol) → Records s ps m → means s m x ≡ means s m r
    one m w =
        ap (turned s (odd x))
        (record_param s ps m w (x / 2) (λ y. z (e ∙ y)) (sym (ek ∙ ap (λ j. at s (j + 1)) e) ∙ q) (omega (arith, id))
        ∙ (λ t. turned s (record_side s (sym e t)) (m (256 + id t)))
        ∙ param m)
        ∙ sym (means-turn s m x (2 * (256 + d) + b))
        ∙ ap (means s m) (sym er)

pub alike_read : (s ps : Words) (x p k d r : ℕ) (i : Bool) → r ≡ turn x (2 * (256 + d) + from_bool i) → p ≡ place ps (x / 2) → p ≢ 0 → k ≡ at s (p + 1) → k ≡ 1 → d ≡ at s (p + 3) → d < 8 → i ≡ record_side s p → Alike s ps x r
alike_read s ps x p k d r i er e z ek q ed l ei = alike_param s ps x p k d (from_bool i) r e z ek q ed l (side_bit i (record_side s p) (from_bool i) ei refl) er
