-- The types of roots that a known node's children are, read from its words.
use Rattle.std.specs.Prelude.{ℕ, zero, suc, ◌+◌, ◌*◌, ◌/◌, ◌%◌, ◌≤◌, ◌<◌, ◌≡◌, Bool, true, false, List, [], ◌∷◌, map, ◌≢◌, eqb}
use Rattle.std.proofs.Math.Path.{refl, sym, ap, subst}
use Rattle.std.proofs.Common.{◌∙◌, eq-eqb, ne_eqb, eqb-true}
use native.Mathlib.Omega.{arith}
use Rattle.std.proofs.Math.ListN.{length, take}
use Rattle.std.proofs.lemmas.Bool.{eqb-false}
use Rattle.rules.specs.Lists.{Words, bit}
use Rattle.rules.specs.Sheet.{at}
use Rattle.rules.specs.Types.{Ty, TypeNode, xor, invert_if, find}
use Rattle.rules.specs.Acyclic.{children}
use Rattle.rules.specs.AcyclicLaws.{children_at}
use Rattle.rules.specs.Transfer.{type_of_word}
use Rattle.rules.specs.Answer.{word_of_type}
use Rattle.rules.specs.Solutions.{rep}
use Rattle.table.specs.declared.Row.{Row}
use Rattle.table.specs.Packing.{types_of, node_of, node_from, eight, kind_at, head_up, head_arity, Packed}
use Rattle.table.specs.Nodes.{node_in, types_few}
use Rattle.table.specs.Reads.{inside, known_here, digit}

-- The type of a root that a type is, by the words of its node, in the table or past it.
unfoldable pub type_in : Words → Ty → Ty
type_in ws t = invert_if t.0 (node_of ws t.1).up

pub type_there : (ws : Words) (t : Ty) → t.1 < length (types_of ws) → type_in ws t ≡ find (types_of ws) t
unfolding type_in find
type_there ws t h = sym (ap (λ (nd : TypeNode). invert_if t.0 nd.up) (node_in ws t.1 h))

-- Of two inversions one on the other.
pub odd-sum : (a b : ℕ) → xor (eqb (a % 2) 1) (eqb (b % 2) 1) ≡ eqb ((a + b) % 2) 1
odd-sum a b = go (eqb (a % 2) 1) (eqb (b % 2) 1) refl refl
  where
    go : (x y : Bool) → eqb (a % 2) 1 ≡ x → eqb (b % 2) 1 ≡ y → xor x y ≡ eqb ((a + b) % 2) 1
    go true true p q = sym (ne_eqb ((a + b) % 2) 1 (λ z. omega (arith, eqb-true (a % 2) 1 p, eqb-true (b % 2) 1 q)))
    go true false p q = sym (eq-eqb ((a + b) % 2) 1 (let n : b % 2 ≢ 1 = eqb-false (b % 2) 1 q in omega (arith, eqb-true (a % 2) 1 p)))
    go false true p q = sym (eq-eqb ((a + b) % 2) 1 (let n : a % 2 ≢ 1 = eqb-false (a % 2) 1 p in omega (arith, eqb-true (b % 2) 1 q)))
    go false false p q = sym (ne_eqb ((a + b) % 2) 1 (λ z. let n : a % 2 ≢ 1 = eqb-false (a % 2) 1 p in let m : b % 2 ≢ 1 = eqb-false (b % 2) 1 q in omega arith))

odd-bit : (n : ℕ) → bit (eqb (n % 2) 1) ≡ n % 2
odd-bit n = go (eqb (n % 2) 1) refl
  where
    go : (x : Bool) → eqb (n % 2) 1 ≡ x → bit (eqb (n % 2) 1) ≡ n % 2
    go true p = rw p (sym (eqb-true (n % 2) 1 p))
    go false p = let z : n % 2 ≢ 1 = eqb-false (n % 2) 1 p in rw p (omega arith)

turned_word : (u t : ℕ) → u / 2 * 2 + (u + t) % 2 ≡ word_of_type (invert_if (eqb (t % 2) 1) (type_of_word u))
unfolding word_of_type invert_if type_of_word
turned_word u t = let z : u / 2 * 2 + (u + t) % 2 ≡ 2 * (u / 2) + (t + u) % 2 = omega arith in z ∙ ap (λ (k : ℕ). 2 * (u / 2) + k) (sym (odd-bit (t + u)) ∙ ap bit (sym (odd-sum t u)))

-- h is the head of the node of a type.
pub type_read_word : (ws : Words) (t m h : ℕ) → m ≡ t / 2 → h ≡ at ws (4 * m + 1) → h / 512 % 512 / 2 * 2 + (h / 512 % 512 + t) % 2 ≡ word_of_type (type_in ws (type_of_word t))
unfolding type_in node_of node_from type_of_word
type_read_word ws t m h e q = turned_word (h / 512 % 512) t ∙ ap (λ (k : ℕ). word_of_type (invert_if (eqb (t % 2) 1) (type_of_word (head_up k)))) (q ∙ ap (λ (k : ℕ). at ws (4 * k + 1)) e)

-- The word of the type of a root that the type of a word is.
abbrev pub word_in : Words → ℕ → ℕ
word_in ws w = word_of_type (type_in ws (type_of_word w))

-- The first n of the types of roots that the types in three words of children are.
abbrev pub types_row : Words → ℕ → ℕ → ℕ → ℕ → Row
types_row ws n x y z = record {
  n = n;
  types =
      word_in ws (x % 512) ∷ word_in ws (x / 512 % 512) ∷ word_in ws (x / 262144 % 512) ∷
      word_in ws (y % 512) ∷ word_in ws (y / 512 % 512) ∷ word_in ws (y / 262144 % 512) ∷
      word_in ws (z % 512) ∷ word_in ws (z / 512 % 512) ∷ [];
}

pub types_row_of : (ws : Words) (n x y z a b c d e f g h : ℕ) → a ≡ word_in ws (x % 512) → b ≡ word_in ws (x / 512 % 512) → c ≡ word_in ws (x / 262144 % 512) → d ≡ word_in ws (y % 512) → e ≡ word_in ws (y / 512 % 512) → f ≡ word_in ws (y / 262144 % 512) → g ≡ word_in ws (z % 512) → h ≡ word_in ws (z / 512 % 512) →
    ◌≡◌ {A = Row} (record { n = n; types = a ∷ b ∷ c ∷ d ∷ e ∷ f ∷ g ∷ h ∷ [] }) (types_row ws n x y z)
types_row_of ws n x y z a b c d e f g h ea eb ec ed ee ef eg eh = λ t. record { n = n; types = ea t ∷ eb t ∷ ec t ∷ ed t ∷ ee t ∷ ef t ∷ eg t ∷ eh t ∷ [] }

-- The types of roots that the types in the words of children of node n are; the first m of them.
unfoldable pub types_at : Words → ℕ → Words
types_at ws n = (types_row ws 8 (at ws (4 * n + 2)) (at ws (4 * n + 3)) (at ws (4 * n + 4))).types

abbrev pub row_at : Words → ℕ → ℕ → Row
row_at ws n m = record { n = m; types = types_at ws n }

pub types_at-length : (ws : Words) (n : ℕ) → length (types_at ws n) ≡ 8
unfolding types_at
types_at-length ws n = refl

pub digit_small : (j w d : ℕ) → d ≡ digit j w → d < 512
digit_small zero w d e = omega arith
digit_small (suc zero) w d e = omega arith
digit_small (suc (suc j)) w d e = omega arith

pub types_at_here : (ws : Words) (n j : ℕ) → j < 8 → word_in ws (digit (j % 3) (at ws (4 * n + (2 + j / 3)))) ≡ at (types_at ws n) j
unfolding types_at
types_at_here ws n zero h = refl
types_at_here ws n (suc zero) h = refl
types_at_here ws n (suc (suc zero)) h = refl
types_at_here ws n (suc (suc (suc zero))) h = refl
types_at_here ws n (suc (suc (suc (suc zero)))) h = refl
types_at_here ws n (suc (suc (suc (suc (suc zero))))) h = refl
types_at_here ws n (suc (suc (suc (suc (suc (suc zero)))))) h = refl
types_at_here ws n (suc (suc (suc (suc (suc (suc (suc zero))))))) h = refl
types_at_here ws n (suc (suc (suc (suc (suc (suc (suc (suc k)))))))) h = absurd (omega arith)

-- w is the word of child j of node n, and d its digit there.
pub child_type_at : (ws : Words) (n m j w d r : ℕ) → j < 8 → m ≡ n → w ≡ at ws (4 * m + (2 + j / 3)) → d ≡ digit (j % 3) w → r ≡ word_in ws d → r ≡ at (types_at ws n) j
child_type_at ws n m j w d r h em ew ed er = er ∙ ap (word_in ws) (ed ∙ ap (digit (j % 3)) (ew ∙ ap (λ k. at ws (4 * k + (2 + j / 3))) em)) ∙ types_at_here ws n j h

-- Node n, its own root, has r children, by its head h.
pub record OwnArity (h n r : ℕ) : Type 0 where
  pub own : h / 1024 % 256 ≡ n
  pub is : r ≡ h / 32 % 16
  pub few : r ≤ 8

-- The types of roots that the children of node n, its own root, are.
pub record ChildTypes (ws : Words) (n : ℕ) (r : Row) : Type 0 where
  pub root : rep (types_of ws) n ≡ n
  pub few : r.n ≤ 8
  pub long : r.n ≤ length r.types
  pub are : take r.n r.types ≡ map (λ (c : Ty). word_of_type (type_in ws c)) (children_at (types_of ws) n)

take-map : {A : Type 0} {B : Type 0} (f : A → B) (k : ℕ) (xs : List A) → take k (map f xs) ≡ map f (take k xs)
take-map f zero xs = refl
take-map f (suc k) [] = refl
take-map f (suc k) (x ∷ xs) = ap (λ l. f x ∷ l) (take-map f k xs)

-- The words of node n: its head, and those of its children; w is the place before them.
module _ (ws : Words) (n m w h v a b c : ℕ) (known : kind_at (types_of ws) n ≢ 0) (e : m ≡ n) (ew : w ≡ 4 * m) (eh : h ≡ at ws (w + 1)) where
  place : 4 * n ≡ w
  place = omega arith

  own_root : rep (types_of ws) n ≡ h / 1024 % 256
  unfolding rep node_of node_from type_of_word
  own_root = ap (λ (nd : TypeNode). nd.up.1) (node_in ws n (inside ws n (kind_at (types_of ws) n) refl known)) ∙ ap (λ (k : ℕ). head_up k / 2) (ap (λ k. at ws (k + 1)) place ∙ sym eh) ∙ (let z : h / 512 % 512 / 2 ≡ h / 1024 % 256 = omega arith in z)

  pub types_own : OwnArity h n v → a ≡ at ws (w + 2) → b ≡ at ws (w + 3) → c ≡ at ws (w + 4) → (r : Row) → r ≡ types_row ws v a b c → ChildTypes ws n r
  unfolding children_at children type_of_word eight
  types_own o ea eb ec r er = record {
    root = own_root ∙ o.own;
    few = subst (λ k. k ≤ 8) (sym count) o.few;
    long = omega (arith, count, o.few, ap (λ (x : Row). length x.types) er);
    are = ap (λ (x : Row). take x.n x.types) er ∙ take-map (λ (t : Ty). word_of_type (type_in ws t)) v (eight a b c) ∙ ap (map (λ (t : Ty). word_of_type (type_in ws t))) (sym whole);
  }
    where
      count : r.n ≡ v
      count = ap (λ (x : Row). x.n) er

      arity : head_arity (at ws (4 * n + 1)) ≡ v
      arity = ap (λ k. head_arity (at ws (k + 1))) place ∙ sym (o.is ∙ ap head_arity eh)

      word : (k x : ℕ) → x ≡ at ws (w + k) → at ws (4 * n + k) ≡ x
      word k x q = ap (λ j. at ws (j + k)) place ∙ sym q

      whole : children_at (types_of ws) n ≡ take v (eight a b c)
      whole = ap children (known_here ws n (kind_at (types_of ws) n) refl known) ∙ (λ t. take (arity t) (eight (word 2 a ea t) (word 3 b eb t) (word 4 c ec t)))

-- A known node is there.
pub known_in : (ws : Words) (n : ℕ) → kind_at (types_of ws) n ≢ 0 → n < length (types_of ws)
known_in ws n known = inside ws n (kind_at (types_of ws) n) refl known

pub known_place : (ws : Words) (n m w k : ℕ) → Packed ws → kind_at (types_of ws) n ≢ 0 → m ≡ n → w ≡ 4 * m → k ≤ 4 → w + k < length ws
known_place ws n m w k p known e ew h = omega (arith, p.long, known_in ws n known, types_few ws)

-- Its four words are there.
pub known_words : (ws : Words) (n : ℕ) → Packed ws → kind_at (types_of ws) n ≢ 0 → 4 * n + 4 < length ws
known_words ws n p known = known_place ws n n (4 * n) 4 p known refl refl (omega arith)

-- h is the head of known node n.
pub own_row : (ws : Words) (n m h v : ℕ) → kind_at (types_of ws) n ≢ 0 → m ≡ n → h ≡ at ws (4 * m + 1) → OwnArity h n v → ChildTypes ws n (row_at ws n v)
unfolding types_at
own_row ws n m h v known e eh o = types_own ws n n (4 * n) h v (at ws (4 * n + 2)) (at ws (4 * n + 3)) (at ws (4 * n + 4)) known refl refl (eh ∙ ap (λ k. at ws (4 * k + 1)) e) o refl refl refl (row_at ws n v) refl
