-- Children of two nodes that are of one root and side.
use Rattle.std.specs.Prelude.{ℕ, ◌+◌, ◌/◌, ◌%◌, ◌*◌, ◌≤◌, ◌<◌, ◌≡◌, refl, Bool, true, false, not, eqb, length, get_or}
use Rattle.std.proofs.Common.{sym, ◌∙◌, ap, ap₂, subst, true≢false, arith, eqb-true}
use Rattle.std.proofs.Math.Decide.{ℕ_discrete}
use Rattle.rules.specs.Lists.{Words}
use Rattle.rules.specs.Sheet.{at}
use Rattle.rules.specs.Types.{Ty, Types, xor, invert_if, find, node_at}
use Rattle.rules.specs.AcyclicLaws.{children_at}
use Rattle.rules.specs.Transfer.{type_of_word}
use Rattle.rules.specs.Answer.{word_of_type}
use Rattle.rules.specs.Solutions.{AllIn}
use Rattle.rules.specs.RootRank.{child_in}
use Rattle.table.specs.Packing.{types_of, node_of, node_from, head_up, kind_at}
use Rattle.table.specs.Nodes.{type_word, types_few}
use Rattle.table.specs.Reads.{digit, child_here, children-none, children-most}
use Rattle.table.specs.ChildTypes.{type_in, type_there, word_in, types_at, types_at_here, known_in}
use Rattle.table.specs.Joins.{invert_small}

-- Two nodes of m children each, which are nodes of the table.
pub record Matched (ts : Types) (x y m : ℕ) : Type 0 where
  pub left_in : AllIn (length ts) (children_at ts x)
  pub right_in : AllIn (length ts) (children_at ts y)
  pub left-count : m ≡ length (children_at ts x)
  pub right_count : m ≡ length (children_at ts y)

-- From child i on, of m, up to child r the children of nodes x and y are of one root and side, those of y inverted if b.
pub record Alike (ts : Types) (x y : ℕ) (b : Bool) (i m r : ℕ) : Type 0 where
  pub low : i ≤ r
  pub most : i ≤ m → r ≤ m
  pub same : (j : ℕ) → i ≤ j → j < r → find ts (get_or (children_at ts x) j (false, 0)) ≡ find ts (invert_if b (get_or (children_at ts y) j (false, 0)))

-- A type that is read fits a word.
word_in_small : (ws : Words) (w : ℕ) → word_in ws w < 512
unfolding type_in node_of node_from type_of_word
word_in_small ws w = invert_small (head_up (at ws (4 * (w / 2) + 1))) (word_in ws w) (eqb (w % 2) 1) (omega arith) refl

pub types_at_fits : (ws : Words) (n j r : ℕ) → j < 8 → r ≡ at (types_at ws n) j → r < 4294967294
types_at_fits ws n j r h e = omega (arith, types_at_here ws n j h, word_in_small ws (digit (j % 3) (at ws (4 * n + (2 + j / 3)))))

-- A node with children is there, and has eight at most.
pub parent_low : (ws : Words) (n j m : ℕ) → m ≡ length (children_at (types_of ws) n) → j < m → n < 256
parent_low ws n j m e h = omega (arith, types_few ws, known_in ws n (λ z. omega (arith, children-none ws n (kind_at (types_of ws) n) refl z)))

pub child_low : (ws : Words) (n j m : ℕ) → m ≡ length (children_at (types_of ws) n) → j < m → j < 8
child_low ws n j m e h = omega (arith, children-most ws n)

-- What is read of child j.
child_root : (ws : Words) (n j : ℕ) → AllIn (length (types_of ws)) (children_at (types_of ws) n) → j < length (children_at (types_of ws) n) → at (types_at ws n) j ≡ word_of_type (find (types_of ws) (get_or (children_at (types_of ws) n) j (false, 0)))
child_root ws n j a h =
    let d = digit (j % 3) (at ws (4 * n + (2 + j / 3))) in
    let e : type_of_word d ≡ get_or (children_at (types_of ws) n) j (false, 0) = ap type_of_word (child_here ws n j (length (children_at (types_of ws) n)) refl (at ws (4 * n + (2 + j / 3))) d h refl refl) ∙ type_word (get_or (children_at (types_of ws) n) j (false, 0)) in
    sym (types_at_here ws n j (omega (arith, children-most ws n)))
    ∙ ap (λ (t : Ty). word_of_type (type_in ws t)) e
    ∙ ap word_of_type (type_there ws (get_or (children_at (types_of ws) n) j (false, 0)) (child_in (length (types_of ws)) (children_at (types_of ws) n) j a h))

xor_assoc : (a b c : Bool) → xor (xor a b) c ≡ xor a (xor b c)
xor_assoc true true true = refl
xor_assoc true true false = refl
xor_assoc true false true = refl
xor_assoc true false false = refl
xor_assoc false b c = refl

find-turned : (ts : Types) (b : Bool) (t : Ty) → find ts (invert_if b t) ≡ invert_if b (find ts t)
unfolding find invert_if
find-turned ts b t = ap {B = Ty} (λ (c : Bool). (c, (node_at ts t.1).up.1)) (xor_assoc b t.0 (node_at ts t.1).up.0)

-- a and c are what is read of children j, d is c inverted if b.
pub read_alike : (ws : Words) (x y j a c d : ℕ) (b : Bool) → a ≡ at (types_at ws x) j → c ≡ at (types_at ws y) j → d ≡ word_of_type (invert_if b (type_of_word c)) → eqb a d ≡ eqb (at (types_at ws x) j) (word_of_type (invert_if b (type_of_word (at (types_at ws y) j))))
read_alike ws x y j a c d b ea ec ed = ap₂ eqb ea (ed ∙ ap (λ w. word_of_type (invert_if b (type_of_word w))) ec)

-- Where they are the same, the children are of one root and side.
module _ (ws : Words) (x y m : ℕ) (b : Bool) (k : Matched (types_of ws) x y m) where
  alike_pair : (j a c : ℕ) → j < m → a ≡ at (types_at ws x) j → c ≡ word_of_type (invert_if b (type_of_word (at (types_at ws y) j))) → a ≡ c → find (types_of ws) (get_or (children_at (types_of ws) x) j (false, 0)) ≡ find (types_of ws) (invert_if b (get_or (children_at (types_of ws) y) j (false, 0)))
  alike_pair j a c h ea ec e =
      sym (type_word _)
      ∙ ap type_of_word (sym (child_root ws x j k.left_in (omega (arith, k.left-count))) ∙ sym ea ∙ e ∙ ec)
      ∙ type_word (invert_if b (type_of_word (at (types_at ws y) j)))
      ∙ ap (λ w. invert_if b (type_of_word w)) (child_root ws y j k.right_in (omega (arith, k.right_count)))
      ∙ ap (invert_if b) (type_word (find (types_of ws) (get_or (children_at (types_of ws) y) j (false, 0))))
      ∙ sym (find-turned (types_of ws) b (get_or (children_at (types_of ws) y) j (false, 0)))

  pub alike_more : (i j : ℕ) (e : Bool) → Alike (types_of ws) x y b i m j → j < m → e ≡ eqb (at (types_at ws x) j) (word_of_type (invert_if b (type_of_word (at (types_at ws y) j)))) → not e ≡ false → Alike (types_of ws) x y b i m (j + 1)
  alike_more i j e p h q z = record {
    low = omega (arith, p.low);
    most = λ l. omega arith;
    same = λ n l g. elim (ℕ_discrete n j) [
      | yes o ↦ subst (λ (v : ℕ). find (types_of ws) (get_or (children_at (types_of ws) x) v (false, 0)) ≡ find (types_of ws) (invert_if b (get_or (children_at (types_of ws) y) v (false, 0)))) (sym o) (alike_pair j _ _ h refl refl (eqb-true _ _ (sym q ∙ yes_of e z)))
      | no o ↦ p.same n l (omega arith)
    ];
  }
    where
      yes_of : (c : Bool) → not c ≡ false → c ≡ true
      yes_of true w = refl
      yes_of false w = absurd (true≢false w)

pub alike_none : (ts : Types) (x y : ℕ) (b : Bool) (i m : ℕ) → Alike ts x y b i m i
alike_none ts x y b i m = record { low = omega arith; most = λ l. l; same = λ j l h. absurd (omega arith) }
