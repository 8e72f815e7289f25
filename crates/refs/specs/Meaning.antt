-- What types mean. A type is a number: twice a ref, and one more if it is inverted. Refs are read modulo 2,048: up to 255 a node of the question's table, from 256 on a type parameter,
-- from 1,024 on a node of the signature's table by its record. A meaning gives every ref a term with sides, such that both tables are read alike, and each Error by a name of its own.
use Rattle.std.specs.Prelude.{ℕ, ◌+◌, ◌*◌, ◌/◌, ◌%◌, ◌≤◌, ◌<◌, ◌≡◌, Bool, [], ◌∷◌, map, ◌≢◌, eqb, length}
use Rattle.std.proofs.Math.Path.{refl, sym, ap}
use Rattle.std.proofs.Common.{◌∙◌, ap₂, arith}
use Rattle.std.proofs.Math.Bool.{true, false}
use Rattle.rules.specs.Lists.{Words}
use Rattle.rules.specs.Layout.{kind_error}
use Rattle.rules.specs.Sheet.{at, kind_flag, row_own_inverse}
use Rattle.rules.specs.Types.{Ty, xor}
use Rattle.rules.specs.AcyclicLaws.{children_at}
use Rattle.rules.specs.Transfer.{cell_types}
use Rattle.rules.specs.Answer.{word_of_type}
use Rattle.rules.specs.Solutions.{rep}
use Rattle.rules.specs.SignedTerms.{Signed, scon, snil, scons, SignedSol, turned, made, label, made_own, made_other, turned-made, turned-back, turned_twice}
use Rattle.table.specs.Packing.{types_of, kind_at, id_at, inverted_at}
use Rattle.table.specs.ChildTypes.{type_in, odd-sum}

-- Whether a number is odd: a type that is inverted.
unfoldable pub odd : ℕ → Bool
odd t = eqb (t % 2) 1

-- The term of a type, and of some types.
unfoldable pub means : Words → SignedSol → ℕ → Signed
means s m t = turned s (odd t) (m (t / 2 % 2048))

unfoldable pub row : Words → SignedSol → Words → Signed
row s m [] = snil
row s m (t ∷ ts) = scons (means s m t) (row s m ts)

-- A type, inverted if b is odd.
abbrev pub turn : ℕ → ℕ → ℕ
turn b t = t / 2 * 2 + (t + b) % 2

low_part : (q r : ℕ) → r < 2048 → (2048 * q + r) % 2048 ≡ r
low_part q r h = omega arith

pub means_mod : (s : Words) (m : SignedSol) (t : ℕ) → means s m (t % 4096) ≡ means s m t
unfolding means odd
means_mod s m t =
    let a : t % 4096 % 2 ≡ t % 2 = omega arith in
    let c : t / 2 ≡ 2048 * (t / 4096) + t % 4096 / 2 = omega arith in
    let l : t % 4096 / 2 < 2048 = omega arith in
    let d : t % 4096 / 2 % 2048 ≡ t % 4096 / 2 = omega arith in
    let b : t % 4096 / 2 % 2048 ≡ t / 2 % 2048 = d ∙ sym (low_part (t / 4096) (t % 4096 / 2) l) ∙ ap (λ k. k % 2048) (sym c) in
    ap₂ (λ (i j : ℕ). turned s (eqb i 1) (m j)) a b

pub means-turn : (s : Words) (m : SignedSol) (b t : ℕ) → means s m (turn b t) ≡ turned s (odd b) (means s m t)
unfolding means odd
means-turn s m b t =
    let a : turn b t % 2 ≡ (b + t) % 2 = omega arith in
    let c : turn b t / 2 ≡ t / 2 = omega arith in
    ap₂ (λ (i j : ℕ). turned s (eqb i 1) (m (j % 2048))) a c
    ∙ ap (λ i. turned s i (m (t / 2 % 2048))) (sym (odd-sum b t))
    ∙ sym (turned_twice s (odd b) (odd t) (m (t / 2 % 2048)))

-- The ref of a type has the term of the type, turned back.
pub means_ref : (s : Words) (m : SignedSol) (t : ℕ) → m (t / 2 % 2048) ≡ turned s (odd t) (means s m t)
unfolding means
means_ref s m t = sym (turned-back s (odd t) (m (t / 2 % 2048)))

-- A term of a side, a kind and an id.
pub record Sort (s : Words) (t : Signed) (i : Bool) (k d : ℕ) : Type 0 where
  pub over : Signed
  pub is : t ≡ made s i k d over

-- Two such terms that are the same: of one kind and id, of one side if that is not its own inverse, and over the same, turned by the difference of their sides.
pub record Parts (s : Words) (i j : Bool) (k l d c : ℕ) (t u : Signed) : Type 0 where
  pub kinds : k ≡ l
  pub ids : d ≡ c
  pub sides : kind_flag s row_own_inverse k d ≡ false → i ≡ j
  pub below : t ≡ turned s (xor i j) u

module _ (s : Words) where
  record Shape (t : Signed) (k d : ℕ) : Type 0 where
    side : Bool
    over : Signed
    is : t ≡ scon side k d over

  shape : (i : Bool) (k d : ℕ) (t : Signed) → Shape (made s i k d t) k d
  shape i k d t = go (kind_flag s row_own_inverse k d) refl
    where
      go : (o : Bool) → kind_flag s row_own_inverse k d ≡ o → Shape (made s i k d t) k d
      go true e = record { side = false; over = turned s i t; is = made_own s i k d t e }
      go false e = record { side = i; over = t; is = made_other s i k d t e }

  made-kinds : (i j : Bool) (k l d c : ℕ) (t u : Signed) → made s i k d t ≡ made s j l c u → k ≡ l
  made-kinds i j k l d c t u e =
      let a = shape i k d t in
      let b = shape j l c u in
      let z : scon a.side k d a.over ≡ scon b.side l c b.over = sym a.is ∙ e ∙ b.is in
      cc

  made-ids : (i j : Bool) (k l d c : ℕ) (t u : Signed) → made s i k d t ≡ made s j l c u → d ≡ c
  made-ids i j k l d c t u e =
      let a = shape i k d t in
      let b = shape j l c u in
      let z : scon a.side k d a.over ≡ scon b.side l c b.over = sym a.is ∙ e ∙ b.is in
      cc

  made_sides : (i j : Bool) (k d : ℕ) (t u : Signed) → made s i k d t ≡ made s j k d u → kind_flag s row_own_inverse k d ≡ false → i ≡ j
  made_sides i j k d t u e o =
      let z : scon i k d t ≡ scon j k d u = sym (made_other s i k d t o) ∙ e ∙ made_other s j k d u o in
      cc

  xor_same : (i : Bool) → xor i i ≡ false
  xor_same true = refl
  xor_same false = refl

  made_below : (i j : Bool) (k d : ℕ) (t u : Signed) → made s i k d t ≡ made s j k d u → t ≡ turned s (xor i j) u
  unfolding turned
  made_below i j k d t u e = go (kind_flag s row_own_inverse k d) refl
    where
      go : (o : Bool) → kind_flag s row_own_inverse k d ≡ o → t ≡ turned s (xor i j) u
      go true o =
          let z : scon false k d (turned s i t) ≡ scon false k d (turned s j u) = sym (made_own s i k d t o) ∙ e ∙ made_own s j k d u o in
          let y : turned s i t ≡ turned s j u = cc in
          sym (turned-back s i t) ∙ ap (turned s i) y ∙ turned_twice s i j u
      go false o =
          let z : scon i k d t ≡ scon j k d u = sym (made_other s i k d t o) ∙ e ∙ made_other s j k d u o in
          let y : t ≡ u = cc in
          let x : i ≡ j = cc in
          y ∙ ap (λ b. turned s b u) (sym (ap (λ b. xor b j) x ∙ xor_same j))

  pub made_parts : (i j : Bool) (k l d c : ℕ) (t u : Signed) → made s i k d t ≡ made s j l c u → Parts s i j k l d c t u
  made_parts i j k l d c t u e =
      let a = made-kinds i j k l d c t u e in
      let b = made-ids i j k l d c t u e in
      let z : made s i k d t ≡ made s j k d u = e ∙ ap₂ (λ (x y : ℕ). made s j x y u) (sym a) (sym b) in
      record { kinds = a; ids = b; sides = made_sides i j k d t u z; below = made_below i j k d t u z }

  -- A type is of a sort as its ref is, turned.
  pub type_sort : (m : SignedSol) (t : ℕ) (i : Bool) (k d : ℕ) (u : Signed) → m (t / 2 % 2048) ≡ made s i k d u → means s m t ≡ made s (xor (odd t) i) k d u
  unfolding means
  type_sort m t i k d u e = ap (turned s (odd t)) e ∙ turned-made s (odd t) i k d u

-- The types of a node's children, and in the cells of a record.
abbrev pub node_types : Words → ℕ → Words
node_types ws n = map (λ (c : Ty). word_of_type (type_in ws c)) (children_at (types_of ws) n)

abbrev pub record_types : Words → ℕ → Words
record_types s h = map (λ (c : Ty). 2048 + word_of_type c % 2048) (cell_types s h)

-- Known nodes of the question's table are of their side, kind and id, Errors of their names, and known roots over what their children mean.
pub record Nodes (s ws : Words) (ν : ℕ → ℕ) (m : SignedSol) : Type 0 where
  pub known : (n : ℕ) → n < 256 → kind_at (types_of ws) n ≢ 0 → Sort s (m n) (inverted_at (types_of ws) n) (kind_at (types_of ws) n) (label ν (kind_at (types_of ws) n) (id_at (types_of ws) n) n)
  pub root : (n : ℕ) → n < 256 → kind_at (types_of ws) n ≢ 0 → rep (types_of ws) n ≡ n → m n ≡ made s (inverted_at (types_of ws) n) (kind_at (types_of ws) n) (label ν (kind_at (types_of ws) n) (id_at (types_of ws) n) n) (row s m (node_types ws n))

-- Whether the node of the record at p is inverted.
abbrev pub record_side : Words → ℕ → Bool
record_side s p = eqb (at s (p + 2)) 1

-- A Param of the signature's table, whose records stand at places ps, means its type parameter, inverted as it is, and any other known node is over what its children mean. Errors have names by their refs.
pub record Records (s ps : Words) (m : SignedSol) : Type 0 where
  pub name : ℕ → ℕ
  pub few : length ps ≤ 1024
  pub param : (k : ℕ) → k < length ps → at s (at ps k + 1) ≡ 1 → at s (at ps k + 3) < 8 → m (1024 + k) ≡ turned s (record_side s (at ps k)) (m (256 + at s (at ps k + 3)))
  pub plain : (k : ℕ) → k < length ps → at s (at ps k + 1) ≢ 0 → at s (at ps k + 1) ≢ 1 → m (1024 + k) ≡ made s (record_side s (at ps k)) (at s (at ps k + 1)) (label name (at s (at ps k + 1)) (at s (at ps k + 3)) (1024 + k)) (row s m (record_types s (at s (at ps k + 4))))

-- No two Errors have one name, be they of the question's table, of the signature's, or one of either.
pub record ErrorsApart (s ps ws : Words) (ν : ℕ → ℕ) : Type 0 where
  pub nodes : (a b : ℕ) → a < 256 → b < 256 → kind_at (types_of ws) a ≡ kind_error → kind_at (types_of ws) b ≡ kind_error → ν a ≡ ν b → a ≡ b
  pub records : (a b : ℕ) → a < length ps → b < length ps → at s (at ps a + 1) ≡ kind_error → at s (at ps b + 1) ≡ kind_error → ν (1024 + a) ≡ ν (1024 + b) → a ≡ b
  pub both : (a b : ℕ) → a < length ps → b < 256 → at s (at ps a + 1) ≡ kind_error → kind_at (types_of ws) b ≡ kind_error → ν (1024 + a) ≢ ν b

pub record Meaning (s ps ws : Words) (m : SignedSol) : Type 0 where
  pub records : Records s ps m
  pub nodes : Nodes s ws records.name m
  pub errors : ErrorsApart s ps ws records.name
