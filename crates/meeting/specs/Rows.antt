-- Pairs of types met in turn: the children of two types, and the queue.
use Prim.Native.Nat.{ℕ, zero, suc, ◌+◌, ◌/◌, ◌≤◌, ◌<◌}
use Rattle.std.proofs.Math.Path.{◌≡◌, refl, ap}
use Rattle.std.proofs.Common.{sym, ◌∙◌, subst, le_of_suc-le-suc, not-suc-le-zero, arith, get_or-take, length-take-le}
use Rattle.std.specs.Prelude.{Bool, true, false, ◌≢◌, length, set, take}
use Rattle.std.specs.Int.{from_bool}
use mathlib.Core.List.{[], ◌∷◌}
use Rattle.rules.specs.Lists.{Words}
use Rattle.rules.specs.Sheet.{at}
use Rattle.rules.specs.SignedTerms.{Signed, SignedSol, snil, scons, turned, inverse}
use Rattle.table.specs.declared.Row.{Row}
use Rattle.refs.specs.Meaning.{means, means-turn, turn, row, Meaning, made_parts, type_sort}
use Rattle.refs.specs.Refs.{Bit, side_bit, type_side, apart, side_of}
use Rattle.refs.specs.Children.{Gathers}
use Rattle.meeting.specs.declared.state.Meeting.{Meeting}
use Rattle.meeting.specs.declared.state.Pair.{Pair}
use Rattle.meeting.specs.Meeting.{Holds, After, Keeps, Meets, pair_at, queued_set}

-- The first n of xs and ys, turned by b, mean the same one by one.
pub record Pairs (s : Words) (m : SignedSol) (n b : ℕ) (xs ys : Words) : Type 0 where
  pub same : (j : ℕ) → j < n → means s m (at xs j) ≡ means s m (turn b (at ys j))

-- Rows of which one means what the other does, turned, are of one length, and so in each place.
turned_nil : (s : Words) (b : Bool) → turned s b snil ≡ snil
unfolding turned inverse
turned_nil s true = refl
turned_nil s false = refl

turned_cons : (s : Words) (b : Bool) (t u : Signed) → turned s b (scons t u) ≡ scons (turned s b t) (turned s b u)
unfolding turned inverse
turned_cons s true t u = refl
turned_cons s false t u = refl

module _ (s : Words) (m : SignedSol) (b : Bool) where
  pub row_length_lem : (xs ys : Words) → row s m xs ≡ turned s b (row s m ys) → length xs ≡ length ys
  unfolding row
  row_length_lem [] [] e = refl
  row_length_lem [] (y ∷ ys) e = let z : snil ≡ scons (turned s b (means s m y)) (turned s b (row s m ys)) = e ∙ turned_cons s b (means s m y) (row s m ys) in let z : ◌≡◌ {A = ℕ} 0 1 = cc in absurd (omega arith)
  row_length_lem (x ∷ xs) [] e = let z : scons (means s m x) (row s m xs) ≡ snil = e ∙ turned_nil s b in let z : ◌≡◌ {A = ℕ} 0 1 = cc in absurd (omega arith)
  row_length_lem (x ∷ xs) (y ∷ ys) e =
      let q : scons (means s m x) (row s m xs) ≡ scons (turned s b (means s m y)) (turned s b (row s m ys)) = e ∙ turned_cons s b (means s m y) (row s m ys) in
      let z : row s m xs ≡ turned s b (row s m ys) = cc in
      ap suc (row_length_lem xs ys z)

  pub row_same : (xs ys : Words) → row s m xs ≡ turned s b (row s m ys) → (j : ℕ) → j < length xs → means s m (at xs j) ≡ turned s b (means s m (at ys j))
  unfolding row
  row_same [] ys e j h = absurd (not-suc-le-zero h)
  row_same (x ∷ xs) [] e j h = let z : scons (means s m x) (row s m xs) ≡ snil = e ∙ turned_nil s b in let z : ◌≡◌ {A = ℕ} 0 1 = cc in absurd (omega arith)
  row_same (x ∷ xs) (y ∷ ys) e zero h =
      let q : scons (means s m x) (row s m xs) ≡ scons (turned s b (means s m y)) (turned s b (row s m ys)) = e ∙ turned_cons s b (means s m y) (row s m ys) in
      cc
  row_same (x ∷ xs) (y ∷ ys) e (suc j) h =
      let q : scons (means s m x) (row s m xs) ≡ scons (turned s b (means s m y)) (turned s b (row s m ys)) = e ∙ turned_cons s b (means s m y) (row s m ys) in
      let z : row s m xs ≡ turned s b (row s m ys) = cc in
      row_same xs ys z j (le_of_suc-le-suc h)

  pub row-rest : (x y : ℕ) (xs ys : Words) → row s m (x ∷ xs) ≡ turned s b (row s m (y ∷ ys)) → row s m xs ≡ turned s b (row s m ys)
  unfolding row
  row-rest x y xs ys e =
      let q : scons (means s m x) (row s m xs) ≡ scons (turned s b (means s m y)) (turned s b (row s m ys)) = e ∙ turned_cons s b (means s m y) (row s m ys) in
      cc

-- The first n of xs and ys are met.
pub record Goes (s ps ws : Words) (q : Meeting) (n b : ℕ) (xs ys : Words) (r : Meeting) (c : Bool) : Type 0 where
  pub at : (m : SignedSol) → Meaning s ps ws m → Holds s m q → Pairs s m n b xs ys → After s m r c

pub goes_start : (s ps ws : Words) (q : Meeting) (n b : ℕ) (xs ys : Words) → Goes s ps ws q n b xs ys q false
goes_start s ps ws q n b xs ys = record { at = λ m w h p. record { holds = h; free = refl } }

pub goes_on : (s ps ws : Words) (q : Meeting) (n b : ℕ) (xs ys : Words) (r : Meeting) (j x y : ℕ) (t : Meeting) (c : Bool) → Goes s ps ws q n b xs ys r false → j < n → x ≡ at xs j → y ≡ turn b (at ys j) → Meets s ps ws r x y t c → Goes s ps ws q n b xs ys t c
goes_on s ps ws q n b xs ys r j x y t c g h ex ey u = record { at = λ m w l p. u.at m w (g.at m w l p).holds (ap (means s m) ex ∙ p.same j h ∙ ap (means s m) (sym ey)) }

pub children_few : (s ps ws : Words) (x : ℕ) (o : Row) → Gathers s ps ws x o → o.n ≤ 8
children_few s ps ws x o a = a.few

-- The children of types x and y that mean the same.
module _ (s ps ws : Words) (q : Meeting) (x y : ℕ) (o u : Row) (a : Gathers s ps ws (x / 2) o) (b : Gathers s ps ws (y / 2) u) where
  rows : (m : SignedSol) → Meaning s ps ws m → means s m x ≡ means s m y → row s m (take o.n o.types) ≡ turned s (apart s ps ws x y) (row s m (take u.n u.types))
  rows m w e =
      let c = a.are m w in
      let d = b.are m w in
      (made_parts s (type_side s ps ws x) (type_side s ps ws y) c.kind d.kind c.id d.id (row s m (take o.n o.types)) (row s m (take u.n u.types))
      (sym (type_sort s m x (side_of s ps ws (x / 2)) c.kind c.id (row s m (take o.n o.types)) c.is) ∙ e ∙ type_sort s m y (side_of s ps ws (y / 2)) d.kind d.id (row s m (take u.n u.types)) d.is)).below

  same_count : (m : SignedSol) → Meaning s ps ws m → means s m x ≡ means s m y → o.n ≡ u.n
  same_count m w e = sym (length-take-le o.n o.types a.long) ∙ row_length_lem s m (apart s ps ws x y) _ _ (rows m w e) ∙ length-take-le u.n u.types b.long

  pub children_clash : o.n ≢ u.n → Meets s ps ws q x y q true
  children_clash n = record { at = λ m w h e. absurd (n (same_count m w e)) }

  pub children_meet : (i : ℕ) (r : Meeting) (c : Bool) → Bit (apart s ps ws x y) i → Goes s ps ws q o.n i o.types u.types r c → Meets s ps ws q x y r c
  children_meet i r c t g = record {
    at = λ m w h e. g.at m w h (record {
      same = λ j l.
          sym (ap (means s m) (get_or-take o.n o.types j 0 l))
          ∙ row_same s m (apart s ps ws x y) _ _ (rows m w e) j (omega (arith, length-take-le o.n o.types a.long))
          ∙ ap (λ v. turned s (apart s ps ws x y) (means s m v)) (get_or-take u.n u.types j 0 (omega (arith, same_count m w e)))
          ∙ ap (λ v. turned s v (means s m (at u.types j))) (sym t.is)
          ∙ sym (means-turn s m i (at u.types j));
    });
  }

-- A type and its inverse, of one ref.
children_mirrored : (s ps ws : Words) (q : Meeting) (x y i : ℕ) (o : Row) (r : Meeting) (c : Bool) → Gathers s ps ws (x / 2) o → x / 2 ≡ y / 2 → Bit (apart s ps ws x y) i → i ≡ 1 → Goes s ps ws q o.n 1 o.types o.types r c → Meets s ps ws q x y r c
children_mirrored s ps ws q x y i o r c a e t h g = children_meet s ps ws q x y o o a (subst (λ v. Gathers s ps ws v o) e a) 1 r c (subst (Bit (apart s ps ws x y)) h t) g

pub mirrored_told : (s ps ws : Words) (q : Meeting) (x y : ℕ) (i : Bool) (o : Row) (r : Meeting) (c : Bool) → Gathers s ps ws (x / 2) o → x / 2 ≡ y / 2 → i ≡ apart s ps ws x y → i ≡ true → Goes s ps ws q o.n 1 o.types o.types r c → Meets s ps ws q x y r c
mirrored_told s ps ws q x y i o r c a e ei t g = children_mirrored s ps ws q x y (from_bool i) o r c a e (side_bit i (apart s ps ws x y) (from_bool i) ei refl) (ap from_bool t) g

-- Pairs of the queue are worked off.
pub record Ran (s ps ws : Words) (q r : Meeting) (c : Bool) : Type 0 where
  pub at : (m : SignedSol) → Meaning s ps ws m → Holds s m q → After s m r c

pub ran_keeps : (s ps ws : Words) (q r : Meeting) → Keeps q r → Ran s ps ws q r false
ran_keeps s ps ws q r k = record { at = λ m w h. record { holds = k.at s m h; free = refl } }

pub ran_start : (s ps ws : Words) (q : Meeting) → Ran s ps ws q q false
ran_start s ps ws q = record { at = λ m w h. record { holds = h; free = refl } }

pub ran_on : (s ps ws : Words) (q r t : Meeting) (c : Bool) → Ran s ps ws q r false → Ran s ps ws r t c → Ran s ps ws q t c
ran_on s ps ws q r t c g u = record { at = λ m w h. u.at m w (g.at m w h).holds }

pub ran_off : (s ps ws : Words) (q r t : Meeting) → Ran s ps ws q r false → Keeps r t → Ran s ps ws q t false
ran_off s ps ws q r t g k = record { at = λ m w h. record { holds = k.at s m (g.at m w h).holds; free = refl } }

-- The last pair is marked, and its types, which mean the same, are met.
pub ran_visit : (s ps ws : Words) (q : Meeting) (l : ℕ) (v : Pair) (r t : Meeting) (c : Bool) (x y : ℕ) → l + 1 ≤ q.len → r.links ≡ q.links → r.pairs ≡ set q.pairs l v → r.len ≡ q.len → v.x ≡ (pair_at q.pairs l).x → v.y ≡ (pair_at q.pairs l).y → x ≡ (pair_at q.pairs l).x → y ≡ (pair_at q.pairs l).y → Meets s ps ws r x y t c → Ran s ps ws q t c
ran_visit s ps ws q l v r t c x y i el ep en ex ey fx fy u = record {
  at = λ m w h.
      let e = h.queued l (omega (arith, i)) in
      let o : Holds s m r = record {
        linked = rw el h.linked;
        queued = λ k j. rw ep (queued_set s m q.pairs l v k (ap (means s m) ex ∙ e ∙ ap (means s m) (sym ey)) (λ d. h.queued k (omega (arith, en, j))));
      } in
      u.at m w o (ap (means s m) fx ∙ e ∙ ap (means s m) (sym fy));
}
