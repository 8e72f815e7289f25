-- The type words of sub-questions in one row, and sub-questions with the words of a row.
use Prim.Native.Nat.{ℕ, zero, suc, ◌+◌, ◌-◌, ◌*◌, ◌≤◌, ◌<◌}
use Rattle.std.specs.Prelude.{◌≡◌, refl, Bool, length, drop, set}
use Rattle.std.proofs.Math.Path.{sym, ap}
use Rattle.std.proofs.Common.{◌∙◌, ap₂, subst, le_of_suc-le-suc, not-suc-le-zero, zero-add, add-zero, suc-add, add-one, arith, length-append, length-drop, length-take-le, take-add, take-take, drop-drop}
use mathlib.Core.List.{List, [], ◌∷◌, ◌++◌, map, map-append, append-nil, append_assoc}
use Rattle.std.proofs.Math.Option.{Option}
use Rattle.std.proofs.Math.ListN.{get_or, take}
use Rattle.std.proofs.lemmas.List.{length-map, take-set-le, drop-set-add}
use Rattle.std.proofs.Math.Seq.{take-nil, take-append-add}
use Rattle.std.proofs.lemmas.Slice.{take-put_mid}
use borrow.Rule.Slice.PartMut.{put_mid, mid_of}
use Rattle.rules.specs.Lists.{Words, concat_map}
use Rattle.rules.specs.Sheet.{at}
use Rattle.rules.specs.Types.{Ty, Types, ImplType}
use Rattle.rules.specs.Transfer.{type_of_word, import_impl_types}
use Rattle.rules.specs.TransferCount.{row}
use Rattle.rules.specs.Robinson.{AllIn}
use Rattle.rules.specs.Neat.{QueriesIn, in_append}
use Rattle.table.specs.Packing.{up_to, types_of}
use Rattle.transfer.specs.Imports.{types_in, regroup, Inside, Comes, ImportsImpls}
use Rattle.queries.specs.declared.Query.{Query}
use Rattle.queries.specs.declared.Queries.{Queries}
use Rattle.queries.specs.Queries.{four, query_of, query_in, queries_of}
use Rattle.queries.specs.Reading.{map-take}
use Rattle.queries.specs.Gathering.{WithinFour, gathered, queries_gathered, queries_four}

-- A question's four places are all that its words have.
pub query_types : (q : Query) → length q.args ≡ 4 → query_of q ≡ (q.tr, types_in q.n q.args)
unfolding query_of types_in
query_types q h = ap (λ (l : Words). (q.tr, map type_of_word (take q.n l))) (go q.args h)
  where
    go : (ts : Words) → length ts ≡ 4 → four ts ≡ ts
    go [] e = absurd (not-suc-le-zero {n = 0} (omega arith))
    go (a ∷ []) e = absurd (not-suc-le-zero {n = 0} (omega arith))
    go (a ∷ b ∷ []) e = absurd (not-suc-le-zero {n = 0} (omega arith))
    go (a ∷ b ∷ c ∷ []) e = absurd (not-suc-le-zero {n = 0} (omega arith))
    go (a ∷ b ∷ c ∷ d ∷ []) e = refl
    go (a ∷ b ∷ c ∷ d ∷ x ∷ ts) e = absurd (not-suc-le-zero {n = 0} (omega arith))

-- A question's type words, written behind the first m of a row: r are written.
pub record Put (q : Query) (ts us : Words) (m r : ℕ) : Type 0 where
  pub ends : r ≡ m + q.n
  pub is : types_in r us ≡ types_in m ts ++ (query_of q).1

-- Four words in the place of the first four.
four-set : (ts : Words) (x y z w : ℕ) → 4 ≤ length ts → set (set (set (set ts 0 x) 1 y) 2 z) 3 w ≡ x ∷ y ∷ z ∷ w ∷ drop 4 ts
four-set [] x y z w h = absurd (not-suc-le-zero h)
four-set (a ∷ []) x y z w h = absurd (not-suc-le-zero {n = 0} (omega arith))
four-set (a ∷ b ∷ []) x y z w h = absurd (not-suc-le-zero {n = 0} (omega arith))
four-set (a ∷ b ∷ c ∷ []) x y z w h = absurd (not-suc-le-zero {n = 0} (omega arith))
four-set (a ∷ b ∷ c ∷ d ∷ ts) x y z w h = refl

-- The first n of four, whatever stands behind them.
four_first : (n x y z w : ℕ) (ts : Words) → n ≤ 4 → take n (x ∷ y ∷ z ∷ w ∷ ts) ≡ take n (x ∷ y ∷ z ∷ w ∷ [])
four_first zero x y z w ts h = refl
four_first (suc zero) x y z w ts h = refl
four_first (suc (suc zero)) x y z w ts h = refl
four_first (suc (suc (suc zero))) x y z w ts h = refl
four_first (suc (suc (suc (suc zero)))) x y z w ts h = refl
four_first (suc (suc (suc (suc (suc n))))) x y z w ts h = absurd (not-suc-le-zero {n = 0} (omega arith))

module _ (ts : Words) (m x y z w : ℕ) where
  abbrev written : Words
  written = set (set (set (set ts m x) (m + 1) y) (m + 2) z) (m + 3) w

  written_low : take m written ≡ take m ts
  written_low =
      take-set-le m (set (set (set ts m x) (m + 1) y) (m + 2) z) (m + 3) w (omega arith)
      ∙ take-set-le m (set (set ts m x) (m + 1) y) (m + 2) z (omega arith)
      ∙ take-set-le m (set ts m x) (m + 1) y (omega arith)
      ∙ take-set-le m ts m x (omega arith)

  written_high : drop m written ≡ set (set (set (set (drop m ts) 0 x) 1 y) 2 z) 3 w
  written_high =
      drop-set-add m (set (set (set ts m x) (m + 1) y) (m + 2) z) 3 w
      ∙ ap (λ (l : Words). set l 3 w) (drop-set-add m (set (set ts m x) (m + 1) y) 2 z)
      ∙ ap (λ (l : Words). set (set l 2 z) 3 w) (drop-set-add m (set ts m x) 1 y)
      ∙ ap (λ (l : Words). set (set (set l 1 y) 2 z) 3 w) (ap (λ i. drop m (set ts i x)) (sym (add-zero m)) ∙ drop-set-add m ts 0 x)

-- Where there is room for four words they are written, and as many of them count as are the question's.
pub put_query : (q : Query) (ts : Words) (m : ℕ) → q.n ≤ 4 → m + 4 ≤ length ts →
    Put q ts (set (set (set (set ts m (get_or q.args 0 0)) (m + 1) (get_or q.args 1 0)) (m + 2) (get_or q.args 2 0)) (m + 3) (get_or q.args 3 0)) m (m + q.n)
unfolding types_in query_of
put_query q ts m h l = record {
  ends = refl;
  is = ap (map type_of_word) (take-add m q.n us ∙ ap₂ {C = Words} (λ (a b : Words). a ++ b) (written_low ts m x y z w) last) ∙ map-append type_of_word (take m ts) (take q.n (four q.args));
}
  where
    x : ℕ
    x = get_or q.args 0 0

    y : ℕ
    y = get_or q.args 1 0

    z : ℕ
    z = get_or q.args 2 0

    w : ℕ
    w = get_or q.args 3 0

    us : Words
    us = written ts m x y z w

    last : take q.n (drop m us) ≡ take q.n (four q.args)
    last = ap (take q.n) (written_high ts m x y z w ∙ four-set (drop m ts) x y z w (omega (arith, length-drop m ts))) ∙ four_first q.n x y z w (drop 4 (drop m ts)) h

-- The same of its array, where that has four words: it is written as one.
pub args_put : (q : Query) (ts ys : Words) (m : ℕ) → q.n ≤ 4 → m + 4 ≤ length ts → length q.args ≡ 4 → ys ≡ q.args → Put q ts (put_mid m (m + 4 - m) ts ys) m (m + q.n)
unfolding types_in
args_put q ts ys m few room long e = record {
  ends = refl;
  is = ap (map type_of_word) words ∙ map-append type_of_word (take m ts) (take q.n q.args) ∙ ap (λ (x : ImplType). map type_of_word (take m ts) ++ x.1) (sym (query_types q long));
}
  where
    us : Words
    us = put_mid m (m + 4 - m) ts ys

    many : length (take m ts) ≡ m
    many = length-take-le m ts (omega arith)

    words : take (m + q.n) us ≡ take m ts ++ take q.n q.args
    words =
        sym (take-take (m + q.n) (m + 4) us (omega arith))
        ∙ ap (take (m + q.n)) (take-put_mid m (m + 4 - m) ts ys (m + 4) (omega (arith, long, ap length e)) (omega arith) ∙ ap (λ (l : Words). take m ts ++ l) e)
        ∙ ap (λ k. take (k + q.n) (take m ts ++ q.args)) (sym many)
        ∙ take-append-add (take m ts) q.args q.n

row-append : (xs ys : List ImplType) → row (xs ++ ys) ≡ row xs ++ row ys
unfolding concat_map
row-append [] ys = refl
row-append (x ∷ xs) ys = ap (λ (l : List Ty). x.1 ++ l) (row-append xs ys) ∙ sym (append_assoc x.1 (row xs) (row ys))

-- The first m of some type words are the arguments of all sub-questions, in one row.
pub record Rowed (qs : Queries) (ts : Words) (m : ℕ) : Type 0 where
  pub is : types_in m ts ≡ row (queries_of qs)
  pub many : m ≡ length (row (queries_of qs))
  pub most : m ≤ 16

-- The first m are those of k of them.
pub record Rowing (qs : Queries) (ts : Words) (k m : ℕ) : Type 0 where
  pub low : k ≤ qs.n
  pub room : m ≤ 4 * k
  pub is : types_in m ts ≡ row (up_to (λ j. query_of (query_in qs j)) k)

pub rowing_start : (qs : Queries) (ts : Words) → Rowing qs ts 0 0
unfolding types_in up_to concat_map
rowing_start qs ts = record { low = omega arith; room = omega arith; is = refl }

pub rowing_next : (qs : Queries) (ts us : Words) (k m r : ℕ) → WithinFour qs → Rowing qs ts k m → k < qs.n → Put (query_in qs k) ts us m r → Rowing qs us (k + 1) r
unfolding up_to concat_map
rowing_next qs ts us k m r f g l p = record {
  low = omega arith;
  room = omega (arith, g.room, p.ends, f.each k (omega (arith, f.many)));
  is =
      p.is
      ∙ ap₂ {C = List Ty} (λ (x y : List Ty). x ++ y) g.is (sym (append-nil (query_of (query_in qs k)).1))
      ∙ sym (row-append (up_to (λ j. query_of (query_in qs j)) k) (query_of (query_in qs k) ∷ []))
      ∙ ap (λ i. row (up_to (λ j. query_of (query_in qs j)) i)) (sym (add-one k));
}

pub rowed : (qs : Queries) (ts us : Words) (k m : ℕ) → WithinFour qs → Rowing qs ts k m → qs.n ≤ k → 16 ≤ length us → length ts ≡ length us → Rowed qs ts m
unfolding queries_of types_in
rowed qs ts us k m f g l h e = record {
  is = is;
  many = sym (sym (ap length is) ∙ length-map (take m ts) type_of_word ∙ length-take-le m ts (omega (arith, g.room, g.low, f.many)));
  most = omega (arith, g.room, g.low, f.many);
}
  where
    is : types_in m ts ≡ row (queries_of qs)
    is = g.is ∙ ap (λ i. row (up_to (λ j. query_of (query_in qs j)) i)) (let q : k ≡ qs.n = omega (arith, g.low) in q)

-- A question with the words of a row from place o on, as many as it has.
pub record Cut (q : Query) (ts : Words) (o : ℕ) (r : Query) : Type 0 where
  pub is : query_of r ≡ (q.tr, types_in r.n (drop o ts))
  pub count : r.n ≡ q.n
  pub few : r.n ≤ 4

pub cut_read : (q : Query) (ts us : Words) (o : ℕ) → q.n ≤ 4 → o + 4 ≤ length ts → us ≡ mid_of o (o + 4 - o) ts → Cut q ts o (record { tr = q.tr; n = q.n; args = us })
unfolding types_in
cut_read q ts us o few room e = record { is = query_types (record { tr = q.tr; n = q.n; args = us }) long ∙ ap (λ (l : Words). (q.tr, map type_of_word l)) words; count = refl; few = few }
  where
    part : us ≡ take 4 (drop o ts)
    part = e ∙ ap (λ k. take k (drop o ts)) (let z : o + 4 - o ≡ 4 = omega arith in z)

    long : length us ≡ 4
    long = ap length part ∙ length-take-le 4 (drop o ts) (omega (arith, length-drop o ts))

    words : take q.n us ≡ take q.n (drop o ts)
    words = ap (take q.n) part ∙ take-take q.n 4 (drop o ts) few

-- Sub-questions with the words of a row, as many to each: those of `regroup`.
pub record Unrowed (qs : Queries) (ts : Words) (r : Queries) : Type 0 where
  pub is : (m : ℕ) → m ≡ length (row (queries_of qs)) → queries_of r ≡ regroup (queries_of qs) (types_in m ts)
  pub many : r.n ≡ qs.n
  pub counts : (k : ℕ) → k < 4 → (query_in r k).n ≡ (query_in qs k).n
  pub within : WithinFour r
  pub few : (k : ℕ) → (query_in r k).n ≤ 4

map-drop : {A B : Type 0} (f : A → B) (n : ℕ) (xs : List A) → map f (drop n xs) ≡ drop n (map f xs)
map-drop f zero xs = refl
map-drop f (suc n) [] = refl
map-drop f (suc n) (x ∷ xs) = map-drop f n xs

drop-take : {A : Type 0} (n m : ℕ) (xs : List A) → drop n (take (n + m) xs) ≡ take m (drop n xs)
drop-take zero m xs = ap (λ k. take k xs) (zero-add m)
drop-take (suc n) m [] = ap (drop (suc n)) (take-nil (suc n + m)) ∙ sym (take-nil m)
drop-take (suc n) m (x ∷ xs) = ap (λ k. drop (suc n) (take k (x ∷ xs))) (suc-add n m) ∙ drop-take n m xs

-- No more than the row is looked at,
regroup-row : (qs : List ImplType) (xs : List Ty) → regroup qs (take (length (row qs)) xs) ≡ regroup qs xs
unfolding regroup concat_map
regroup-row [] xs = refl
regroup-row (q ∷ qs) xs = ap₂ {C = List ImplType} (λ (x : List Ty) (y : List ImplType). (q.0, x) ∷ y) first (ap (regroup qs) then ∙ regroup-row qs (drop (length q.1) xs))
  where
    long : length (row (q ∷ qs)) ≡ length q.1 + length (row qs)
    long = length-append q.1 (row qs)

    first : take (length q.1) (take (length (row (q ∷ qs))) xs) ≡ take (length q.1) xs
    first = take-take (length q.1) (length (row (q ∷ qs))) xs (omega (arith, long))

    then : drop (length q.1) (take (length (row (q ∷ qs))) xs) ≡ take (length (row qs)) (drop (length q.1) xs)
    then = ap (λ k. drop (length q.1) (take k xs)) long ∙ drop-take (length q.1) (length (row qs)) xs

-- and the first n do not ask what comes behind them.
regroup-take : (n : ℕ) (qs : List ImplType) (xs : List Ty) → regroup (take n qs) xs ≡ take n (regroup qs xs)
unfolding regroup
regroup-take zero qs xs = refl
regroup-take (suc n) [] xs = refl
regroup-take (suc n) (q ∷ qs) xs = ap (λ (l : List ImplType). (q.0, take (length q.1) xs) ∷ l) (regroup-take n qs (drop (length q.1) xs))

piece : (o n : ℕ) (ts : Words) → take n (drop o (map type_of_word ts)) ≡ types_in n (drop o ts)
unfolding types_in
piece o n ts = sym (map-take type_of_word n (drop o ts) ∙ ap (take n) (map-drop type_of_word o ts))

-- Four of them.
regroup-four : (a b c d : ImplType) (i j k l : ℕ) (ts : Words) → length a.1 ≡ i → length b.1 ≡ j → length c.1 ≡ k → length d.1 ≡ l →
    regroup (a ∷ b ∷ c ∷ d ∷ []) (map type_of_word ts) ≡ (a.0, types_in i (drop 0 ts)) ∷ (b.0, types_in j (drop i ts)) ∷ (c.0, types_in k (drop (i + j) ts)) ∷ (d.0, types_in l (drop (i + j + k) ts)) ∷ []
unfolding regroup
regroup-four a b c d i j k l ts ei ej ek el =
    (λ t. (a.0, take (ei t) xs) ∷ (b.0, take (ej t) (drop (ei t) xs)) ∷ (c.0, take (ek t) (drop (ej t) (drop (ei t) xs))) ∷ (d.0, take (el t) (drop (ek t) (drop (ej t) (drop (ei t) xs)))) ∷ [])
    ∙ (λ t. (a.0, piece 0 i ts t) ∷ (b.0, piece i j ts t) ∷ (c.0, third t) ∷ (d.0, fourth t) ∷ [])
  where
    xs : List Ty
    xs = map type_of_word ts

    third : take k (drop j (drop i xs)) ≡ types_in k (drop (i + j) ts)
    third = ap (take k) (drop-drop j i xs) ∙ piece (i + j) k ts

    fourth : take l (drop k (drop j (drop i xs))) ≡ types_in l (drop (i + j + k) ts)
    fourth = ap (λ (zs : List Ty). take l (drop k zs)) (drop-drop j i xs) ∙ ap (take l) (drop-drop k (i + j) xs) ∙ piece (i + j + k) l ts

query_many : (q : Query) → q.n ≤ 4 → length (query_of q).1 ≡ q.n
unfolding query_of
query_many q h = length-map (take q.n (four q.args)) type_of_word ∙ length-take-le q.n (four q.args) h

-- The four cut out of a row and put together.
module _ (qs : Queries) (ts : Words) (a b c d : Query) (f : WithinFour qs) (ca : Cut (query_in qs 0) ts 0 a) (cb : Cut (query_in qs 1) ts a.n b) (cc : Cut (query_in qs 2) ts (a.n + b.n) c) (cd : Cut (query_in qs 3) ts (a.n + b.n + c.n) d) where
  abbrev r : Queries
  r = gathered qs.n a b c d

  unrowed_is : (m : ℕ) → m ≡ length (row (queries_of qs)) → queries_of r ≡ regroup (queries_of qs) (types_in m ts)
  unfolding types_in query_of
  unrowed_is m l =
      queries_gathered qs.n a b c d f.many
      ∙ ap (take qs.n) ((λ t. ca.is t ∷ cb.is t ∷ cc.is t ∷ cd.is t ∷ []) ∙ sym there)
      ∙ sym (regroup-take qs.n all xs)
      ∙ ap (λ (l : List ImplType). regroup l xs) (sym (queries_four qs f.many))
      ∙ sym (regroup-row (queries_of qs) xs)
      ∙ ap (regroup (queries_of qs)) (ap (λ k. take k xs) (sym l) ∙ sym (map-take type_of_word m ts))
    where
      xs : List Ty
      xs = map type_of_word ts

      all : List ImplType
      all = query_of (query_in qs 0) ∷ query_of (query_in qs 1) ∷ query_of (query_in qs 2) ∷ query_of (query_in qs 3) ∷ []

      size : (k : ℕ) → k < 4 → (n : ℕ) → n ≡ (query_in qs k).n → length (query_of (query_in qs k)).1 ≡ n
      size k h n q = query_many (query_in qs k) (f.each k h) ∙ sym q

      there :
          regroup all xs
          ≡ ((query_in qs 0).tr, types_in a.n (drop 0 ts)) ∷ ((query_in qs 1).tr, types_in b.n (drop a.n ts)) ∷ ((query_in qs 2).tr, types_in c.n (drop (a.n + b.n) ts)) ∷ ((query_in qs 3).tr, types_in d.n (drop (a.n + b.n + c.n) ts)) ∷ []
      there = regroup-four (query_of (query_in qs 0)) (query_of (query_in qs 1)) (query_of (query_in qs 2)) (query_of (query_in qs 3)) a.n b.n c.n d.n ts (size 0 (omega arith) a.n ca.count) (size 1 (omega arith) b.n cb.count) (size 2 (omega arith) c.n cc.count) (size 3 (omega arith) d.n cd.count)

  unrowed_counts : (k : ℕ) → k < 4 → (query_in r k).n ≡ (query_in qs k).n
  unrowed_counts zero h = ca.count
  unrowed_counts (suc zero) h = cb.count
  unrowed_counts (suc (suc zero)) h = cc.count
  unrowed_counts (suc (suc (suc zero))) h = cd.count
  unrowed_counts (suc (suc (suc (suc k)))) h = absurd (not-suc-le-zero {n = 0} (omega arith))

  unrowed_few : (k : ℕ) → (query_in r k).n ≤ 4
  unrowed_few zero = ca.few
  unrowed_few (suc zero) = cb.few
  unrowed_few (suc (suc zero)) = cc.few
  unrowed_few (suc (suc (suc zero))) = cd.few
  unrowed_few (suc (suc (suc (suc k)))) = omega arith

  pub unrowed : Unrowed qs ts r
  unrowed = record { is = unrowed_is; many = refl; counts = unrowed_counts; within = record { many = f.many; each = λ k h. unrowed_few k }; few = unrowed_few }

-- In a row, imported in place, and out of the row again: what `import` of the sub-questions gives.
pub impls_imported : (src : Types) (ps : Option (List Ty)) (ws us ts vs : Words) (qs r : Queries) (m : ℕ) (b : Bool) → Rowed qs ts m → ImportsImpls src ps ws us ts vs m b → Unrowed qs vs r →
    Comes (List ImplType) (import_impl_types src ps (queries_of qs) (types_of ws)) us (queries_of r) b
impls_imported src ps ws us ts vs qs r m b w i u = subst (λ (l : List ImplType). Comes (List ImplType) (import_impl_types src ps (queries_of qs) (types_of ws)) us l b) (sym (u.is m w.many)) (i.comes (queries_of qs) (sym w.is))

-- What stands in a row, or in a question, are types of a table where the sub-questions' arguments, or the question's, are.
in_row : (n : ℕ) (qs : List ImplType) → QueriesIn n qs → AllIn n (row qs)
unfolding concat_map
in_row n [] h = tt
in_row n (q ∷ qs) h = in_append n q.1 (row qs) h.0 (in_row n qs h.1)

words_in : (n : ℕ) (ts : Words) → AllIn n (map type_of_word ts) → (j : ℕ) → j < length ts → (type_of_word (at ts j)).1 < n
words_in n [] h j l = absurd (not-suc-le-zero l)
words_in n (t ∷ ts) h zero l = h.0
words_in n (t ∷ ts) h (suc j) l = words_in n ts h.1 j (le_of_suc-le-suc l)

pub row_inside : (src : Types) (qs : Queries) (ps : List ImplType) (ts : Words) (m : ℕ) → Rowed qs ts m → queries_of qs ≡ ps → QueriesIn (length src) ps → Inside src (take m ts)
unfolding types_in
row_inside src qs ps ts m w e h = record { each = words_in (length src) (take m ts) (subst (AllIn (length src)) (sym (w.is ∙ ap (λ (l : List ImplType). row l) e)) (in_row (length src) ps h)) }

-- A question's words are inside a table where its types are: of an array of four,
pub query_inside : (src : Types) (q : Query) (p : ImplType) → length q.args ≡ 4 → query_of q ≡ p → AllIn (length src) p.1 → Inside src (take q.n q.args)
unfolding types_in
query_inside src q p h e i = record { each = words_in (length src) (take q.n q.args) (subst (AllIn (length src)) (ap (λ (x : ImplType). x.1) (sym e ∙ query_types q h)) i) }

-- and of its four places.
pub query_words : (q : Query) → query_of q ≡ (q.tr, types_in q.n (four q.args))
unfolding query_of types_in
query_words q = refl

pub words_inside : (src : Types) (q : Query) (p : ImplType) → query_of q ≡ p → AllIn (length src) p.1 → Inside src (take q.n (four q.args))
unfolding query_of
words_inside src q p e i = record { each = words_in (length src) (take q.n (four q.args)) (subst (AllIn (length src)) (ap (λ (x : ImplType). x.1) (sym e)) i) }
