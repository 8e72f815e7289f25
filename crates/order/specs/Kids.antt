-- The children of two refs, met one by one: the cells of a record beside the children of a node, or two rows.
use Rattle.std.specs.Prelude.{ℕ, suc, ◌+◌, ◌-◌, ◌%◌, ◌≤◌, ◌<◌, ◌≡◌, refl, [], ◌∷◌, map, ◌≢◌, length, take, drop}
use Rattle.std.proofs.Common.{sym, ◌∙◌, ap, subst, add-one, arith, drop_of_length-le, drop-cons, get_or-take, length-take-le, lt-ltb, le-ltb}
use Rattle.rules.specs.Lists.{Words}
use Rattle.rules.specs.Sheet.{at, chain, chain_of}
use Rattle.rules.specs.Transfer.{cell_types}
use Rattle.table.specs.declared.Row.{Row}
use Rattle.table.specs.ChildTypes.{ChildTypes, row_at, types_at, types_at-length}
use Rattle.refs.specs.Meaning.{turn, record_types, node_types}
use Rattle.refs.specs.Refs.{place}
use Rattle.refs.specs.Children.{type_in_cell, cell_types_are, cells-none, cells_more}
use Rattle.order.specs.Stage.{kids}
use Rattle.order.specs.Following.{Follows, FollowsAll, follows_none, follows_more, follows_last, follows_uneven}
use Rattle.order.specs.Words.{Kids}

-- What is left of a row from j on.
left_of : (o : Row) (j : ℕ) → o.n ≤ length o.types → j < o.n → drop j (take o.n o.types) ≡ at o.types j ∷ drop (j + 1) (take o.n o.types)
left_of o j l h = drop-cons (take o.n o.types) j 0 (omega (arith, length-take-le o.n o.types l)) ∙ (λ i. get_or-take o.n o.types j 0 h i ∷ drop (sym (add-one j) i) (take o.n o.types))

none_left : (o : Row) (j : ℕ) → o.n ≤ length o.types → o.n ≤ j → drop j (take o.n o.types) ≡ []
none_left o j l h = drop_of_length-le (take o.n o.types) {i = j} (omega (arith, length-take-le o.n o.types l))

-- The type in the cell at c is met with type y, turned by b.
pub record CellMet (s ps ws m : Words) (c y b : ℕ) (m' : Words) (r : ℕ) : Type 0 where
  pub is : Follows s ps ws m (type_in_cell s c) (turn b y) m' r

pub cell_met : (s ps ws m : Words) (c y b w u v : ℕ) (m' : Words) (r : ℕ) → w ≡ at s (c + 1) → u ≡ 2048 + w % 2048 → v ≡ turn b y → Follows s ps ws m u v m' r → CellMet s ps ws m c y b m' r
cell_met s ps ws m c y b w u v m' r ew eu ev f = record { is = subst (λ i. Follows s ps ws m i (turn b y) m' r) (eu ∙ ap (λ i. 2048 + i % 2048) ew) (subst (λ i. Follows s ps ws m u i m' r) ev f) }

-- The cells from h are met with the types of a row, turned by b.
pub record Cells (s ps ws m : Words) (h : ℕ) (o : Row) (b : ℕ) (m' : Words) (r : ℕ) : Type 0 where
  pub all : FollowsAll s ps ws m (record_types s h) (map (turn b) (take o.n o.types)) m' r

-- j cells have met the types of a row, turned by b, and the chain goes on at c: what is found of the others is found of all.
pub record Beside (s ps ws m : Words) (h : ℕ) (o : Row) (b : ℕ) (m₁ : Words) (c j : ℕ) : Type 0 where
  pub few : j ≤ o.n
  pub most : o.n ≤ 8
  pub long : o.n ≤ length o.types
  pub fuel : o.n < length s
  pub rest : (m' : Words) (r : ℕ) → FollowsAll s ps ws m₁ (map (type_in_cell s) (chain_of (length s - j) s c)) (map (turn b) (drop j (take o.n o.types))) m' r → FollowsAll s ps ws m (record_types s h) (map (turn b) (take o.n o.types)) m' r

pub beside_start : (s ps ws m : Words) (h z n b : ℕ) → 8 < length s → n ≤ 8 → Beside s ps ws m h (row_at ws z n) b m h 0
unfolding cell_types chain
beside_start s ps ws m h z n b f l = record {
  few = omega arith;
  most = l;
  long = omega (arith, types_at-length ws z);
  fuel = omega arith;
  rest = λ m' r g. subst (λ (us : Words). FollowsAll s ps ws m us (map (turn b) (take n (types_at ws z))) m' r) (sym (cell_types_are s (chain s h) ∙ ap (λ k. map (type_in_cell s) (chain_of k s h)) (let y : length s ≡ length s - 0 = omega arith in y))) g;
}

module _ (s ps ws m : Words) (h : ℕ) (o : Row) (b : ℕ) (m₁ : Words) (c j : ℕ) (k : Beside s ps ws m h o b m₁ c j) where
  more_cells : c ≢ 0 → map (type_in_cell s) (chain_of (length s - j) s c) ≡ type_in_cell s c ∷ map (type_in_cell s) (chain_of (length s - (j + 1)) s (at s c))
  more_cells z = ap (map (type_in_cell s)) (cells_more s j c (omega (arith, k.few, k.fuel)) z)

  no_cells : c ≡ 0 → map (type_in_cell s) (chain_of (length s - j) s c) ≡ []
  no_cells z = ap (map (type_in_cell s)) (cells-none s (length s - j) c z)

  more_types : j < o.n → map (turn b) (drop j (take o.n o.types)) ≡ turn b (at o.types j) ∷ map (turn b) (drop (j + 1) (take o.n o.types))
  more_types l = ap (map (turn b)) (left_of o j k.long l)

  no_types : o.n ≤ j → map (turn b) (drop j (take o.n o.types)) ≡ []
  no_types l = ap (map (turn b)) (none_left o j k.long l)

  -- The cells end before the types do,
  pub beside_short : c ≡ 0 → j < o.n → Cells s ps ws m h o b m₁ 0
  beside_short z l = record { all = k.rest m₁ 0 (follows_uneven s ps ws m₁ _ _ m₁ (λ e. omega (arith, sym (ap length (no_cells z)) ∙ e ∙ ap length (more_types l)))) }

  -- the types before the cells do,
  pub beside_over : c ≢ 0 → o.n ≤ j → Cells s ps ws m h o b m₁ 0
  beside_over z l = record { all = k.rest m₁ 0 (follows_uneven s ps ws m₁ _ _ m₁ (λ e. omega (arith, sym (ap length (more_cells z)) ∙ e ∙ ap length (no_types l)))) }

  -- or both.
  pub beside_end : c ≡ 0 → o.n ≤ j → Cells s ps ws m h o b m₁ 1
  beside_end z l = record { all = k.rest m₁ 1 (subst (λ (us : Words). FollowsAll s ps ws m₁ us (map (turn b) (drop j (take o.n o.types))) m₁ 1) (sym (no_cells z)) (subst (λ (vs : Words). FollowsAll s ps ws m₁ [] vs m₁ 1) (sym (no_types l)) (follows_none s ps ws m₁))) }

  module _ (x : ℕ) (z : c ≢ 0) (l : j < o.n) (ex : x ≡ at o.types j) where
    here : (m' : Words) (r : ℕ) → FollowsAll s ps ws m₁ (type_in_cell s c ∷ map (type_in_cell s) (chain_of (length s - (j + 1)) s (at s c))) (turn b x ∷ map (turn b) (drop (j + 1) (take o.n o.types))) m' r → FollowsAll s ps ws m (record_types s h) (map (turn b) (take o.n o.types)) m' r
    here m' r f = k.rest m' r
        (subst (λ (us : Words). FollowsAll s ps ws m₁ us (map (turn b) (drop j (take o.n o.types))) m' r) (sym (more_cells z))
        (subst (λ (vs : Words). FollowsAll s ps ws m₁ (type_in_cell s c ∷ map (type_in_cell s) (chain_of (length s - (j + 1)) s (at s c))) vs m' r) (sym (more_types l ∙ ap (λ i. turn b i ∷ map (turn b) (drop (j + 1) (take o.n o.types))) (sym ex))) f))

    -- A pair is the last,
    pub beside_last : (m₂ : Words) (r : ℕ) → CellMet s ps ws m₁ c x b m₂ r → r ≢ 1 → Cells s ps ws m h o b m₂ r
    beside_last m₂ r f y = record { all = here m₂ r (follows_last s ps ws m₁ _ _ m₂ r _ _ f.is y) }

    -- or the next is met.
    pub beside_on : (m₂ : Words) (r n : ℕ) → CellMet s ps ws m₁ c x b m₂ r → r ≡ 1 → n ≡ at s c → Beside s ps ws m h o b m₂ n (j + 1)
    beside_on m₂ r n f y en = record {
      few = omega arith;
      most = k.most;
      long = k.long;
      fuel = k.fuel;
      rest = λ m' q g. here m' q (follows_more s ps ws m₁ _ _ m₂ r _ _ m' q f.is y (subst (λ i. FollowsAll s ps ws m₂ (map (type_in_cell s) (chain_of (length s - (j + 1)) s i)) (map (turn b) (drop (j + 1) (take o.n o.types))) m' q) en g));
    }

-- The children of a ref that has a record and of a known node.
pub kids_across : (s ps ws m : Words) (a z b p h i n : ℕ) (m' : Words) (r : ℕ) → 1024 ≤ a → z < 256 → ChildTypes ws z (row_at ws z n) → p ≡ place ps a → h ≡ at s (p + 4) → i ≡ h → Cells s ps ws m i (row_at ws z n) b m' r → FollowsAll s ps ws m (kids s ps ws a) (map (turn b) (kids s ps ws z)) m' r
unfolding kids
kids_across s ps ws m a z b p h i n m' r ha hz c ep eh ei f =
    subst (λ (us : Words). FollowsAll s ps ws m us (map (turn b) (kids s ps ws z)) m' r) (sym (high ∙ ap (record_types s) (sym (ei ∙ eh ∙ ap (λ v. at s (v + 4)) ep))))
    (subst (λ (vs : Words). FollowsAll s ps ws m (record_types s i) (map (turn b) vs) m' r) (c.are ∙ sym low) f.all)
  where
    high : kids s ps ws a ≡ record_types s (at s (place ps a + 4))
    high = rw (le-ltb a 256 (omega arith), kids)

    low : kids s ps ws z ≡ node_types ws z
    low = rw (lt-ltb z 256 hz, kids)

pub arity_few : (ws : Words) (z n : ℕ) → ChildTypes ws z (row_at ws z n) → n ≤ 8
arity_few ws z n c = c.few

-- Two rows are met, the types of the second turned by b.
pub record Paired (s ps ws m : Words) (x y : Row) (b : ℕ) (m' : Words) (r : ℕ) : Type 0 where
  pub all : FollowsAll s ps ws m (take x.n x.types) (map (turn b) (take y.n y.types)) m' r

-- Rows of the same length, whose types are there.
pub record Even (x y : Row) : Type 0 where
  pub same : x.n ≡ y.n
  pub most : x.n ≤ 8
  pub left : x.n ≤ length x.types
  pub right : y.n ≤ length y.types

-- j pairs have met: what is found of the others is found of all.
pub record Rows (s ps ws m : Words) (x y : Row) (b : ℕ) (m₁ : Words) (j : ℕ) : Type 0 where
  pub even : Even x y
  pub rest : (m' : Words) (r : ℕ) → FollowsAll s ps ws m₁ (drop j (take x.n x.types)) (map (turn b) (drop j (take y.n y.types))) m' r → FollowsAll s ps ws m (take x.n x.types) (map (turn b) (take y.n y.types)) m' r

pub rows_start : (s ps ws m : Words) (x y : Row) (b : ℕ) → Even x y → Rows s ps ws m x y b m 0
rows_start s ps ws m x y b e = record { even = e; rest = λ m' r f. f }

module _ (s ps ws m : Words) (x y : Row) (b : ℕ) (m₁ : Words) (j : ℕ) (k : Rows s ps ws m x y b m₁ j) where
  pub rows_end_lem : x.n ≤ j → Paired s ps ws m x y b m₁ 1
  rows_end_lem l = record { all = k.rest m₁ 1 (subst (λ (us : Words). FollowsAll s ps ws m₁ us (map (turn b) (drop j (take y.n y.types))) m₁ 1) (sym (none_left x j k.even.left l)) (subst (λ (vs : Words). FollowsAll s ps ws m₁ [] (map (turn b) vs) m₁ 1) (sym (none_left y j k.even.right (omega (arith, k.even.same)))) (follows_none s ps ws m₁))) }

  module _ (u w v : ℕ) (l : j < x.n) (eu : u ≡ at x.types j) (ew : w ≡ at y.types j) (ev : v ≡ turn b w) where
    here_rows : (m' : Words) (r : ℕ) → FollowsAll s ps ws m₁ (u ∷ drop (j + 1) (take x.n x.types)) (v ∷ map (turn b) (drop (j + 1) (take y.n y.types))) m' r → FollowsAll s ps ws m (take x.n x.types) (map (turn b) (take y.n y.types)) m' r
    here_rows m' r f = k.rest m' r
        (subst (λ (us : Words). FollowsAll s ps ws m₁ us (map (turn b) (drop j (take y.n y.types))) m' r) (sym (left_of x j k.even.left l ∙ ap (λ i. i ∷ drop (j + 1) (take x.n x.types)) (sym eu)))
        (subst (λ (vs : Words). FollowsAll s ps ws m₁ (u ∷ drop (j + 1) (take x.n x.types)) vs m' r) (sym (ap (map (turn b)) (left_of y j k.even.right (omega (arith, k.even.same))) ∙ ap (λ i. i ∷ map (turn b) (drop (j + 1) (take y.n y.types))) (sym (ev ∙ ap (turn b) ew)))) f))

    pub rows_last : (m₂ : Words) (r : ℕ) → Follows s ps ws m₁ u v m₂ r → r ≢ 1 → Paired s ps ws m x y b m₂ r
    rows_last m₂ r f n = record { all = here_rows m₂ r (follows_last s ps ws m₁ u v m₂ r _ _ f n) }

    pub rows_on : (m₂ : Words) (r : ℕ) → Follows s ps ws m₁ u v m₂ r → r ≡ 1 → Rows s ps ws m x y b m₂ (j + 1)
    rows_on m₂ r f e = record { even = k.even; rest = λ m' t g. here_rows m' t (follows_more s ps ws m₁ u v m₂ r _ _ m' t f e g) }

-- The rows are those of the children of two refs.
module _ (s ps ws : Words) (a z : ℕ) (x y : Row) (p : Kids s ps ws a x) (q : Kids s ps ws z y) where
  pub rows_even : x.n ≡ y.n → Even x y
  rows_even e = record { same = e; most = p.few; left = p.long; right = q.long }

  -- They are not as many,
  pub rows_uneven : (m : Words) (b : ℕ) (m' : Words) → x.n ≢ y.n → FollowsAll s ps ws m (kids s ps ws a) (map (turn b) (kids s ps ws z)) m' 0
  rows_uneven m b m' d = follows_uneven s ps ws m _ _ m' (λ e. d (sym (count x p.long) ∙ ap length p.are ∙ e ∙ turned (kids s ps ws z) ∙ sym (ap length q.are) ∙ count y q.long))
    where
      count : (o : Row) → o.n ≤ length o.types → length (take o.n o.types) ≡ o.n
      count o l = length-take-le o.n o.types l

      turned : (us : Words) → length (map (turn b) us) ≡ length us
      turned [] = refl
      turned (u ∷ us) = ap suc (turned us)

  -- or they are met.
  pub rows-kids : (m : Words) (b : ℕ) (m' : Words) (r : ℕ) → Paired s ps ws m x y b m' r → FollowsAll s ps ws m (kids s ps ws a) (map (turn b) (kids s ps ws z)) m' r
  rows-kids m b m' r f = subst (λ (us : Words). FollowsAll s ps ws m us (map (turn b) (kids s ps ws z)) m' r) p.are (subst (λ (vs : Words). FollowsAll s ps ws m (take x.n x.types) (map (turn b) vs) m' r) q.are f.all)
