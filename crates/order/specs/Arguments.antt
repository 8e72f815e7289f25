-- The arguments of a signature and of the question, followed from the table that the signature is brought into.
use Rattle.std.specs.Prelude.{ℕ, zero, suc, ◌+◌, ◌*◌, ◌/◌, ◌%◌, ◌≤◌, ◌<◌, ◌≡◌, Bool, true, false, List, [], ◌∷◌, map, ◌≢◌, length, take, drop, replicate}
use Rattle.std.proofs.Math.Path.{refl, ap, ap₂}
use Rattle.std.proofs.Common.{sym, ◌∙◌, subst, true≢false, ⊎_elim, eqb-true}
use native.Mathlib.Omega.{arith}
use Rattle.std.proofs.Math.Dec.{eqb}
use Rattle.std.proofs.lemmas.List.{length-replicate, get_or-replicate}
use Rattle.rules.specs.Lists.{Words}
use Rattle.rules.specs.Sheet.{at}
use Rattle.rules.specs.Types.{Ty, TypeState, unknown, known, Types, node_at, invert_if, invert_state, find, state_at, size_at, and, larger, join, Unified, unify_each, unify_in, unify}
use Rattle.rules.specs.Transfer.{type_of_word}
use Rattle.rules.specs.Answer.{word_of_type}
use Rattle.rules.specs.WordLaws.{word_past}
use Rattle.rules.specs.Pigeonholes.{lt_or}
use Rattle.rules.specs.Solutions.{rep}
use Rattle.rules.specs.MostGeneral.{Won}
use Rattle.rules.specs.Carried.{unify_in_carries}
use Rattle.rules.specs.UprightRoots.{hung_length}
use Rattle.rules.specs.CommonSides.{xor-none}
use Rattle.table.specs.Packing.{types_of}
use Rattle.queries.specs.declared.Query.{Query}
use Rattle.queries.specs.Queries.{four}
use Rattle.refs.specs.Meaning.{odd}
use Rattle.order.specs.Stage.{Stage}
use Rattle.order.specs.Mirror.{source, source_own, Sound, Mirror}
use Rattle.order.specs.Following.{Follows, FollowsAll, kin_length, follows_more, follows_last}
use Rattle.order.specs.Brought.{own_types, asked_types, Brought}

-- true: the candidate does not unify with the question.
pub record Fails (s ps ws : Words) (p q : Query) (r : Bool) : Type 0 where
  pub unfit : r ≡ true → Brought s ps ws p q → ⊥

pub fails_not : (s ps ws : Words) (p q : Query) → Fails s ps ws p q false
fails_not s ps ws p q = record { unfit = λ e. absurd (true≢false (sym e)) }

-- Notes of nothing are those of the table that the signature is brought into.
module _ (s ps ws : Words) (st : Stage s ps ws) (m : Words) (long : length m ≡ 8192) (none : (j : ℕ) → at m j ≡ 0) where
  upright : (b : Bool) (n : ℕ) → (b, n) ≡ invert_if b (false, n)
  unfolding invert_if
  upright b n = λ i. (sym (xor-none b) i, n)

  root_up : (n : ℕ) → n < length st.table → (node_at st.table (rep st.table n)).up ≡ (false, rep st.table n)
  unfolding rep
  root_up n h =
      let f = st.run.formed n h in
      λ i. (st.run.roots (rep st.table n) f.0 f.1 i, f.1 i)

  same_state : (u : TypeState) → u ≡ invert_state false u
  unfolding invert_state
  same_state unknown = refl
  same_state (known i k d cs) = refl

  twice : (r : ℕ) → source m r ≡ 2 * r
  twice r = source_own m r (none (4096 + r))

  half : (r : ℕ) → source m r / 2 ≡ r
  half r = ap (λ j. j / 2) (twice r) ∙ (let z : 2 * r / 2 ≡ r = omega arith in z)

  even : (r : ℕ) → odd (source m r) ≡ false
  unfolding odd
  even r = ap odd (twice r) ∙ ap (λ j. eqb j 1) (let z : 2 * r % 2 ≡ 0 = omega arith in z)

  mirror_start : Mirror s ps ws st m st.table
  unfolding rep
  mirror_start = record {
    long = long;
    len = refl;
    follow = λ n h. upright _ _ ∙ ap (invert_if (node_at st.table n).up.0) (sym (root_up n h));
    link = λ r l z. absurd (z (none r));
    root = λ r o e. (st.own r o.live o.plain).1;
    size = λ r o e. (let z : size_at st.table (st.to r).1 ≡ size_at st.table (st.to r).1 + at m (2048 + r) = omega (arith, none (2048 + r)) in z);
    state = λ r o e. (subst (Sound s ps ws st) (sym (half r)) o, same_state (state_at st.table (st.to r).1) ∙ ap₂ (λ (b : Bool) (j : ℕ). invert_state b (state_at st.table (st.to j).1)) (sym (even r)) (sym (half r)));
  }

-- All arguments with the fuel that the first has: a join keeps the table's length.
join-length : (N : ℕ) (ts : Types) (a b : Ty) → length ts ≡ N → length (join ts a b) ≡ N
unfolding join
join-length N ts a b e = go (larger ts a b) refl
  where
    go : (c : Bool) → larger ts a b ≡ c → length (join ts a b) ≡ N
    go true q = rw (q, join) (hung_length ts b a ∙ e)
    go false q = rw (q, join) (hung_length ts a b ∙ e)

each_fuel : (N : ℕ) (s : Words) (ts : Types) (cs ds : List Ty) → length ts ≡ N → unify_each (unify s) ts cs ds ≡ unify_each (unify_in (suc N) s) ts cs ds
unfolding unify_each unify
each_fuel N s ts [] ds e = refl
each_fuel N s ts (c ∷ cs) [] e = refl
each_fuel N s ts (c ∷ cs) (d ∷ ds) e =
    let one : unify s ts c d ≡ unify_in (suc N) s ts c d = ap (λ k. unify_in (suc k) s ts c d) e in
    let rest = each_fuel N s (unify_in (suc N) s ts c d).1 cs ds (unify_in_carries (λ us. length us ≡ N) (join-length N) (suc N) s ts c d e) in
    ap {B = Unified} (λ (m : Unified). let r = unify_each (unify s) m.1 cs ds in (and m.0 r.0, r.1)) one
    ∙ ap {B = Unified} (λ (r : Unified). (and (unify_in (suc N) s ts c d).0 r.0, r.1)) rest

-- A clash of the arguments: the rule does not succeed.
followed_clash : (s ps ws : Words) (p q : Query) (m m' : Words) → length m ≡ 8192 → ((j : ℕ) → at m j ≡ 0) → FollowsAll s ps ws m (own_types p q) (asked_types ws q) m' 0 → Brought s ps ws p q → ⊥
followed_clash s ps ws p q m m' long none f b =
    let st = b.stage in
    let even : length b.left ≡ length b.right = kin_length st.to st.live st.table b.left (own_types p q) b.left_kin ∙ map_same q.n p.args q.args ∙ sym (kin_length st.to st.live st.table b.right (asked_types ws q) b.right_kin) in
    (f.at st (suc (length st.table)) st.table st.run (mirror_start s ps ws st m long none) b.left b.right even b.left_kin b.right_kin (subst (λ (u : Unified). Won u.0) (each_fuel (length st.table) s st.table b.left b.right refl) b.won)).0 refl
  where
    mapped : (g : ℕ → ℕ) (xs : Words) → length (map g xs) ≡ length xs
    mapped g [] = refl
    mapped g (x ∷ xs) = ap suc (mapped g xs)

    takes : (n : ℕ) (xs ys : Words) → length xs ≡ length ys → length (take n xs) ≡ length (take n ys)
    takes zero xs ys e = refl
    takes (suc n) [] [] e = refl
    takes (suc n) [] (y ∷ ys) e = absurd (omega (arith, e))
    takes (suc n) (x ∷ xs) [] e = absurd (omega (arith, e))
    takes (suc n) (x ∷ xs) (y ∷ ys) e = ap suc (takes n xs ys (omega (arith, e)))

    map_same : (n : ℕ) (xs ys : Words) → length (map (λ w. 2048 + w % 2048) (take n (four xs))) ≡ length (map (λ w. word_of_type (find (types_of ws) (type_of_word w))) (take n (four ys)))
    map_same n xs ys = mapped _ (take n (four xs)) ∙ takes n (four xs) (four ys) refl ∙ sym (mapped _ (take n (four ys)))

-- k arguments have met: what is found of the others is found of all.
pub record Asked (s ps ws : Words) (p q : Query) (m : Words) (k : ℕ) : Type 0 where
  pub few : q.n ≤ 4
  pub rest : (m' : Words) → FollowsAll s ps ws m (drop k (own_types p q)) (drop k (asked_types ws q)) m' 0 → Brought s ps ws p q → ⊥

asked_none : (s ps ws : Words) (p q : Query) (n : ℕ) → n ≡ 8192 → q.n ≤ 4 → Asked s ps ws p q (replicate n 0) 0
asked_none s ps ws p q n e l = record { few = l; rest = λ m' f. followed_clash s ps ws p q (replicate n 0) m' (length-replicate {A = ℕ} n 0 ∙ e) zeros f }
  where
    zeros : (j : ℕ) → at (replicate n 0) j ≡ 0
    zeros j = ⊎_elim (λ h. get_or-replicate {A = ℕ} n j 0 0 h) (λ h. sym (word_past (replicate n 0) j (omega (arith, length-replicate {A = ℕ} n 0)))) (lt_or j n)

pub asked_start : (s ps ws : Words) (p q : Query) (m : Words) → m ≡ replicate 8192 0 → q.n ≤ 4 → Asked s ps ws p q m 0
asked_start s ps ws p q m e l = subst (λ (w : Words). Asked s ps ws p q w 0) (sym e) (asked_none s ps ws p q 8192 refl l)

map-four : (g : ℕ → ℕ) (n : ℕ) (xs : Words) (k : ℕ) → n ≤ 4 → k < n → drop k (map g (take n (four xs))) ≡ g (at xs k) ∷ drop (k + 1) (map g (take n (four xs)))
map-four g (suc n) xs zero l h = refl
map-four g (suc (suc n)) xs (suc zero) l h = refl
map-four g (suc (suc (suc n))) xs (suc (suc zero)) l h = refl
map-four g (suc (suc (suc (suc n)))) xs (suc (suc (suc zero))) l h = refl
map-four g zero xs k l h = absurd (omega (arith, h))
map-four g (suc zero) xs (suc k) l h = absurd (omega (arith, h))
map-four g (suc (suc zero)) xs (suc (suc k)) l h = absurd (omega (arith, h))
map-four g (suc (suc (suc zero))) xs (suc (suc (suc k))) l h = absurd (omega (arith, h))
map-four g (suc (suc (suc (suc n)))) xs (suc (suc (suc (suc k)))) l h = absurd (omega (arith, l, h))

module _ (s ps ws : Words) (p q : Query) (m : Words) (k : ℕ) (o : Asked s ps ws p q m k) (u a v b : ℕ) (h : k < q.n) (eu : u ≡ at p.args k) (ea : a ≡ 2048 + u % 2048) (ev : v ≡ at q.args k) (eb : b ≡ word_of_type (find (types_of ws) (type_of_word v))) where
  here : (m' : Words) → FollowsAll s ps ws m (a ∷ drop (k + 1) (own_types p q)) (b ∷ drop (k + 1) (asked_types ws q)) m' 0 → Brought s ps ws p q → ⊥
  here m' f = o.rest m'
      (subst (λ (us : Words). FollowsAll s ps ws m us (drop k (asked_types ws q)) m' 0) (sym (map-four (λ w. 2048 + w % 2048) q.n p.args k o.few h ∙ ap (λ i. i ∷ drop (k + 1) (own_types p q)) (sym (ea ∙ ap (λ i. 2048 + i % 2048) eu))))
      (subst (λ (vs : Words). FollowsAll s ps ws m (a ∷ drop (k + 1) (own_types p q)) vs m' 0) (sym (map-four (λ w. word_of_type (find (types_of ws) (type_of_word w))) q.n q.args k o.few h ∙ ap (λ i. i ∷ drop (k + 1) (asked_types ws q)) (sym (eb ∙ ap (λ i. word_of_type (find (types_of ws) (type_of_word i))) ev)))) f))

  pub asked_on : (m' : Words) (r : ℕ) → Follows s ps ws m a b m' r → r ≡ 1 → Asked s ps ws p q m' (k + 1)
  asked_on m' r f e = record { few = o.few; rest = λ m'' g. here m'' (follows_more s ps ws m a b m' r _ _ m'' 0 f e g) }

  pub asked-last : (m' : Words) (r : ℕ) → Follows s ps ws m a b m' r → r ≢ 1 → Fails s ps ws p q (eqb r 0)
  asked-last m' r f n = record { unfit = λ e. let z : r ≡ 0 = eqb-true r 0 e in here m' (follows_last s ps ws m a b m' 0 _ _ (subst (Follows s ps ws m a b m') z f) (λ y. omega (arith, y))) }

  pub asked_clash : (m' : Words) → Follows s ps ws m a b m' 0 → Fails s ps ws p q true
  asked_clash m' f = asked-last m' 0 f (λ e. omega (arith, e))
