-- `unify`, `unify_types` and `unify_impl_type` as the rules have them, over lists of type words.
use Rattle.std.specs.Prelude.{ℕ, zero, suc, ◌+◌, ◌/◌, ◌<◌, ◌≤◌, ◌≡◌, refl, Bool, true, false, not, ◌&&◌, List, [], ◌∷◌, map, ◌≢◌, eqb, get_or, drop}
use Rattle.std.proofs.Math.Path.{sym, ap, ap₂}
use Rattle.std.proofs.Common.{◌∙◌, subst, le_of_suc-le-suc, not-suc-le-zero, add-one, arith, drop_of_length-le, drop-cons}
use Rattle.std.proofs.Math.ListN.{length}
use Rattle.std.proofs.lemmas.List.{length-map}
use borrow.Author.Tests.{eq-eqb, ne_eqb}
use Rattle.rules.specs.Lists.{Words}
use Rattle.rules.specs.Sheet.{at}
use Rattle.rules.specs.Types.{Ty, Types, success, and, Unified, unify_each, unify_types, unify_in, unify, unify_impl_type, approx_eq}
use Rattle.rules.specs.Types as rules
use Rattle.rules.specs.Transfer.{type_of_word}
use Rattle.rules.specs.Solutions.{AllIn}
use Rattle.rules.specs.RootRank.{child_in}
use Rattle.rules.specs.UnifyKeeps.{unify-acyclic}
use Rattle.rules.specs.UnifyEnds.{Enough, full_enough}
use Rattle.table.specs.Packing.{types_of, Good}
use Rattle.table.specs.Nodes.{types_few}
use Rattle.memo.specs.declared.verdict.UnifyResult.{UnifyResult}
use Rattle.memo.specs.declared.verdict.UnifyResult.TheVariants.{Success, Failure, Indeterminate}
use Rattle.memo.specs.Verdicts.{result_of}
use Rattle.unify.specs.Results.{Unifies, Joined, Stops}
use Rattle.unify.specs.Trying.{Fuelled, Went, exact_fails}
use Rattle.unify.specs.Pairs.{before, before_twice, each_step, and_last, not_exact, stopped, later_exact}

-- Fuel for one level more than there are nodes: c is the count.
pub full_fuelled : (ts : Types) (c : ℕ) (xs : List Ty) → c ≡ length ts → Fuelled (c + 1) ts xs
full_fuelled ts c xs e = record { enough = subst (λ k. Enough k ts xs) (let q : suc (length ts) ≡ c + 1 = omega arith in q) (full_enough ts xs) }

pub unify_full : (w : Bool) (s ws ms us ns : Words) (a b c : ℕ) (v : UnifyResult) → c ≡ length (types_of ws) → Went w s (types_of ws) ms us ns v (unify_in (c + 1) s (types_of ws) (type_of_word a) (type_of_word b)) → Joined w us v (unify s (types_of ws) (type_of_word a) (type_of_word b))
unfolding unify
unify_full w s ws ms us ns a b c v e u = record { packed = u.packed; exact = λ x. record { good = (u.exact x).good; is = (u.exact x).is ∙ full }; fails = λ n. subst (λ (z : Unified). z.0 ≢ success) full (u.fails n) }
  where
    full : unify_in (c + 1) s (types_of ws) (type_of_word a) (type_of_word b) ≡ unify_in (suc (length (types_of ws))) s (types_of ws) (type_of_word a) (type_of_word b)
    full = ap (λ k. unify_in k s (types_of ws) (type_of_word a) (type_of_word b)) (let q : c + 1 ≡ suc (length (types_of ws)) = omega arith in q)

-- What is exact either way, and one rule that comes to another.
pub joined_still : (w : Bool) (us : Words) (v : UnifyResult) (m : Unified) → Unifies us v m → Joined w us v m
joined_still w us v m u = record { packed = u.good.packed; exact = λ x. u; fails = exact_fails us v m u.is }

joined_as : (w : Bool) (us : Words) (v : UnifyResult) (m m' : Unified) → m ≡ m' → Joined w us v m → Joined w us v m'
joined_as w us v m m' e j = record { packed = j.packed; exact = λ x. record { good = (j.exact x).good; is = (j.exact x).is ∙ e }; fails = λ n. subst (λ (z : Unified). z.0 ≢ success) e (j.fails n) }

-- Type words that are nodes of a table.
pub record Nodes (ts : Types) (xs : Words) : Type 0 where
  pub there : AllIn (length ts) (map type_of_word xs)

types_at : (xs : Words) (i : ℕ) → i < length xs → get_or (map type_of_word xs) i (false, 0) ≡ type_of_word (at xs i)
types_at [] i h = absurd (not-suc-le-zero h)
types_at (x ∷ xs) zero h = refl
types_at (x ∷ xs) (suc i) h = types_at xs i (le_of_suc-le-suc h)

node_there : (ts : Types) (xs : Words) (i a : ℕ) → Nodes ts xs → i < length xs → a ≡ at xs i → a / 2 < length ts
unfolding type_of_word
node_there ts xs i a n h e = omega (arith, ap (λ k. k / 2) e, ap (λ (t : Ty). t.1) (types_at xs i h), child_in (length ts) (map type_of_word xs) i n.there (omega (arith, length-map xs type_of_word)))

-- Counts that agree: all pairs are tried.
all_tried : (s ws xs ys : Words) → length xs ≡ length ys → unify_types (unify s) (types_of ws) (map type_of_word xs) (map type_of_word ys) ≡ unify_each (unify s) (types_of ws) (map type_of_word xs) (map type_of_word ys)
unfolding unify_types
all_tried s ws xs ys e = rw (eq-eqb (length (map type_of_word xs)) (length (map type_of_word ys)) (length-map xs type_of_word ∙ e ∙ sym (length-map ys type_of_word)), unify_types)

-- After i pairs: ws is the table at the start, vs the table now, and v the verdict so far.
pub record Going (s ws vs xs ys : Words) (v : UnifyResult) (i : ℕ) : Type 0 where
  pub good : Good vs
  pub len : length (types_of vs) ≡ length (types_of ws)
  pub rest : unify_each (unify s) (types_of ws) (map type_of_word xs) (map type_of_word ys) ≡ before (result_of v) (unify_each (unify s) (types_of vs) (drop i (map type_of_word xs)) (drop i (map type_of_word ys)))

pub going_none : (s ws xs ys : Words) → Good ws → Going s ws ws xs ys Success 0
unfolding before result_of
going_none s ws xs ys g = record { good = g; len = refl; rest = refl }

-- a and b are the words at i.
module _ (s ws vs xs ys : Words) (v : UnifyResult) (i a b : ℕ) (p : Going s ws vs xs ys v i) (nx : Nodes (types_of ws) xs) (ny : Nodes (types_of ws) ys) (el : length xs ≡ length ys) (l : i < length xs) (ea : a ≡ at xs i) (eb : b ≡ at ys i) where
  pub going_left : a / 2 < length (types_of vs)
  going_left = omega (arith, p.len, node_there (types_of ws) xs i a nx l ea)

  pub going_right : b / 2 < length (types_of vs)
  going_right = omega (arith, p.len, node_there (types_of ws) ys i b ny (omega arith) eb)

  first : (zs : Words) (c : ℕ) → i < length zs → c ≡ at zs i → drop i (map type_of_word zs) ≡ type_of_word c ∷ drop (i + 1) (map type_of_word zs)
  first zs c h e = drop-cons (map type_of_word zs) i (false, 0) (omega (arith, length-map zs type_of_word)) ∙ ap₂ (λ (t : Ty) (n : ℕ). t ∷ drop n (map type_of_word zs)) (types_at zs i h ∙ sym (ap type_of_word e)) (sym (add-one i))

  -- The pair at i, and those behind it.
  split : unify_each (unify s) (types_of vs) (drop i (map type_of_word xs)) (drop i (map type_of_word ys)) ≡ before (unify s (types_of vs) (type_of_word a) (type_of_word b)).0 (unify_each (unify s) (unify s (types_of vs) (type_of_word a) (type_of_word b)).1 (drop (i + 1) (map type_of_word xs)) (drop (i + 1) (map type_of_word ys)))
  split = ap₂ (λ (p q : List Ty). unify_each (unify s) (types_of vs) p q) (first xs a l ea) (first ys b (omega arith) eb) ∙ each_step (unify s) (types_of vs) (type_of_word a) (type_of_word b) _ _

  -- It stops here: nothing succeeds as a whole.
  pub going_stop : (w : Bool) (us : Words) (r z : UnifyResult) (h : Bool) → Joined w us r (unify s (types_of vs) (type_of_word a) (type_of_word b)) → result_of z ≡ and (result_of v) (result_of r) → Stops w z h → h ≡ true → Joined w us z (unify_types (unify s) (types_of ws) (map type_of_word xs) (map type_of_word ys))
  unfolding before
  going_stop w us r z h u ez st e = record {
    packed = u.packed;
    exact = λ q. absurd (not_exact w z (st.halts e) q);
    fails = λ n q. stopped (result_of v) (result_of r) _ _ (λ a c. n (ez ∙ ap₂ and a c)) u.fails (sym (ap (λ (o : Unified). o.0) (p.rest ∙ ap (before (result_of v)) split)) ∙ sym (ap (λ (o : Unified). o.0) (all_tried s ws xs ys el)) ∙ q);
  }

  pub going_on : (w : Bool) (us : Words) (r z : UnifyResult) (h : Bool) → Joined w us r (unify s (types_of vs) (type_of_word a) (type_of_word b)) → result_of z ≡ and (result_of v) (result_of r) → Stops w z h → h ≡ false → Going s ws us xs ys z (i + 1)
  unfolding type_of_word
  going_on w us r z h j ew st e = record {
    good = u.good;
    len = ap length (ap (λ (o : Unified). o.1) u.is) ∙ (unify-acyclic s (types_of vs) (type_of_word a) (type_of_word b) p.good.formed p.good.acyclic going_left going_right).len ∙ p.len;
    rest = p.rest ∙ ap (before (result_of v)) (split ∙ sym (ap (λ (o : Unified). before o.0 (unify_each (unify s) o.1 (drop (i + 1) (map type_of_word xs)) (drop (i + 1) (map type_of_word ys)))) u.is)) ∙ before_twice (result_of v) (result_of r) _ ∙ ap (λ (o : rules.UnifyResult). before o (unify_each (unify s) (types_of us) (drop (i + 1) (map type_of_word xs)) (drop (i + 1) (map type_of_word ys)))) (sym ew);
  }
    where
      u : Unifies us r (unify s (types_of vs) (type_of_word a) (type_of_word b))
      u = j.exact (later_exact w v r z ew (st.goes e))

-- None is tried where counts differ; else all are.
pub types_differ : (w : Bool) (s ws xs ys : Words) → Good ws → length xs ≢ length ys → Joined w ws Failure (unify_types (unify s) (types_of ws) (map type_of_word xs) (map type_of_word ys))
unfolding unify_types result_of
types_differ w s ws xs ys g n = joined_still w ws Failure _ (record { good = g; is = sym (rw (ne_eqb (length (map type_of_word xs)) (length (map type_of_word ys)) (λ q. n (sym (length-map xs type_of_word) ∙ q ∙ length-map ys type_of_word)), unify_types)) })

pub going_end : (w : Bool) (s ws vs xs ys : Words) (v : UnifyResult) (i : ℕ) → Going s ws vs xs ys v i → length xs ≡ length ys → length xs ≤ i → Joined w vs v (unify_types (unify s) (types_of ws) (map type_of_word xs) (map type_of_word ys))
unfolding unify_each before
going_end w s ws vs xs ys v i p e h = joined_still w vs v _ (record {
  good = p.good;
  is = sym (all_tried s ws xs ys e ∙ p.rest ∙ ap (λ (l : List Ty). before (result_of v) (unify_each (unify s) (types_of vs) l (drop i (map type_of_word ys)))) (drop_of_length-le (map type_of_word xs) (let q : length (map type_of_word xs) ≤ i = omega (arith, length-map xs type_of_word) in q)) ∙ ap {B = Unified} (λ (z : rules.UnifyResult). (z, types_of vs)) (and_last (result_of v)));
})

-- `ImplType`s: their traits a and b.
module _ (w : Bool) (s ws xs ys : Words) (a b : ℕ) where
  pub impl_left : Good ws → a ≡ 0 → Joined w ws Indeterminate (unify_impl_type s (types_of ws) (a, map type_of_word xs) (b, map type_of_word ys))
  unfolding unify_impl_type result_of
  impl_left g e = joined_still w ws Indeterminate _ (record { good = g; is = sym (rw (eq-eqb a 0 e, unify_impl_type)) })

  pub impl_right : Good ws → a ≢ 0 → b ≡ 0 → Joined w ws Indeterminate (unify_impl_type s (types_of ws) (a, map type_of_word xs) (b, map type_of_word ys))
  unfolding unify_impl_type result_of
  impl_right g n e = joined_still w ws Indeterminate _ (record { good = g; is = sym (rw (ne_eqb a 0 n, eq-eqb b 0 e, unify_impl_type)) })

  pub impl_differ : Good ws → a ≢ 0 → b ≢ 0 → a ≢ b → Joined w ws Failure (unify_impl_type s (types_of ws) (a, map type_of_word xs) (b, map type_of_word ys))
  unfolding unify_impl_type result_of
  impl_differ g n m e = joined_still w ws Failure _ (record { good = g; is = sym (rw (ne_eqb a 0 n, ne_eqb b 0 m, ne_eqb a b e, unify_impl_type)) })

  pub impl_same : (us : Words) (v : UnifyResult) → a ≢ 0 → b ≢ 0 → a ≡ b → Joined w us v (unify_types (unify s) (types_of ws) (map type_of_word xs) (map type_of_word ys)) → Joined w us v (unify_impl_type s (types_of ws) (a, map type_of_word xs) (b, map type_of_word ys))
  unfolding unify_impl_type
  impl_same us v n m e u = joined_as w us v _ _ (sym (rw (ne_eqb a 0 n, ne_eqb b 0 m, eq-eqb a b e, unify_impl_type))) u

-- `approx_eq`.
pub approx_none : (a b : ℕ) → a ≡ 0 → (xs ys : List Ty) → false ≡ approx_eq (a, xs) (b, ys)
unfolding approx_eq
approx_none a b e xs ys = sym (ap (λ (c : Bool). not c && eqb a b) (eq-eqb a 0 e))

pub approx_some : (a b : ℕ) → a ≢ 0 → (xs ys : List Ty) → eqb a b ≡ approx_eq (a, xs) (b, ys)
unfolding approx_eq
approx_some a b n xs ys = sym (ap (λ (c : Bool). not c && eqb a b) (ne_eqb a 0 n))

pub count_few : (ws : Words) (c : ℕ) → c ≡ length (types_of ws) → c ≤ 256
count_few ws c e = omega (arith, types_few ws)
