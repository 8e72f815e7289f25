-- The loop over the pairs of children of two known roots: what is left of it, after so many pairs, comes to the whole.
use Rattle.std.specs.Prelude.{ℕ, ◌+◌, ◌/◌, ◌<◌, ◌≤◌, ◌≡◌, refl, Bool, true, false, List, [], ◌∷◌, map, ◌≢◌, ◌⊎◌, get_or, drop}
use Rattle.std.proofs.Math.Path.{sym, ap, ap₂, subst}
use Rattle.std.proofs.Common.{◌∙◌, true≢false, inl, inr, add-one, arith, drop_of_length-le, drop-cons}
use Rattle.std.proofs.Math.ListN.{length}
use Rattle.std.proofs.lemmas.List.{length-map}
use Rattle.rules.specs.Lists.{Words}
use Rattle.rules.specs.Types.{Ty, TypeState, unknown, known, Types, invert_if, state_at, and, success, failure, indeterminate, Unified, unify_each, unify_in}
use Rattle.rules.specs.Types as rules
use Rattle.rules.specs.Acyclic.{children}
use Rattle.rules.specs.AcyclicLaws.{children_at}
use Rattle.rules.specs.Transfer.{type_of_word}
use Rattle.rules.specs.Answer.{word_of_type}
use Rattle.rules.specs.RootRank.{rank}
use Rattle.rules.specs.Readings.{ranked_readable}
use Rattle.rules.specs.UnifyKeeps.{unify_in-acyclic, unify_in_narrows}
use Rattle.rules.specs.UnifyEnds.{Enough, later_enough}
use Rattle.table.specs.Packing.{types_of, kind_in, kind_at, Good}
use Rattle.table.specs.Nodes.{type_word}
use Rattle.memo.specs.declared.verdict.UnifyResult.{UnifyResult}
use Rattle.memo.specs.declared.verdict.UnifyResult.TheVariants.{Success}
use Rattle.memo.specs.Verdicts.{result_of}
use Rattle.unify.specs.Results.{Unifies, Exact, Stops, KnownRoots}
use Rattle.unify.specs.Trying.{Ready, Fuelled, Noted, Went, noted_still, noted_then, exact_fails, ready-after, failure_not, indeterminate_not}
use Rattle.unify.specs.Kept.{Kept, same, after, unify-kept}
use Rattle.unify.specs.Children.{map_at, child_fuelled, left-child, right_child}

-- A verdict before others.
unfoldable pub before : rules.UnifyResult → Unified → Unified
before v m = (and v m.0, m.1)

and_assoc : (a b c : rules.UnifyResult) → and a (and b c) ≡ and (and a b) c
and_assoc success b c = refl
and_assoc failure b c = refl
and_assoc indeterminate success c = refl
and_assoc indeterminate failure c = refl
and_assoc indeterminate indeterminate success = refl
and_assoc indeterminate indeterminate failure = refl
and_assoc indeterminate indeterminate indeterminate = refl

pub and_last : (a : rules.UnifyResult) → and a success ≡ a
and_last success = refl
and_last failure = refl
and_last indeterminate = refl

-- A verdict that is success as a whole is success in its parts.
pub and_parts : (a b : rules.UnifyResult) → and a b ≡ success → (a ≡ success) × (b ≡ success)
and_parts success b e = (refl, e)
and_parts failure b e = absurd (failure_not e)
and_parts indeterminate success e = absurd (indeterminate_not e)
and_parts indeterminate failure e = absurd (failure_not e)
and_parts indeterminate indeterminate e = absurd (indeterminate_not e)

-- What is not exact does not succeed.
pub not_exact : (w : Bool) (v : UnifyResult) → (w ≡ false) × (result_of v ≢ success) → Exact w v → ⊥
not_exact w v h (inl e) = true≢false (sym e ∙ h.0)
not_exact w v h (inr e) = h.1 e

decide : (r : rules.UnifyResult) → (r ≡ success) ⊎ (r ≢ success)
decide success = inl refl
decide failure = inr failure_not
decide indeterminate = inr indeterminate_not

-- A verdict v, then one that comes to r where the rule's is m, then more: not both v and r are success, so the rule's whole is not.
pub stopped : (v r m n : rules.UnifyResult) → (v ≡ success → r ≡ success → ⊥) → (r ≢ success → m ≢ success) → and v (and m n) ≡ success → ⊥
stopped v r m n d f e =
    let p = and_parts v (and m n) e in
    let q = and_parts m n p.1 in
    elim (decide r) [ inl z ↦ d p.0 z | inr z ↦ f z q.0 ]

-- If all goes on exactly after a pair, the pair was exact.
pub later_exact : (w : Bool) (v r z : UnifyResult) → result_of z ≡ and (result_of v) (result_of r) → Exact w z → Exact w r
later_exact w v r z e (inl q) = inl q
later_exact w v r z e (inr q) = inr (and_parts (result_of v) (result_of r) (sym e ∙ q)).1

pub each_step : (f : Types → Ty → Ty → Unified) (ts : Types) (t t' : Ty) (zs zs' : List Ty) → unify_each f ts (t ∷ zs) (t' ∷ zs') ≡ before (f ts t t').0 (unify_each f (f ts t t').1 zs zs')
unfolding unify_each before
each_step f ts t t' zs zs' = refl

pub before_twice : (v w : rules.UnifyResult) (m : Unified) → before v (before w m) ≡ before (and v w) m
unfolding before
before_twice v w m = ap {B = Unified} (λ (z : rules.UnifyResult). (z, m.1)) (and_assoc v w m.0)

-- After i pairs of the children of x and y, y's inverted if inv: ws is the table at the start with memo ms, vs the table now with memo ns, and v the verdict so far.
pub record Pairs (s ws ms vs ns : Words) (left x y : ℕ) (inv : Bool) (v : UnifyResult) (i : ℕ) : Type 0 where
  pub good : Good vs
  pub ready : Ready s (types_of vs) ns
  pub noted : Noted s (types_of ws) ms (types_of vs) ns
  pub fuelled : Fuelled left (types_of vs) (children_at (types_of ws) x)
  pub kept : Kept (types_of ws) (types_of vs)
  pub len : length (types_of vs) ≡ length (types_of ws)
  pub rest : unify_each (unify_in left s) (types_of ws) (children_at (types_of ws) x) (map (invert_if inv) (children_at (types_of ws) y)) ≡ before (result_of v) (unify_each (unify_in left s) (types_of vs) (drop i (children_at (types_of ws) x)) (drop i (map (invert_if inv) (children_at (types_of ws) y))))

pub pairs_none : (s ws ms : Words) (left x y : ℕ) (inv : Bool) → Good ws → Ready s (types_of ws) ms → Fuelled left (types_of ws) (children_at (types_of ws) x) → Pairs s ws ms ws ms left x y inv Success 0
unfolding before result_of
pairs_none s ws ms left x y inv g r f = record { good = g; ready = r; noted = noted_still s (types_of ws) ms r; fuelled = f; kept = same (types_of ws); len = refl; rest = refl }

known_state : (st : TypeState) → kind_in st ≢ 0 → st ≢ unknown
unfolding kind_in
known_state unknown n e = n refl
known_state (known i k d cs) n e = n (ap kind_in e)

pub same-children : (ts us : Types) (n : ℕ) → Kept ts us → kind_at ts n ≢ 0 → children_at us n ≡ children_at ts n
unfolding children_at kind_at
same-children ts us n k z = ap children (k.stays n (known_state (state_at ts n) z))

-- a and b are the children at i, m the count of both.
module _ (s ws ms vs ns : Words) (left x y m i a b : ℕ) (inv : Bool) (v : UnifyResult) (g : Good ws) (k : KnownRoots (types_of ws) x y) (p : Pairs s ws ms vs ns left x y inv v i) (em : m ≡ length (children_at (types_of ws) x)) (el : length (children_at (types_of ws) x) ≡ length (children_at (types_of ws) y)) (l : i < m)
    (ea : a ≡ word_of_type (get_or (children_at (types_of vs) x) i (false, 0))) (eb : b ≡ word_of_type (invert_if inv (get_or (children_at (types_of vs) y) i (false, 0)))) where
  left_is : a ≡ word_of_type (get_or (children_at (types_of ws) x) i (false, 0))
  left_is = ea ∙ ap (λ (cs : List Ty). word_of_type (get_or cs i (false, 0))) (same-children (types_of ws) (types_of vs) x p.kept k.left_known)

  right_is : b ≡ word_of_type (invert_if inv (get_or (children_at (types_of ws) y) i (false, 0)))
  right_is = eb ∙ ap (λ (cs : List Ty). word_of_type (invert_if inv (get_or cs i (false, 0)))) (same-children (types_of ws) (types_of vs) y p.kept k.right_known)

  pub pair_left : a / 2 < length (types_of vs)
  pair_left = omega (arith, p.len, left-child ws x y g k i a (omega arith) left_is)

  pub pair_right : b / 2 < length (types_of vs)
  pair_right = omega (arith, p.len, right_child ws x y g k inv i b (omega arith) right_is)

  pub pair_fuelled : Fuelled left (types_of vs) (type_of_word a ∷ [])
  pair_fuelled = child_fuelled (types_of vs) left (children_at (types_of ws) x) i a p.fuelled (omega arith) left_is

  first : drop i (children_at (types_of ws) x) ≡ type_of_word a ∷ drop (i + 1) (children_at (types_of ws) x)
  first = drop-cons (children_at (types_of ws) x) i (false, 0) (omega arith) ∙ ap₂ (λ (t : Ty) (n : ℕ). t ∷ drop n (children_at (types_of ws) x)) (sym (ap type_of_word left_is ∙ type_word (get_or (children_at (types_of ws) x) i (false, 0)))) (sym (add-one i))

  second : drop i (map (invert_if inv) (children_at (types_of ws) y)) ≡ type_of_word b ∷ drop (i + 1) (map (invert_if inv) (children_at (types_of ws) y))
  second =
      drop-cons (map (invert_if inv) (children_at (types_of ws) y)) i (false, 0) (omega (arith, length-map (children_at (types_of ws) y) (invert_if inv)))
      ∙ ap₂ (λ (t : Ty) (n : ℕ). t ∷ drop n (map (invert_if inv) (children_at (types_of ws) y)))
      (map_at inv (children_at (types_of ws) y) i (omega arith) ∙ sym (ap type_of_word right_is ∙ type_word (invert_if inv (get_or (children_at (types_of ws) y) i (false, 0))))) (sym (add-one i))

  -- The pair at i, and those behind it.
  split : unify_each (unify_in left s) (types_of vs) (drop i (children_at (types_of ws) x)) (drop i (map (invert_if inv) (children_at (types_of ws) y))) ≡ before (unify_in left s (types_of vs) (type_of_word a) (type_of_word b)).0 (unify_each (unify_in left s) (unify_in left s (types_of vs) (type_of_word a) (type_of_word b)).1 (drop (i + 1) (children_at (types_of ws) x)) (drop (i + 1) (map (invert_if inv) (children_at (types_of ws) y))))
  split = ap₂ (λ (p q : List Ty). unify_each (unify_in left s) (types_of vs) p q) first second ∙ each_step (unify_in left s) (types_of vs) (type_of_word a) (type_of_word b) _ _

  -- It stops here: nothing succeeds as a whole.
  pub pairs_stop : (w : Bool) (us os : Words) (r z : UnifyResult) (h : Bool) → Went w s (types_of vs) ns us os r (unify_in left s (types_of vs) (type_of_word a) (type_of_word b)) → result_of z ≡ and (result_of v) (result_of r) → Stops w z h → h ≡ true → Went w s (types_of ws) ms us os z (unify_each (unify_in left s) (types_of ws) (children_at (types_of ws) x) (map (invert_if inv) (children_at (types_of ws) y)))
  unfolding before
  pairs_stop w us os r z h u ez st e = record {
    packed = u.packed;
    exact = λ q. absurd (not_exact w z (st.halts e) q);
    fails = λ n q. stopped (result_of v) (result_of r) _ _ (λ a c. n (ez ∙ ap₂ and a c)) u.fails (sym (ap (λ (o : Unified). o.0) (p.rest ∙ ap (before (result_of v)) split)) ∙ q);
    noted = noted_then s (types_of ws) (types_of vs) (types_of us) ms ns os p.noted u.noted;
  }

  pub pairs_more : (w : Bool) (us os : Words) (r z : UnifyResult) (h : Bool) → Went w s (types_of vs) ns us os r (unify_in left s (types_of vs) (type_of_word a) (type_of_word b)) → result_of z ≡ and (result_of v) (result_of r) → Stops w z h → h ≡ false → length os ≡ length ns → Pairs s ws ms us os left x y inv z (i + 1)
  unfolding type_of_word
  pairs_more w us os r z h went ew st go_on kept = record {
    good = u.good;
    ready = ready-after s (types_of vs) (types_of us) ns os p.ready kept went.noted;
    noted = noted_then s (types_of ws) (types_of vs) (types_of us) ms ns os p.noted went.noted;
    fuelled = record { enough = subst (λ (l : Types). Enough left l (children_at (types_of ws) x)) (sym end) (later_enough left (types_of vs) _ (children_at (types_of ws) x) (unify_in_narrows left s (types_of vs) (type_of_word a) (type_of_word b) p.good.formed pair_left pair_right (ranked_readable (types_of vs) p.good.formed (rank (types_of vs)) p.good.acyclic)) p.fuelled.enough) };
    kept = after (types_of ws) (types_of vs) (types_of us) p.kept (subst (Kept (types_of vs)) (sym end) (unify-kept left s (types_of vs) (type_of_word a) (type_of_word b)));
    len = ap length end ∙ (unify_in-acyclic left s (types_of vs) (type_of_word a) (type_of_word b) p.good.formed p.good.acyclic pair_left pair_right).len ∙ p.len;
    rest = p.rest ∙ ap (before (result_of v)) (split ∙ sym (ap (λ (o : Unified). before o.0 (unify_each (unify_in left s) o.1 (drop (i + 1) (children_at (types_of ws) x)) (drop (i + 1) (map (invert_if inv) (children_at (types_of ws) y))))) u.is)) ∙ before_twice (result_of v) (result_of r) _ ∙ ap (λ (o : rules.UnifyResult). before o (unify_each (unify_in left s) (types_of us) (drop (i + 1) (children_at (types_of ws) x)) (drop (i + 1) (map (invert_if inv) (children_at (types_of ws) y))))) (sym ew);
  }
    where
      u : Unifies us r (unify_in left s (types_of vs) (type_of_word a) (type_of_word b))
      u = went.exact (later_exact w v r z ew (st.goes go_on))

      end : types_of us ≡ (unify_in left s (types_of vs) (type_of_word a) (type_of_word b)).1
      end = ap (λ (z : Unified). z.1) u.is

pub pairs_end : (w : Bool) (s ws ms vs ns : Words) (left x y m i : ℕ) (inv : Bool) (v : UnifyResult) → Pairs s ws ms vs ns left x y inv v i → m ≡ length (children_at (types_of ws) x) → m ≤ i → Went w s (types_of ws) ms vs ns v (unify_each (unify_in left s) (types_of ws) (children_at (types_of ws) x) (map (invert_if inv) (children_at (types_of ws) y)))
unfolding unify_each before
pairs_end w s ws ms vs ns left x y m i inv v p e h = record {
  packed = p.good.packed;
  exact = λ q. record { good = p.good; is = all };
  fails = exact_fails vs v _ all;
  noted = p.noted;
}
  where
    all : ◌≡◌ {A = Unified} (result_of v, types_of vs) (unify_each (unify_in left s) (types_of ws) (children_at (types_of ws) x) (map (invert_if inv) (children_at (types_of ws) y)))
    all = sym (p.rest ∙ ap (λ (l : List Ty). before (result_of v) (unify_each (unify_in left s) (types_of vs) l (drop i (map (invert_if inv) (children_at (types_of ws) y))))) (drop_of_length-le (children_at (types_of ws) x) (let q : length (children_at (types_of ws) x) ≤ i = omega arith in q)) ∙ ap {B = Unified} (λ (z : rules.UnifyResult). (z, types_of vs)) (and_last (result_of v)))
