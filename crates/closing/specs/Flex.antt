-- The parts of a flex call's end: the last import of a result that may be absent, joins of types that may be, and the answer's trees.
use Rattle.std.specs.Prelude.{ℕ, ◌/◌, ◌≤◌, ◌<◌, Bool, Option, Some, None, Ok, Err, length, take, drop}
use Rattle.std.specs.Prelude.{Result as Tried}
use Rattle.std.proofs.Math.Path.{◌≡◌, refl, sym, ap, subst}
use Rattle.std.proofs.Common.{◌∙◌, ap₂, le_refl, length-drop, take-suc, get_or-take}
use Rattle.std.proofs.Math.Bool.{true, false}
use mathlib.Core.List.{List, [], ◌∷◌, map}
use Rattle.std.proofs.Math.Option.{none}
use native.Mathlib.Omega.{arith}
use Rattle.rules.specs.Lists.{Words}
use Rattle.rules.specs.Limits.{limit_nodes}
use Rattle.rules.specs.Sheet.{at}
use Rattle.rules.specs.Types.{Ty, Types, success, failure, indeterminate, Unified, unify}
use Rattle.rules.specs.Types as rules
use Rattle.rules.specs.Solutions.{AllIn}
use Rattle.rules.specs.Transfer.{type_of_word, import_types}
use Rattle.rules.specs.Run.{got}
use Rattle.rules.specs.Search.{end, Result}
use Rattle.rules.specs.Answer.{answer}
use Rattle.rules.specs.Calls.{first_tree, import_result, unify_first, answer_after}
use Rattle.rules.specs.Neat.{Neat, Brought, Joined, low_none, types_brought, unify_neat}
use Rattle.refusals.specs.declared.Refusal.{Refusal}
use Rattle.refusals.specs.declared.Refusal.TheVariants.{TypesFull}
use Rattle.table.specs.Packing.{types_of, Packed, Good}
use Rattle.transfer.specs.Imports.{types_in, Inside, Imports}
use Rattle.transfer.specs.Callers.{inside_from, imports_brought}
use Rattle.trees.specs.Forests.{Holds}
use Rattle.slots.specs.Slots.{Slot}
use Rattle.slots.specs.Copies.{Filled}
use Rattle.memo.specs.declared.verdict.UnifyResult.{UnifyResult}
use Rattle.memo.specs.declared.verdict.UnifyResult.TheVariants.{Success, Failure, Indeterminate}
use Rattle.memo.specs.Verdicts.{result_of}
use Rattle.unify.specs.Results.{Unifies}
use Rattle.closing.specs.Impl.{holds_behind}
use Rattle.closing.specs.Last.{neat_good}

-- A type word that may be absent.
abbrev pub types_if : Option ℕ → List Ty
types_if None = []
types_if (Some t) = type_of_word t ∷ []

-- The first of a question's results stands in the slot.
pub record Leads (slot : Words) (fs : List Result) : Type 0 where
  pub first : Result
  pub others : List Result
  pub is : fs ≡ first ∷ others
  pub stands : Slot slot 0 first

-- There is a slot where there are results.
pub record First (found : Option Words) (fs : List Result) : Type 0 where
  pub none : found ≡ None → fs ≡ []
  pub some : (slot : Words) → found ≡ Some slot → Leads slot fs

-- What is told of it: it is there, its table is neat, and type word e is a type of it.
pub record Offered (found : Words) (a e : ℕ) : Type 0 where
  pub filled : Filled found a
  pub neat : Neat (types_of (drop a found))
  pub inside : e / 2 < length (types_of (drop a found))

pub record Offers (found : Option Words) (e : ℕ) : Type 0 where
  pub offered : (slot : Words) → found ≡ Some slot → Offered slot 0 e

pub record FilledIf (found : Option Words) : Type 0 where
  pub filled : (slot : Words) → found ≡ Some slot → Filled slot 0

-- The last import of type word e: 14, where there is no room, or a type word where there is a result.
pub record Brings (found : Option Words) (e : ℕ) (ts : Types) (us : Words) (r : Tried (Option ℕ) Refusal) : Type 0 where
  pub packed : Packed us
  pub small : (x : ℕ) → r ≡ Ok (Some x) → x < 512
  pub full : (w : Refusal) → r ≡ Err w → (w ≡ TypesFull) × ((fs : List Result) → First found fs → limit_nodes < length (import_result fs (type_of_word e ∷ []) ts).1)
  pub is : (x : Option ℕ) → r ≡ Ok x → (fs : List Result) → First found fs → import_result fs (type_of_word e ∷ []) ts ≡ (types_if x, types_of us)
  pub brought : (x : Option ℕ) → r ≡ Ok x → Neat ts → Brought ts (types_if x) (types_of us)

-- What such an import leaves, by the rule.
pub first_brought : (found : Option Words) (e : ℕ) (fs : List Result) (ts : Types) → Offers found e → First found fs → Neat ts → Brought ts (import_result fs (type_of_word e ∷ []) ts).0 (import_result fs (type_of_word e ∷ []) ts).1
unfolding import_result type_of_word
first_brought None e fs ts o f n = rw (f.none refl) (record { neat = n; grown = le_refl (length ts); inside = tt })
first_brought (Some slot) e fs ts o f n =
    let k = o.offered slot refl in
    let l = f.some slot refl in
    let h = l.stands.table.is in
    rw l.is (types_brought l.first.0 (subst Neat h k.neat) none ts n (low_none ts) (type_of_word e ∷ []) (subst (λ (us : Types). e / 2 < length us) h k.inside, tt))

-- Nothing is there.
pub brings_none : (found : Option Words) (e : ℕ) (ws : Words) → found ≡ None → Packed ws → Brings found e (types_of ws) ws (Ok None)
unfolding import_result
brings_none found e ws h p = record {
  packed = p;
  small = λ x z. cc;
  full = λ w z. cc;
  is = λ x z fs f. rw (f.none h) (ap {B = List Ty × Types} (λ (o : Option ℕ). (types_if o, types_of ws)) (let k : None ≡ x = cc in k));
  brought = λ x z n. subst (λ (o : Option ℕ). Brought (types_of ws) (types_if o) (types_of ws)) (let k : None ≡ x = cc in k) (record { neat = n; grown = le_refl (length (types_of ws)); inside = tt });
}

-- A result is there.
module _ (found : Option Words) (slot : Words) (e : ℕ) (h : found ≡ Some slot) (o : Offers found e) where
  pub offered_neat : Neat (types_of slot)
  offered_neat = (o.offered slot h).neat

  pub offered_inside : Inside (types_of slot) (take 1 (e ∷ []))
  unfolding types_in type_of_word
  offered_inside = inside_from (types_of slot) 1 (e ∷ []) ((o.offered slot h).inside, tt)

  module _ (ws us vs : Words) (ok : Bool) (i : Imports (import_types (types_of slot) none (types_in 1 (e ∷ [])) (types_of ws)) us (e ∷ []) vs 1 ok) where
    by_rule : (fs : List Result) → First found fs → import_result fs (type_of_word e ∷ []) (types_of ws) ≡ import_types (types_of slot) none (types_in 1 (e ∷ [])) (types_of ws)
    unfolding import_result types_in
    by_rule fs f = let l = f.some slot h in rw l.is (ap (λ (ts : Types). import_types ts none (type_of_word e ∷ []) (types_of ws)) (sym l.stands.table.is))

    pub brings_full : (w : Refusal) → ok ≡ false → w ≡ TypesFull → Brings found e (types_of ws) us (Err w)
    brings_full w z k = record {
      packed = i.replaces.packed;
      small = λ x y. cc;
      full = λ v y. ((let q : v ≡ w = cc in q) ∙ k, λ fs f. subst (λ (x : List Ty × Types). limit_nodes < length x.1) (sym (by_rule fs f)) (i.comes.full z));
      is = λ x y. cc;
      brought = λ x y. cc;
    }

    module _ (z : ok ≡ true) where
      low : at vs 0 < 512
      low = omega (arith, get_or-take 1 vs 0 0 (omega arith), (i.replaces.small z).small 0)

      pub brings_some : (u : ℕ) → u ≡ at vs 0 → Brings found e (types_of ws) us (Ok (Some u))
      unfolding types_in
      brings_some u eu = record {
        packed = i.replaces.packed;
        small = λ x y. let k : u ≡ x = cc in omega (arith, low);
        full = λ w y. cc;
        is = λ x y fs f. by_rule fs f ∙ i.comes.is z ∙ ap {B = List Ty × Types} (λ (l : List Ty). (l, types_of us)) (gone x y);
        brought = λ x y n. subst (λ (l : List Ty). Brought (types_of ws) l (types_of us)) (gone x y) (imports_brought (types_of slot) none (types_of ws) us (e ∷ []) vs 1 ok offered_neat n (low_none (types_of ws)) offered_inside z i);
      }
        where
          gone : (x : Option ℕ) → ◌≡◌ {A = Tried (Option ℕ) Refusal} (Ok (Some u)) (Ok x) → types_in 1 vs ≡ types_if x
          gone x y =
              ap (map type_of_word) (take-suc vs 0 0 (omega (arith, i.replaces.len)))
              ∙ ap (λ w. type_of_word w ∷ []) (sym eu)
              ∙ ap types_if (let k : Some u ≡ x = cc in k)

-- A verdict that is a failure.
unfoldable pub failed : rules.UnifyResult → Bool
failed success = false
failed failure = true
failed indeterminate = false

pub fails_failure : (v : UnifyResult) → v ≡ Failure → true ≡ failed (result_of v)
unfolding failed result_of
fails_failure v e = sym (ap (λ x. failed (result_of x)) e)

pub fails_other : (v : UnifyResult) → ¬ (v ≡ Failure) → false ≡ failed (result_of v)
unfolding failed result_of
fails_other Success h = refl
fails_other Failure h = absurd (h refl)
fails_other Indeterminate h = refl

-- Types that may be absent are joined where both are there.
pub record JoinsFirst (s : Words) (ts : Types) (xs ys : List Ty) (us : Words) (fails : Bool) : Type 0 where
  pub packed : Packed us
  pub is : types_of us ≡ (unify_first s ts xs ys).1
  pub verdict : fails ≡ failed (unify_first s ts xs ys).0
  pub joined : Joined ts (types_of us)

module _ (s ws : Words) (x y : Option ℕ) where
  pub joins_left : x ≡ None → Packed ws → Neat (types_of ws) → JoinsFirst s (types_of ws) (types_if x) (types_if y) ws false
  unfolding unify_first failed
  joins_left e p n = record { packed = p; is = sym (ap (λ (m : Unified). m.1) none_left); verdict = sym (ap (λ (m : Unified). failed m.0) none_left); joined = record { neat = n; len = refl } }
    where
      none_left : ◌≡◌ {A = Unified} (unify_first s (types_of ws) (types_if x) (types_if y)) (success, types_of ws)
      none_left = ap (λ (o : Option ℕ). unify_first s (types_of ws) (types_if o) (types_if y)) e

  pub joins_right : y ≡ None → Packed ws → Neat (types_of ws) → JoinsFirst s (types_of ws) (types_if x) (types_if y) ws false
  unfolding unify_first failed
  joins_right e p n = record { packed = p; is = sym (ap (λ (m : Unified). m.1) (none_right x)); verdict = sym (ap (λ (m : Unified). failed m.0) (none_right x)); joined = record { neat = n; len = refl } }
    where
      none_right : (o : Option ℕ) → ◌≡◌ {A = Unified} (unify_first s (types_of ws) (types_if o) (types_if y)) (success, types_of ws)
      none_right None = refl
      none_right (Some t) = ap (λ (o : Option ℕ). unify_first s (types_of ws) (type_of_word t ∷ []) (types_if o)) e

  -- Both are there.
  module _ (t u : ℕ) (ex : x ≡ Some t) (ey : y ≡ Some u) (hx : AllIn (length (types_of ws)) (types_if x)) (hy : AllIn (length (types_of ws)) (types_if y)) where
    pub joins_x : t / 2 < length (types_of ws)
    unfolding type_of_word
    joins_x = (subst (λ (o : Option ℕ). AllIn (length (types_of ws)) (types_if o)) ex hx).0

    pub joins_y : u / 2 < length (types_of ws)
    unfolding type_of_word
    joins_y = (subst (λ (o : Option ℕ). AllIn (length (types_of ws)) (types_if o)) ey hy).0

    pub joins_both : (us : Words) (v : UnifyResult) (r : Bool) → Neat (types_of ws) → Unifies us v (unify s (types_of ws) (type_of_word t) (type_of_word u)) → r ≡ failed (result_of v) → JoinsFirst s (types_of ws) (types_if x) (types_if y) us r
    unfolding unify_first type_of_word
    joins_both us v r n w e = record {
      packed = w.good.packed;
      is = ap (λ (m : Unified). m.1) both;
      verdict = e ∙ ap (λ (m : Unified). failed m.0) both;
      joined = subst (Joined (types_of ws)) (sym (ap (λ (m : Unified). m.1) w.is)) (unify_neat s (types_of ws) (type_of_word t) (type_of_word u) n joins_x joins_y);
    }
      where
        both : ◌≡◌ {A = Unified} (result_of v, types_of us) (unify_first s (types_of ws) (types_if x) (types_if y))
        both = w.is ∙ sym (ap₂ (λ (p q : Option ℕ). unify_first s (types_of ws) (types_if p) (types_if q)) ex ey)

pub table_good : (ws : Words) → Packed ws → Neat (types_of ws) → Good ws
table_good ws p n = neat_good ws p n

-- The trees of the first result, where there is one, or none.
pub record TreesOf (found : Option Words) (us : Words) : Type 0 where
  pub room : 257 ≤ length us
  pub few : at us 0 ≤ 256
  pub holds : (fs : List Result) → First found fs → Holds us 0 (first_tree fs)

pub trees_room : (found : Option Words) (slot : Words) → found ≡ Some slot → FilledIf found → 1025 ≤ length slot
trees_room found slot h k = omega (arith, (k.filled slot h).slot.room)

pub trees_some : (found : Option Words) (slot us : Words) → found ≡ Some slot → FilledIf found → us ≡ drop 1025 slot → TreesOf found us
unfolding first_tree
trees_some found slot us h k e = rw e (record {
  room = omega (arith, length-drop 1025 slot, f.slot.room);
  few = omega (arith, (holds_behind slot 1025 f.result.1 f.slot.trees).count, f.slot.trees.few);
  holds = λ fs g. let l = g.some slot h in rw l.is (holds_behind slot 1025 l.first.1 l.stands.trees);
})
  where
    f : Filled slot 0
    f = k.filled slot h

pub trees_none : (found : Option Words) (us : Words) → found ≡ None → Holds us 0 end → 257 ≤ length us → TreesOf found us
unfolding first_tree
trees_none found us h d room = record { room = room; few = omega (arith, d.count, d.few); holds = λ fs f. rw (f.none h) d }

-- The answer of a flex call is written.
pub record WritesFlex (fork drop : Option Words) (inv self : Bool) (ts : Types) (n : ℕ) (buf out : Words) : Type 0 where
  pub writes : (fs gs : List Result) → First fork fs → First drop gs → out ≡ answer_after (got (answer (first_tree fs) (first_tree gs) inv self n ts)) buf
