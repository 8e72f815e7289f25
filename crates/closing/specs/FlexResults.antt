-- What the results of the four flex questions come to, from how many there are of each: 21, 25, and the side that counts.
use Rattle.std.specs.Prelude.{ℕ, ◌≡◌, refl, true, false, ◌&&◌, ◌||◌, Option, length}
use Rattle.std.specs.Bool.{then_some}
use Rattle.std.proofs.Math.Path.{sym, ap, ap₂, subst}
use Rattle.std.proofs.Common.{◌∙◌, arith, lt-ltb, le-ltb}
use Rattle.std.proofs.Math.Bool.{Bool, not}
use mathlib.Core.List.{List, [], ◌∷◌}
use Rattle.std.proofs.Math.Dec.{ltb}
use Rattle.rules.specs.Lists.{Words, any}
use Rattle.rules.specs.Layout.{question_type}
use Rattle.rules.specs.Sheet.{at}
use Rattle.rules.specs.Types.{Ty, Types, self_inverse}
use Rattle.rules.specs.Transfer.{type_of_word, export_types}
use Rattle.rules.specs.Run.{Out, refused}
use Rattle.rules.specs.Search.{Result}
use Rattle.rules.specs.Calls.{question_types, is_found, flex_results}
use Rattle.table.specs.Packing.{types_of, Good}
use Rattle.slots.specs.Slots.{Slot}
use Rattle.closing.specs.Impl.{Closed}
use Rattle.closing.specs.Last.{neat_good}
use Rattle.closing.specs.Flex.{First}
use Rattle.closing.specs.FlexEnd.{Caller, flex_joining, flex_closing, ClosesFound, closed_refused}

-- From the counts: some question has more than one result,
unfoldable pub several_of : ℕ → ℕ → ℕ → ℕ → Bool
several_of n0 n1 n2 n3 = ltb 1 n0 || (ltb 1 n1 || (ltb 1 n2 || ltb 1 n3))

-- there are results both ways, of a type that is not its own inverse,
unfoldable pub bi_flexible : ℕ → ℕ → ℕ → ℕ → Bool → Bool
bi_flexible n0 n1 n2 n3 own = (ltb 0 n0 || ltb 0 n1) && (ltb 0 n2 || ltb 0 n3) && not own

-- only the inverted type has results,
unfoldable pub inverted_of : ℕ → ℕ → ℕ → ℕ → Bool
inverted_of n0 n1 n2 n3 = not (ltb 0 n0 || ltb 0 n1) && (ltb 0 n2 || ltb 0 n3)

-- and the one of two questions that counts has some.
unfoldable pub chosen : Bool → ℕ → ℕ → Bool
chosen inv n m = elim inv [ true ↦ ltb 0 m | false ↦ ltb 0 n ]

-- Its results.
unfoldable pub side : Bool → List Result → List Result → List Result
side inv fs gs = elim inv as (λ b. List Result) [ true ↦ gs | false ↦ fs ]

-- The rule, over the caller's types, the type as asked and what was exported of it.
unfoldable pub flex_ending : Words → Types → Ty → List Ty → List Result → List Result → List Result → List Result → Out Words
flex_ending s ts ty e r0 r1 r2 r3 =
    let pos = is_found r0 || is_found r1 in
    let neg = is_found r2 || is_found r3 in
    let self = self_inverse s ts ty in
    let inv = not pos && neg in
    elim (any (λ fs. ltb 1 (length fs)) (r0 ∷ r1 ∷ r2 ∷ r3 ∷ [])) [
      | true ↦ refused 21
      | false ↦ elim (pos && neg && not self) [
        | true ↦ refused 25
        | false ↦ flex_closing s ts ty e inv self (side inv r0 r2) (side inv r1 r3)
      ]
    ]

pub flex_ends : (s q : Words) (r0 r1 r2 r3 : List Result) → flex_results s q (r0 ∷ r1 ∷ r2 ∷ r3 ∷ []) ≡ flex_ending s (question_types q) (type_of_word (at q question_type)) (export_types (question_types q) (type_of_word (at q question_type) ∷ [])).0 r0 r1 r2 r3
unfolding flex_results flex_ending flex_closing flex_joining side
flex_ends s q r0 r1 r2 r3 = refl

-- The four lists, and the results of the side that counts in their slots.
pub record Four (n0 n1 n2 n3 : ℕ) (fork drop : Words) (r0 r1 r2 r3 : List Result) : Type 0 where
  pub size0 : length r0 ≡ n0
  pub size1 : length r1 ≡ n1
  pub size2 : length r2 ≡ n2
  pub size3 : length r3 ≡ n3
  pub fork_slot : (f : Result) (gs : List Result) → side (inverted_of n0 n1 n2 n3) r0 r2 ≡ f ∷ gs → Slot fork 0 f
  pub drop_slot : (f : Result) (gs : List Result) → side (inverted_of n0 n1 n2 n3) r1 r3 ≡ f ∷ gs → Slot drop 0 f

pub record ClosesFlex (s : Words) (ts : Types) (t e n0 n1 n2 n3 : ℕ) (fork drop : Words) (buf out : Words) (r : ℕ) : Type 0 where
  pub closes : (r0 r1 r2 r3 : List Result) → Four n0 n1 n2 n3 fork drop r0 r1 r2 r3 → Closed (flex_ending s ts (type_of_word t) (type_of_word e ∷ []) r0 r1 r2 r3) buf out r

-- In the terms of the call.
pub closes_flex_call : (s q : Words) (ts : Types) (t e n0 n1 n2 n3 : ℕ) (fork drop : Words) (buf out : Words) (r : ℕ) → ClosesFlex s ts t e n0 n1 n2 n3 fork drop buf out r → ts ≡ question_types q → t ≡ at q question_type → type_of_word e ∷ [] ≡ (export_types (question_types q) (type_of_word (at q question_type) ∷ [])).0 → (r0 r1 r2 r3 : List Result) → Four n0 n1 n2 n3 fork drop r0 r1 r2 r3 → Closed (flex_results s q (r0 ∷ r1 ∷ r2 ∷ r3 ∷ [])) buf out r
closes_flex_call s q ts t e n0 n1 n2 n3 fork drop buf out r c ets et ee r0 r1 r2 r3 h = subst (λ (o : Out Words). Closed o buf out r) (ap₂ (λ (x : Types) (y : ℕ). flex_ending s x (type_of_word y) (type_of_word e ∷ []) r0 r1 r2 r3) ets et ∙ ap (λ (z : List Ty). flex_ending s (question_types q) (type_of_word (at q question_type)) z r0 r1 r2 r3) ee ∙ sym (flex_ends s q r0 r1 r2 r3)) (c.closes r0 r1 r2 r3 h)

-- Counts for lists.
found_some : (fs : List Result) (n : ℕ) → length fs ≡ n → is_found fs ≡ ltb 0 n
found_some [] n e = sym (le-ltb 0 n (omega arith))
found_some (f ∷ fs) n e = sym (lt-ltb 0 n (omega arith))

chosen-some : (inv : Bool) (fs gs : List Result) (n m : ℕ) → length fs ≡ n → length gs ≡ m → chosen inv n m ≡ is_found (side inv fs gs)
unfolding chosen side
chosen-some true fs gs n m e h = sym (found_some gs m h)
chosen-some false fs gs n m e h = sym (found_some fs n e)

-- Where there are results, their first stands in the slot.
leads_if : (has : Bool) (ws : Words) (fs : List Result) → has ≡ is_found fs → ((f : Result) (gs : List Result) → fs ≡ f ∷ gs → Slot ws 0 f) → First (then_some has ws) fs
leads_if has ws [] e h = rw e (record { none = λ z. refl; some = λ slot z. cc })
leads_if has ws (f ∷ gs) e h = rw e (record { none = λ z. cc; some = λ slot z. record { first = f; others = gs; is = refl; stands = subst (λ (xs : Words). Slot xs 0 f) (let k : ws ≡ slot = cc in k) (h f gs refl) } })

or_elim : (b c : Bool) → elim b as (λ x. Bool) [ true ↦ true | false ↦ c ] ≡ (b || c)
or_elim true c = refl
or_elim false c = refl

or_false : (b : Bool) → (b || false) ≡ b
or_false true = refl
or_false false = refl

any_more : {A : Type 0} (p : A → Bool) (x : A) (xs : List A) → any p (x ∷ xs) ≡ (p x || any p xs)
unfolding any
any_more p x xs = or_elim (p x) (any p xs)

module _ (n0 n1 n2 n3 : ℕ) (fork drop : Words) (r0 r1 r2 r3 : List Result) (k : Four n0 n1 n2 n3 fork drop r0 r1 r2 r3) where
  several_found : any (λ fs. ltb 1 (length fs)) (r0 ∷ r1 ∷ r2 ∷ r3 ∷ []) ≡ several_of n0 n1 n2 n3
  unfolding several_of any
  several_found =
      any_more p r0 (r1 ∷ r2 ∷ r3 ∷ [])
      ∙ ap₂ (λ x y. ltb 1 x || y) k.size0 (any_more p r1 (r2 ∷ r3 ∷ [])
      ∙ ap₂ (λ x y. ltb 1 x || y) k.size1 (any_more p r2 (r3 ∷ [])
      ∙ ap₂ (λ x y. ltb 1 x || y) k.size2 (any_more p r3 [] ∙ or_false (p r3) ∙ ap (ltb 1) k.size3)))
    where
      p : List Result → Bool
      p fs = ltb 1 (length fs)

  upright-found : (is_found r0 || is_found r1) ≡ (ltb 0 n0 || ltb 0 n1)
  upright-found = ap₂ (λ x y. x || y) (found_some r0 n0 k.size0) (found_some r1 n1 k.size1)

  inverted_found : (is_found r2 || is_found r3) ≡ (ltb 0 n2 || ltb 0 n3)
  inverted_found = ap₂ (λ x y. x || y) (found_some r2 n2 k.size2) (found_some r3 n3 k.size3)

  inverse-found : (not (is_found r0 || is_found r1) && (is_found r2 || is_found r3)) ≡ inverted_of n0 n1 n2 n3
  unfolding inverted_of
  inverse-found = ap₂ (λ x y. not x && y) upright-found inverted_found

  both_found : (own : Bool) → ((is_found r0 || is_found r1) && (is_found r2 || is_found r3) && not own) ≡ bi_flexible n0 n1 n2 n3 own
  unfolding bi_flexible
  both_found own = ap₂ (λ x y. x && y && not own) upright-found inverted_found

  fork_first : First (then_some (chosen (inverted_of n0 n1 n2 n3) n0 n2) fork) (side (inverted_of n0 n1 n2 n3) r0 r2)
  fork_first = leads_if _ fork _ (chosen-some (inverted_of n0 n1 n2 n3) r0 r2 n0 n2 k.size0 k.size2) k.fork_slot

  drop_first : First (then_some (chosen (inverted_of n0 n1 n2 n3) n1 n3) drop) (side (inverted_of n0 n1 n2 n3) r1 r3)
  drop_first = leads_if _ drop _ (chosen-some (inverted_of n0 n1 n2 n3) r1 r3 n1 n3 k.size1 k.size3) k.drop_slot

-- 21.
module _ (s ws : Words) (t e n0 n1 n2 n3 : ℕ) (fork drop : Words) (m : Bool) (em : m ≡ several_of n0 n1 n2 n3) where
  pub flex_several : (buf : Words) → m ≡ true → ClosesFlex s (types_of ws) t e n0 n1 n2 n3 fork drop buf buf 21
  unfolding flex_ending
  flex_several buf h = record { closes = λ r0 r1 r2 r3 k. closed_refused _ buf 21 (λ z. omega arith) (rw (several_found n0 n1 n2 n3 fork drop r0 r1 r2 r3 k ∙ sym em ∙ h, flex_ending)) }

  -- 25.
  module _ (hm : m ≡ false) (own c : Bool) (eo : own ≡ self_inverse s (types_of ws) (type_of_word t)) (ec : c ≡ bi_flexible n0 n1 n2 n3 own) where
    tested : (r0 r1 r2 r3 : List Result) → Four n0 n1 n2 n3 fork drop r0 r1 r2 r3 → ((is_found r0 || is_found r1) && (is_found r2 || is_found r3) && not (self_inverse s (types_of ws) (type_of_word t))) ≡ c
    tested r0 r1 r2 r3 k = both_found n0 n1 n2 n3 fork drop r0 r1 r2 r3 k (self_inverse s (types_of ws) (type_of_word t)) ∙ ap (bi_flexible n0 n1 n2 n3) (sym eo) ∙ sym ec

    pub flex_both_lem : (buf : Words) → c ≡ true → ClosesFlex s (types_of ws) t e n0 n1 n2 n3 fork drop buf buf 25
    unfolding flex_ending
    flex_both_lem buf h = record { closes = λ r0 r1 r2 r3 k. closed_refused _ buf 25 (λ z. omega arith) (rw (several_found n0 n1 n2 n3 fork drop r0 r1 r2 r3 k ∙ sym em ∙ hm, tested r0 r1 r2 r3 k ∙ h, flex_ending)) }

    -- The side that counts.
    pub flex_side : (buf out : Words) (f d : Option Words) (i : Bool) (r : ℕ) → c ≡ false → f ≡ then_some (chosen (inverted_of n0 n1 n2 n3) n0 n2) fork → d ≡ then_some (chosen (inverted_of n0 n1 n2 n3) n1 n3) drop → i ≡ inverted_of n0 n1 n2 n3 → ClosesFound s (types_of ws) t e f d i own buf out r → ClosesFlex s (types_of ws) t e n0 n1 n2 n3 fork drop buf out r
    unfolding flex_ending
    flex_side buf out f d i r h ef ed ei w = record {
      closes = λ r0 r1 r2 r3 k. subst (λ (o : Out Words). Closed o buf out r) (sym (one r0 r1 r2 r3 k))
          (w.closes _ _ (subst (λ (o : Option Words). First o (side (inverted_of n0 n1 n2 n3) r0 r2)) (sym ef) (fork_first n0 n1 n2 n3 fork drop r0 r1 r2 r3 k)) (subst (λ (o : Option Words). First o (side (inverted_of n0 n1 n2 n3) r1 r3)) (sym ed) (drop_first n0 n1 n2 n3 fork drop r0 r1 r2 r3 k)));
    }
      where
        one : (r0 r1 r2 r3 : List Result) → Four n0 n1 n2 n3 fork drop r0 r1 r2 r3 → flex_ending s (types_of ws) (type_of_word t) (type_of_word e ∷ []) r0 r1 r2 r3 ≡ flex_closing s (types_of ws) (type_of_word t) (type_of_word e ∷ []) i own (side (inverted_of n0 n1 n2 n3) r0 r2) (side (inverted_of n0 n1 n2 n3) r1 r3)
        one r0 r1 r2 r3 k = rw (several_found n0 n1 n2 n3 fork drop r0 r1 r2 r3 k ∙ sym em ∙ hm, tested r0 r1 r2 r3 k ∙ h, flex_ending)
            (ap₂ (λ (i o : Bool). flex_closing s (types_of ws) (type_of_word t) (type_of_word e ∷ []) i o (side i r0 r2) (side i r1 r3)) (inverse-found n0 n1 n2 n3 fork drop r0 r1 r2 r3 k) (sym eo)
            ∙ ap (λ (j : Bool). flex_closing s (types_of ws) (type_of_word t) (type_of_word e ∷ []) j own (side (inverted_of n0 n1 n2 n3) r0 r2) (side (inverted_of n0 n1 n2 n3) r1 r3)) (sym ei))

pub caller_good : (ws : Words) (t : ℕ) → Caller ws t → Good ws
caller_good ws t c = neat_good ws c.packed c.neat
