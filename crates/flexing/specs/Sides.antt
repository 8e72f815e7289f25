-- The end of a flex call: the side that counts of the four lists of results, upright or inverted, and what the call's end asks of it.
use Rattle.std.specs.Prelude.{ℕ, zero, suc, ◌/◌, ◌<◌, ◌≡◌, refl, Bool, true, false, ◌&&◌, ◌||◌, ◌≢◌, length}
use Rattle.std.specs.Bool.{then_some}
use Rattle.std.proofs.Common.{sym, ◌∙◌, subst, true≢false, arith, lt-ltb, le-ltb}
use Rattle.std.proofs.Math.Path.{ap, ap₂}
use Rattle.std.proofs.Math.Bool.{not}
use mathlib.Core.List.{List, [], ◌∷◌}
use Rattle.std.proofs.Math.Dec.{ltb}
use Rattle.rules.specs.Lists.{Words}
use Rattle.rules.specs.Sheet.{at}
use Rattle.rules.specs.Types.{Ty, Types}
use Rattle.rules.specs.Transfer.{type_of_word, export_types}
use Rattle.rules.specs.Search.{Result}
use Rattle.rules.specs.Calls.{question_types, flex_results}
use Rattle.table.specs.Packing.{types_of, Becomes}
use Rattle.loading.specs.Exports.{ExportsType}
use Rattle.closing.specs.Impl.{Closed}
use Rattle.closing.specs.Flex.{Offered, Offers}
use Rattle.closing.specs.FlexResults.{inverted_of, chosen, side, Four, ClosesFlex, closes_flex_call}
use Rattle.closing.specs.Searched.{result_offered}
use Rattle.flexing.specs.Asked.{exported}
use Rattle.flexing.specs.Kept.{Holding}
use Rattle.flexing.specs.Rest.{Behind, AllHold, ClosesAll}

-- A result that counts, where there is one, has the type that was exported.
pub record Lends (q : Words) (has : Bool) (kept : Words) : Type 0 where
  pub at : has ≡ true → (e : ℕ) → e / 2 < length (exported q).1 → Offered kept 0 e

-- The results that count are kept here.
pub record SideEnds (s q : Words) (n0 n1 n2 n3 : ℕ) (fork drop buf out : Words) (r : ℕ) : Type 0 where
  pub at : (r0 r1 r2 r3 : List Result) → Four n0 n1 n2 n3 fork drop r0 r1 r2 r3 → Closed (flex_results s q (r0 ∷ r1 ∷ r2 ∷ r3 ∷ [])) buf out r

-- The question's table is loaded, and its type exported.
module _ (q us : Words) (b : Becomes us (question_types q)) (t : ℕ) (et : t ≡ at q 1) where
  module _ (ws : Words) (e : ℕ) (x : ExportsType (types_of us) t ws e) where
    export_is : (exported q) ≡ (type_of_word e ∷ [], types_of ws)
    unfolding exported
    export_is = ap₂ (λ (ts : Types) (i : ℕ). export_types ts (type_of_word i ∷ [])) (sym b.is) (sym et) ∙ x.is

    pub side_offers : (has : Bool) (kept : Words) → Lends q has kept → Offers (then_some has kept) e
    side_offers true kept l = record { offered = λ slot h. subst (λ (ws : Words). Offered ws 0 e) (let k : kept ≡ slot = cc in k) (l.at refl e (subst (λ (o : List Ty × Types). e / 2 < length o.1) (sym export_is) x.inside)) }
    side_offers false kept l = record { offered = λ slot h. cc }

    pub side_closes : (s : Words) (n0 n1 n2 n3 : ℕ) (fork drop buf out : Words) (r : ℕ) → ClosesFlex s (types_of us) t e n0 n1 n2 n3 fork drop buf out r → SideEnds s q n0 n1 n2 n3 fork drop buf out r
    unfolding exported
    side_closes s n0 n1 n2 n3 fork drop buf out r k = record { at = λ r0 r1 r2 r3 h. closes_flex_call s q (types_of us) t e n0 n1 n2 n3 fork drop buf out r k b.is et (sym (ap (λ (o : List Ty × Types). o.0) export_is)) r0 r1 r2 r3 h }

-- What is kept of one list of results.
held_lends : (q : Words) (n : ℕ) (kept : Words) (fs : List Result) (has : Bool) → (has ≡ true → n ≢ 0) → Holding q n kept fs → Lends q has kept
held_lends q n kept [] has z h = record { at = λ x. absurd (z x (sym h.size)) }
held_lends q n kept (f ∷ fs) has z h = record { at = λ x e l. result_offered kept 0 f (exported q).1 (h.first f fs refl) h.keeps.0 e l }

not_none : (n : ℕ) → ltb 0 n ≡ true → n ≢ 0
not_none n e z = true≢false (sym e ∙ le-ltb 0 n (omega arith))

none_of : (n : ℕ) → ltb 0 n ≡ false → n ≡ 0
none_of zero e = refl
none_of (suc n) e = absurd (true≢false (sym (lt-ltb 0 (suc n) (omega arith)) ∙ e))

or_left : (b d : Bool) → (b || d) ≡ false → b ≡ false
or_left true d e = e
or_left false d e = refl

or_right : (b d : Bool) → (b || d) ≡ false → d ≡ false
or_right true d e = absurd (true≢false e)
or_right false d e = e

-- Nothing is found upright.
left-none : (n m : ℕ) (up : Bool) → up ≡ (ltb 0 n || ltb 0 m) → up ≡ false → n ≡ 0
left-none n m up e h = none_of n (or_left (ltb 0 n) (ltb 0 m) (sym e ∙ h))

right_none : (n m : ℕ) (up : Bool) → up ≡ (ltb 0 n || ltb 0 m) → up ≡ false → m ≡ 0
right_none n m up e h = none_of m (or_right (ltb 0 n) (ltb 0 m) (sym e ∙ h))

inverse-some : (inv : Bool) (n m : ℕ) → n ≡ 0 → chosen inv n m ≡ true → m ≢ 0
unfolding chosen
inverse-some true n m z x = not_none m x
inverse-some false n m z x = absurd (not_none n x z)

inverse-side : (inv : Bool) (fs gs : List Result) (f : Result) (hs : List Result) → length fs ≡ 0 → side inv fs gs ≡ f ∷ hs → gs ≡ f ∷ hs
unfolding side
inverse-side true fs gs f hs z x = x
inverse-side false fs gs f hs z x = absurd (omega (arith, ap (λ (l : List Result). length l) x))

-- Something is.
module _ (n0 n1 n2 n3 : ℕ) (up : Bool) (e : up ≡ (ltb 0 n0 || ltb 0 n1)) (h : up ≡ true) where
  upright_not : inverted_of n0 n1 n2 n3 ≡ false
  unfolding inverted_of
  upright_not = ap (λ b. not b && (ltb 0 n2 || ltb 0 n3)) (sym e ∙ h)

  upright-some : (n m : ℕ) → chosen (inverted_of n0 n1 n2 n3) n m ≡ true → n ≢ 0
  unfolding chosen
  upright-some n m x = not_none n (ap (λ b. chosen b n m) (sym upright_not) ∙ x)

-- What is kept of all four.
module _ (q : Words) (n0 : ℕ) (k0 : Words) (n1 : ℕ) (k1 : Words) (n2 : ℕ) (k2 : Words) (n3 : ℕ) (k3 : Words) (b : Behind q ((n3, k3) ∷ (n2, k2) ∷ (n1, k1) ∷ (n0, k0) ∷ [])) where
  lends : (back : List (List Result)) → AllHold q ((n3, k3) ∷ (n2, k2) ∷ (n1, k1) ∷ (n0, k0) ∷ []) back → (has : Bool) → ((has ≡ true → n0 ≢ 0) → Lends q has k0) × ((has ≡ true → n1 ≢ 0) → Lends q has k1) × ((has ≡ true → n2 ≢ 0) → Lends q has k2) × ((has ≡ true → n3 ≢ 0) → Lends q has k3)
  lends [] h has = absurd h
  lends (r3 ∷ []) h has = absurd h.1
  lends (r3 ∷ (r2 ∷ [])) h has = absurd h.1.1
  lends (r3 ∷ (r2 ∷ (r1 ∷ []))) h has = absurd h.1.1.1
  lends (r3 ∷ (r2 ∷ (r1 ∷ (r0 ∷ rs)))) h has = (λ z. held_lends q n0 k0 r0 has z h.1.1.1.0, λ z. held_lends q n1 k1 r1 has z h.1.1.0, λ z. held_lends q n2 k2 r2 has z h.1.0, λ z. held_lends q n3 k3 r3 has z h.0)

  module _ (up : Bool) (e : up ≡ (ltb 0 n0 || ltb 0 n1)) where
    module _ (h : up ≡ true) where
      pub upright_fork : Lends q (chosen (inverted_of n0 n1 n2 n3) n0 n2) k0
      upright_fork = (lends b.back b.holds (chosen (inverted_of n0 n1 n2 n3) n0 n2)).0 (λ x. upright-some n0 n1 n2 n3 up e h n0 n2 x)

      pub upright-drop : Lends q (chosen (inverted_of n0 n1 n2 n3) n1 n3) k1
      upright-drop = (lends b.back b.holds (chosen (inverted_of n0 n1 n2 n3) n1 n3)).1 (λ x. upright-some n0 n1 n2 n3 up e h n1 n3 x)

    module _ (h : up ≡ false) where
      pub inverse_fork : Lends q (chosen (inverted_of n0 n1 n2 n3) n0 n2) k2
      inverse_fork = (lends b.back b.holds (chosen (inverted_of n0 n1 n2 n3) n0 n2)).2 (λ x. inverse-some (inverted_of n0 n1 n2 n3) n0 n2 (left-none n0 n1 up e h) x)

      pub inverse-drop : Lends q (chosen (inverted_of n0 n1 n2 n3) n1 n3) k3
      inverse-drop = (lends b.back b.holds (chosen (inverted_of n0 n1 n2 n3) n1 n3)).3 (λ x. inverse-some (inverted_of n0 n1 n2 n3) n1 n3 (right_none n0 n1 up e h) x)

-- The call ends with the side that counts.
module _ (s q : Words) (n0 : ℕ) (k0 : Words) (n1 : ℕ) (k1 : Words) (n2 : ℕ) (k2 : Words) (n3 : ℕ) (k3 : Words) (up : Bool) (e : up ≡ (ltb 0 n0 || ltb 0 n1)) (buf out : Words) (r : ℕ) where
  pub upright_closes : up ≡ true → SideEnds s q n0 n1 n2 n3 k0 k1 buf out r → ClosesAll s q n0 k0 n1 k1 n2 k2 n3 k3 buf out r
  unfolding side
  upright_closes h w = record {
    at = λ r0 r1 r2 r3 h0 h1 h2 h3. w.at r0 r1 r2 r3 (record {
      size0 = h0.size;
      size1 = h1.size;
      size2 = h2.size;
      size3 = h3.size;
      fork_slot = λ f gs x. h0.first f gs (ap (λ b. side b r0 r2) (sym (upright_not n0 n1 n2 n3 up e h)) ∙ x);
      drop_slot = λ f gs x. h1.first f gs (ap (λ b. side b r1 r3) (sym (upright_not n0 n1 n2 n3 up e h)) ∙ x);
    });
  }

  pub inverse_closes : up ≡ false → SideEnds s q n0 n1 n2 n3 k2 k3 buf out r → ClosesAll s q n0 k0 n1 k1 n2 k2 n3 k3 buf out r
  inverse_closes h w = record {
    at = λ r0 r1 r2 r3 h0 h1 h2 h3. w.at r0 r1 r2 r3 (record {
      size0 = h0.size;
      size1 = h1.size;
      size2 = h2.size;
      size3 = h3.size;
      fork_slot = λ f gs x. h2.first f gs (inverse-side (inverted_of n0 n1 n2 n3) r0 r2 f gs (h0.size ∙ left-none n0 n1 up e h) x);
      drop_slot = λ f gs x. h3.first f gs (inverse-side (inverted_of n0 n1 n2 n3) r1 r3 f gs (h1.size ∙ right_none n0 n1 up e h) x);
    });
  }
