-- The four searches in turn: what the call comes to from the results that are there, and the searches that are left.
-- Results and what is kept of them stand last first.
use Rattle.std.specs.Prelude.{ℕ, zero, suc, ◌+◌, ◌≤◌, ◌<◌, max, ◌≡◌, Bool, true, ◌≢◌, ltb, Ok, Err, length, get_or, set, drop}
use Rattle.std.specs.Prelude.{Result as Tried}
use Rattle.std.proofs.Math.Path.{refl, sym, ap, ap₂, subst}
use Rattle.std.proofs.Common.{◌∙◌, add-one, arith, get_or-set_same, get_or-set_other}
use Rattle.std.proofs.Math.Bool.{false}
use mathlib.Core.List.{List, [], ◌∷◌}
use borrow.Author.Tests.{lt-ltb, le-ltb, eq-eqb, ne_eqb}
use Rattle.rules.specs.Lists.{Words}
use Rattle.rules.specs.Limits.{limit_count}
use Rattle.rules.specs.Layout.{header_fork, header_drop}
use Rattle.rules.specs.Sheet.{at}
use Rattle.rules.specs.Run.{Run, Out, got, refused, within}
use Rattle.rules.specs.Search.{Result}
use Rattle.rules.specs.Search as rules
use Rattle.rules.specs.Calls.{or_nothing, with_first, onward, in_turn, flex_searches, flex_results, flex_outcome, unset, flex_within}
use Rattle.refusals.specs.declared.Refusal.TheVariants.{ForkUnset, DropUnset, FlexSearchLimit}
use Rattle.refusals.specs.declared.Stopped.{Stopped}
use Rattle.refusals.specs.Numbers.{number_of, number_some, end_number, end_count}
use Rattle.slots.specs.declared.Results.{Results}
use Rattle.slots.specs.Turns.{Asked, count_of}
use Rattle.closing.specs.Impl.{Closed}
use Rattle.closing.specs.FlexEnd.{closed_refused}
use Rattle.closing.specs.Ended.{Ends}
use Rattle.flexing.specs.Asked.{flex_question, the_searches}
use Rattle.flexing.specs.Kept.{Holding, Turned}

-- Results in front of those of later questions.
unfoldable pub before : List (List Result) → Out (List (List Result)) → Out (List (List Result))
before [] o = o
before (fs ∷ back) o = before back (with_first fs o)

-- What the call comes to.
unfoldable pub flex_rest : (ℕ → Bool) → rules.Finder → Words → List (List Result) → List (Run (List Result)) → ℕ → Out Words × ℕ
flex_rest over a q back ss c =
    let r = in_turn (within over) ss c in
    (flex_outcome a.sheet q (over r.1) (before back r.0), r.1)

before_refused : (back : List (List Result)) (n : ℕ) → before back (refused n) ≡ refused n
unfolding before
before_refused [] n = refl
before_refused (fs ∷ back) n = before_refused back n

module _ (over : ℕ → Bool) (a : rules.Finder) (q : Words) (back : List (List Result)) (s : Run (List Result)) (ss : List (Run (List Result))) (c : ℕ) where
  rest_next : (fs : List Result) → or_nothing (within over s c).0 ≡ got fs → flex_rest over a q back (s ∷ ss) c ≡ flex_rest over a q (fs ∷ back) ss (within over s c).1
  unfolding flex_rest in_turn onward before
  rest_next fs e = rw (e, onward)

  rest_stop : (n : ℕ) → or_nothing (within over s c).0 ≡ refused n → flex_rest over a q back (s ∷ ss) c ≡ (refused n, (within over s c).1)
  unfolding flex_rest in_turn onward flex_outcome
  rest_stop n e = ap {B = Out Words × ℕ} (λ (p : Out (List (List Result)) × ℕ). (flex_outcome a.sheet q (over p.1) (before back p.0), p.1)) one ∙ (λ i. (flex_outcome a.sheet q (over (within over s c).1) (before_refused back n i), (within over s c).1))
    where
      one : onward (λ d. in_turn (within over) ss d) (within over s c) ≡ (refused n, (within over s c).1)
      one = rw (e, onward)

-- What is kept of results, of each how many there are and the first.
abbrev pub AllHold : Words → List (ℕ × Words) → List (List Result) → Type 0
AllHold q [] [] = Unit {0}
AllHold q [] (fs ∷ back) = ⊥
AllHold q (k ∷ ks) [] = ⊥
AllHold q (k ∷ ks) (fs ∷ back) = Holding q k.0 k.1 fs × AllHold q ks back

pub record Behind (q : Words) (ks : List (ℕ × Words)) : Type 0 where
  pub back : List (List Result)
  pub holds : AllHold q ks back

-- What is kept of the first i questions, the last first: of each how many results there are and the slot of the first.
abbrev pub kept_of : List ℕ → List Words → ℕ → List (ℕ × Words)
kept_of ns ks zero = []
kept_of ns ks (suc i) = (get_or ns i 0, get_or ks i []) ∷ kept_of ns ks i

kept_on : (ns : List ℕ) (ks : List Words) (i j n : ℕ) (k : Words) → i ≤ j → kept_of (set ns j n) (set ks j k) i ≡ kept_of ns ks i
kept_on ns ks zero j n k h = refl
kept_on ns ks (suc i) j n k h = ap₂ (λ (p : ℕ × Words) (l : List (ℕ × Words)). p ∷ l) (ap₂ (λ (x : ℕ) (y : Words). (x, y)) (get_or-set_other ns j i n 0 (omega arith)) (get_or-set_other ks j i k [] (omega arith))) (kept_on ns ks i j n k (omega arith))

kept_next : (ns : List ℕ) (ks : List Words) (i n : ℕ) (k : Words) → i < length ns → i < length ks → kept_of (set ns i n) (set ks i k) (i + 1) ≡ (n, k) ∷ kept_of ns ks i
kept_next ns ks i n k h l = ap (kept_of (set ns i n) (set ks i k)) (add-one i) ∙ ap₂ (λ (p : ℕ × Words) (l : List (ℕ × Words)). p ∷ l) (ap₂ (λ (x : ℕ) (y : Words). (x, y)) (get_or-set_same ns i n 0 h) (get_or-set_same ks i k [] l)) (kept_on ns ks i i n k (omega arith))

-- The first i questions are asked, and the call is what is left of it from their results.
pub record Going (L : ℕ) (a : rules.Finder) (q : Words) (start : ℕ) (ns : List ℕ) (ks : List Words) (i c : ℕ) : Type 0 where
  pub back : List (List Result)
  pub holds : AllHold q (kept_of ns ks i) back
  pub same : flex_rest (ltb L) a q [] (flex_searches a q) start ≡ flex_rest (ltb L) a q back (drop i (flex_searches a q)) c
  pub low : c ≤ limit_count + i

-- The questions in their order.
abbrev pub question_of : ℕ → ℕ × Bool
question_of i = get_or ((header_fork, false) ∷ (header_drop, false) ∷ (header_fork, true) ∷ (header_drop, true) ∷ []) i (0, false)

left_from : (a : rules.Finder) (q : Words) (i : ℕ) → i < 4 → drop i (flex_searches a q) ≡ flex_question a q (question_of i).0 (question_of i).1 ∷ drop (i + 1) (flex_searches a q)
left_from a q i h = rw (the_searches a q) (go i h)
  where
    go : (i : ℕ) → i < 4 → drop i (flex_question a q header_fork false ∷ flex_question a q header_drop false ∷ flex_question a q header_fork true ∷ flex_question a q header_drop true ∷ []) ≡ flex_question a q (question_of i).0 (question_of i).1 ∷ drop (i + 1) (flex_question a q header_fork false ∷ flex_question a q header_drop false ∷ flex_question a q header_fork true ∷ flex_question a q header_drop true ∷ [])
    go zero h = refl
    go (suc zero) h = refl
    go (suc (suc zero)) h = refl
    go (suc (suc (suc zero))) h = refl
    go (suc (suc (suc (suc i)))) h = absurd (omega arith)

-- One question more.
module _ (L : ℕ) (a : rules.Finder) (q : Words) (start : ℕ) (ns : List ℕ) (ks : List Words) (i c : ℕ) (g : Going L a q start ns ks i c) (l : i < 4) (h : ℕ) (inv : Bool) (eh : h ≡ (question_of i).0) (ei : inv ≡ (question_of i).1) (k : Words) (r : Asked) (d : Turned L a q h inv c k r) where
  abbrev rest : List (Run (List Result))
  rest = drop (i + 1) (flex_searches a q)

  left : drop i (flex_searches a q) ≡ flex_question a q h inv ∷ rest
  left = left_from a q i l ∙ ap₂ (λ (x : ℕ) (y : Bool). flex_question a q x y ∷ rest) (sym eh) (sym ei)

  whole : flex_rest (ltb L) a q [] (flex_searches a q) start ≡ flex_rest (ltb L) a q g.back (flex_question a q h inv ∷ rest) c
  whole = g.same ∙ ap (λ (ss : List (Run (List Result))). flex_rest (ltb L) a q g.back ss c) left

  pub going_next : (t : Results) → r ≡ Ok t → L ≤ limit_count → i < length ns → i < length ks → Going L a q start (set ns i t.n) (set ks i k) (i + 1) t.count
  going_next t e low hn hk =
      let o = d.goes t e in
      let ec : t.count ≡ (within (ltb L) (flex_question a q h inv) c).1 = sym (ap count_of e) ∙ d.count in
      record {
        back = o.results ∷ g.back;
        holds = subst (λ (l : List (ℕ × Words)). AllHold q l (o.results ∷ g.back)) (sym (kept_next ns ks i t.n k hn hk)) (o.holds, g.holds);
        same = whole ∙ rest_next (ltb L) a q g.back (flex_question a q h inv) rest c o.results o.is ∙ ap (λ m. flex_rest (ltb L) a q (o.results ∷ g.back) rest m) (sym ec);
        low = let f : t.count ≤ max L c + 1 = subst (λ m. m ≤ max L c + 1) (ap count_of e) d.low in omega (arith, f, g.low);
      }

  pub going_stops : (buf : Words) (s : Stopped) (v : Tried ℕ Stopped) → r ≡ Err s → v ≡ Err s → Ends (flex_rest (ltb L) a q [] (flex_searches a q) start) buf buf v
  going_stops buf s v e ev =
      let p = whole ∙ rest_stop (ltb L) a q g.back (flex_question a q h inv) rest c (number_of s.refusal) (d.stops s e) in
      rw ev (record {
        closed = closed_refused _ buf (number_of s.refusal) (number_some s.refusal) (ap (λ (o : Out Words × ℕ). o.0) p);
        count = ap count_of (sym e) ∙ d.count ∙ sym (ap (λ (o : Out Words × ℕ). o.1) p);
      })

-- No search is left: 24, or what the results come to.
pub record ClosesAll (s q : Words) (n0 : ℕ) (k0 : Words) (n1 : ℕ) (k1 : Words) (n2 : ℕ) (k2 : Words) (n3 : ℕ) (k3 : Words) (buf out : Words) (r : ℕ) : Type 0 where
  pub at : (r0 r1 r2 r3 : List Result) → Holding q n0 k0 r0 → Holding q n1 k1 r1 → Holding q n2 k2 r2 → Holding q n3 k3 r3 → Closed (flex_results s q (r0 ∷ r1 ∷ r2 ∷ r3 ∷ [])) buf out r

module _ (L : ℕ) (a : rules.Finder) (q : Words) (start : ℕ) (ns : List ℕ) (ks : List Words) (i c : ℕ) (at_end : Going L a q start ns ks i c) (all : i ≡ 4) where
  g : Going L a q start ns ks 4 c
  g = subst (λ j. Going L a q start ns ks j c) all at_end

  -- Four lists of results.
  four : (P : List (List Result) → Type 0) → ((r0 r1 r2 r3 : List Result) → Holding q (get_or ns 0 0) (get_or ks 0 []) r0 → Holding q (get_or ns 1 0) (get_or ks 1 []) r1 → Holding q (get_or ns 2 0) (get_or ks 2 []) r2 → Holding q (get_or ns 3 0) (get_or ks 3 []) r3 → P (r3 ∷ r2 ∷ r1 ∷ r0 ∷ [])) → (back : List (List Result)) → AllHold q (kept_of ns ks 4) back → P back
  four P f [] h = absurd h
  four P f (r3 ∷ []) h = absurd h.1
  four P f (r3 ∷ (r2 ∷ [])) h = absurd h.1.1
  four P f (r3 ∷ (r2 ∷ (r1 ∷ []))) h = absurd h.1.1.1
  four P f (r3 ∷ (r2 ∷ (r1 ∷ (r0 ∷ [])))) h = f r0 r1 r2 r3 h.1.1.1.0 h.1.1.0 h.1.0 h.0
  four P f (r3 ∷ (r2 ∷ (r1 ∷ (r0 ∷ (r ∷ rs))))) h = absurd h.1.1.1.1

  none_left : drop 4 (flex_searches a q) ≡ []
  none_left = ap (λ (ss : List (Run (List Result))). drop 4 ss) (the_searches a q)

  ended : flex_rest (ltb L) a q [] (flex_searches a q) start ≡ flex_rest (ltb L) a q g.back [] c
  ended = g.same ∙ ap (λ (ss : List (Run (List Result))). flex_rest (ltb L) a q g.back ss c) none_left

  pub going_over : (buf : Words) → L < c → Ends (flex_rest (ltb L) a q [] (flex_searches a q) start) buf buf (Err (record { refusal = FlexSearchLimit; count = c }))
  unfolding flex_rest in_turn before flex_outcome
  going_over buf l = subst (λ (o : Out Words × ℕ). Ends o buf buf (Err (record { refusal = FlexSearchLimit; count = c }))) (sym ended) (four (λ back. Ends (flex_rest (ltb L) a q back [] c) buf buf (Err (record { refusal = FlexSearchLimit; count = c }))) (λ r0 r1 r2 r3 h0 h1 h2 h3. record { closed = closed_refused _ buf 24 (λ x. omega arith) (rw (lt-ltb L c l, flex_outcome)); count = refl }) g.back g.holds)

  pub going_closes : (buf out : Words) (v : ℕ) (r : Tried ℕ Stopped) → c ≤ L → ClosesAll a.sheet q (get_or ns 0 0) (get_or ks 0 []) (get_or ns 1 0) (get_or ks 1 []) (get_or ns 2 0) (get_or ks 2 []) (get_or ns 3 0) (get_or ks 3 []) buf out v → end_number r ≡ v → end_count r ≡ c → Ends (flex_rest (ltb L) a q [] (flex_searches a q) start) buf out r
  unfolding flex_rest in_turn before flex_outcome
  going_closes buf out v r l k en ec = subst (λ (o : Out Words × ℕ). Ends o buf out r) (sym ended) (four (λ back. Ends (flex_rest (ltb L) a q back [] c) buf out r) (λ r0 r1 r2 r3 h0 h1 h2 h3. record { closed = subst (λ (o : Out Words). Closed o buf out (end_number r)) (sym (one r0 r1 r2 r3)) (subst (λ i. Closed (flex_results a.sheet q (r0 ∷ r1 ∷ r2 ∷ r3 ∷ [])) buf out i) (sym en) (k.at r0 r1 r2 r3 h0 h1 h2 h3)); count = ec }) g.back g.holds)
    where
      one : (r0 r1 r2 r3 : List Result) → flex_outcome a.sheet q (ltb L c) (got (r0 ∷ r1 ∷ r2 ∷ r3 ∷ [])) ≡ flex_results a.sheet q (r0 ∷ r1 ∷ r2 ∷ r3 ∷ [])
      one r0 r1 r2 r3 = rw (le-ltb L c l, flex_outcome)

-- The whole call: 22, 23, or the four searches.
module _ (L : ℕ) (a : rules.Finder) (q : Words) (c : ℕ) (buf : Words) where
  pub fork_unset : (w : ℕ) → w ≡ at a.sheet header_fork → w ≡ 0 → Ends (flex_within (ltb L) a q c) buf buf (Err (record { refusal = ForkUnset; count = c }))
  unfolding flex_within unset
  fork_unset w e z = record { closed = closed_refused _ buf 22 (λ x. omega arith) (ap (λ (o : Out Words × ℕ). o.0) one); count = sym (ap (λ (o : Out Words × ℕ). o.1) one) }
    where
      one : flex_within (ltb L) a q c ≡ (refused 22, c)
      one = rw (eq-eqb (at a.sheet header_fork) 0 (sym e ∙ z), flex_within)

  module _ (w : ℕ) (e : w ≡ at a.sheet header_fork) (z : w ≢ 0) (v : ℕ) (d : v ≡ at a.sheet header_drop) where
    pub drop-unset : v ≡ 0 → Ends (flex_within (ltb L) a q c) buf buf (Err (record { refusal = DropUnset; count = c }))
    unfolding flex_within unset
    drop-unset y = record { closed = closed_refused _ buf 23 (λ x. omega arith) (ap (λ (o : Out Words × ℕ). o.0) one); count = sym (ap (λ (o : Out Words × ℕ). o.1) one) }
      where
        one : flex_within (ltb L) a q c ≡ (refused 23, c)
        one = rw (ne_eqb (at a.sheet header_fork) 0 (λ x. z (e ∙ x)), eq-eqb (at a.sheet header_drop) 0 (sym d ∙ y), flex_within)

    pub both-set : (out : Words) (r : Tried ℕ Stopped) → v ≢ 0 → Ends (flex_rest (ltb L) a q [] (flex_searches a q) c) buf out r → Ends (flex_within (ltb L) a q c) buf out r
    unfolding flex_within unset flex_rest before
    both-set out r y k = subst (λ (o : Out Words × ℕ). Ends o buf out r) (sym one) k
      where
        one : flex_within (ltb L) a q c ≡ flex_rest (ltb L) a q [] (flex_searches a q) c
        one = rw (ne_eqb (at a.sheet header_fork) 0 (λ x. z (e ∙ x)), ne_eqb (at a.sheet header_drop) 0 (λ x. y (d ∙ x)), flex_within) refl
