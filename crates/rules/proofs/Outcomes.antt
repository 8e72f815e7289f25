-- Numbers and counts of a call after its checks: the search with its outcome (document 01, "Turning a call away", 14 to 26).
use Rattle.std.specs.Prelude.{ℕ, ◌+◌, ◌≤◌, ◌<◌, max, ◌≡◌, Bool, true, List, ◌↔◌, ◌⊎◌, ltb}
use Rattle.std.proofs.Math.Path.{refl, ap}
use Rattle.std.proofs.Common.{sym, ◌∙◌, inl}
use Rattle.std.proofs.Math.Bool.{false}
use Rattle.std.proofs.Math.Logic.{inr}
use Rattle.std.proofs.Math.Option.{Option, none, some, some-injective, none-ne-some}
use native.Mathlib.Omega.{arith}
use Rattle.rules.specs.Lists.{Words}
use Rattle.rules.specs.Limits.{limit_depth}
use Rattle.rules.specs.Run.{Out, got, refused, within}
use Rattle.rules.specs.RunLaws.{same_number, above, at_most, Says, said, Refuses, free_stops, Between}
use Rattle.rules.proofs.RunLaws.{rises_asking, rises_to, passes, within_stops}
use Rattle.rules.specs.Search.{Result, Finder}
use Rattle.rules.specs.Stops.{In_search}
use Rattle.rules.proofs.Stops.{question_stops}
use Rattle.rules.specs.Calls.{impl_search, impl_outcome, impl_free, impl_within, in_turn, flex_searches, flex_results, flex_outcome, unset, plainly, flex_free, flex_within}
use Rattle.rules.specs.FlexLaws.{All_stop, turn_stops}
use Rattle.rules.proofs.FlexLaws.{turn_asking, turn_to, turn_refused}
use Rattle.rules.specs.Outcomes.{Counted, impl_outcome_says, Outcomes, flex_results_say, Impl_late, Flex_late, unset_numbers, outcomes_apart, says_late, Searched, asks_one, all_ask, Flex_free_late}

all_stop : (a : Finder) (q : Words) → All_stop (flex_searches a q)
unfolding flex_searches
all_stop a q = (question_stops limit_depth a false _ _, (question_stops limit_depth a false _ _, (question_stops limit_depth a false _ _, (question_stops limit_depth a false _ _, tt))))

module _ (L : ℕ) (a : Finder) (c : ℕ) where
  pub impl_searched : (basic : Bool) (q : Words) → Searched Impl_late L 1 c (impl_within (ltb L) a basic q c)
  unfolding impl_within impl_search
  impl_searched basic q = record {
    says = says;
    leaves = λ n e b. absurd (omega (arith, said Impl_late Counted _ says n e));
    reached = λ h. rises_asking (ltb L) (impl_search a basic q) c (asks_one limit_depth a basic _ _);
    most = rises_to L (impl_search a basic q) c;
  }
    where
      says : Says Impl_late Counted (impl_within (ltb L) a basic q c).0
      says = impl_outcome_says a.sheet q _ (within_stops In_search (omega arith) (ltb L) (impl_search a basic q) c (question_stops limit_depth a basic _ _))

  -- 18 by count: a search that passes the limit.
  pub impl_passed : (basic : Bool) (q : Words) → L < (impl_within (ltb L) a basic q c).1 → impl_within (ltb L) a basic q c ≡ (refused 18, max L c + 1)
  unfolding impl_within impl_search impl_outcome
  impl_passed basic q l = ap (λ r. (impl_outcome a.sheet q r.0, r.1)) (passes L (impl_search a basic q) c (asks_one limit_depth a basic _ _) l)

  module _ (q : Words) where
    -- the four in turn, and their outcome
    four : Out (List (List Result)) × ℕ
    four = in_turn (within (ltb L)) (flex_searches a q) c

    ended : Out Words × ℕ
    ended = (flex_outcome a.sheet q (ltb L four.1) four.0, four.1)

    -- 24 with the count above the limit, 14 to 17, 21, 25, 26 or an answer with the count at the limit or below.
    abbrev Four_say : Type 0
    Four_say = ((ended.0 ≡ refused 24) × (L < ended.1)) ⊎ (Says Outcomes Counted ended.0 × (ended.1 ≤ L))

    four_say : Four_say
    unfolding ended four flex_outcome
    four_say = go (ltb L four.1) refl four.0 refl
      where
        numbers : Refuses (Between 14 17) four.0
        numbers = turn_stops (within (ltb L)) (λ r d h. within_stops In_search (omega arith) (ltb L) r d h) (flex_searches a q) c (all_stop a q)

        go : (b : Bool) → ltb L four.1 ≡ b → (o : Out (List (List Result))) → four.0 ≡ o → Four_say
        go b u (refused n) e = inr (rw e (inl (rw e at numbers)), turn_refused L (flex_searches a q) c (all_ask a q) n e)
        go true u (got rs) e = inl (rw (e, u), above L four.1 u)
        go false u (got rs) e = inr (rw (e, u) (flex_results_say a.sheet q rs), at_most L four.1 u)

    four_rise : c < ended.1
    unfolding ended four flex_searches
    four_rise = turn_asking (ltb L) _ _ c (asks_one limit_depth a false _ _)

    four_searched : Searched Flex_late L 4 c ended
    unfolding ended four flex_searches
    four_searched = record {
      says = says four_say;
      leaves = λ n e b. absurd (apart four_say n e b);
      reached = λ h. four_rise;
      most = turn_to L (flex_searches a q) c;
    }
      where
        says : Four_say → Says Flex_late Counted ended.0
        says (inl h) = rw h.0 (inr (omega arith))
        says (inr h) = says_late ended.0 h.0

        apart : Four_say → (n : ℕ) → ended.0 ≡ refused n → ¬ Between 22 23 n
        apart (inl h) n e b = omega (arith, same_number 24 n (sym h.0 ∙ e))
        apart (inr h) n e b = outcomes_apart n (said Outcomes Counted ended.0 h.0 n e) (omega arith)

    four_passed : (ended.0 ≡ refused 24) ↔ (L < ended.1)
    unfolding ended
    four_passed = (λ e. forth four_say e, λ l. back four_say l)
      where
        forth : Four_say → ended.0 ≡ refused 24 → L < ended.1
        forth (inl h) e = h.1
        forth (inr h) e = absurd (outcomes_apart 24 (said Outcomes Counted ended.0 h.0 24 e) (omega arith))

        back : Four_say → L < ended.1 → ended.0 ≡ refused 24
        back (inl h) l = h.0
        back (inr h) l = absurd (omega arith)

    -- The flex call after the checks.
    pub flex_searched : Searched Flex_late L 4 c (flex_within (ltb L) a q c)
    unfolding flex_within four ended
    flex_searched = go (unset a.sheet) refl
      where
        before : (n : ℕ) → Between 22 23 n → Searched Flex_late L 4 c (refused n, c)
        before n b = record { says = inr (omega arith); leaves = λ m e k. refl; reached = λ h. absurd (h n refl b); most = omega arith }

        go : (o : Option ℕ) → unset a.sheet ≡ o → Searched Flex_late L 4 c (flex_within (ltb L) a q c)
        go (some n) e = rw (e, flex_within) (before n (unset_numbers a.sheet n e))
        go none e = rw (e, flex_within) four_searched

    -- 24 exactly if a question was asked and the count ends above the limit.
    pub flex_passed : ((flex_within (ltb L) a q c).0 ≡ refused 24) ↔ ((L < (flex_within (ltb L) a q c).1) × (c < (flex_within (ltb L) a q c).1))
    unfolding flex_within four ended
    flex_passed = go (unset a.sheet) refl
      where
        go : (o : Option ℕ) → unset a.sheet ≡ o → ((flex_within (ltb L) a q c).0 ≡ refused 24) ↔ ((L < (flex_within (ltb L) a q c).1) × (c < (flex_within (ltb L) a q c).1))
        go (some n) e = rw (e, flex_within) (λ k. absurd (omega (arith, same_number n 24 k, unset_numbers a.sheet n e)), λ k. absurd (omega arith))
        go none e = rw (e, flex_within) (λ k. (four_passed.0 k, four_rise), λ k. four_passed.1 k.0)

    -- 22 and 23 come before the search, where Fork or Drop is unset.
    pub flex_before : (n : ℕ) → (((flex_within (ltb L) a q c).0 ≡ refused n) × Between 22 23 n) ↔ (unset a.sheet ≡ some n)
    unfolding flex_within four ended
    flex_before n = go (unset a.sheet) refl
      where
        go : (o : Option ℕ) → unset a.sheet ≡ o → (((flex_within (ltb L) a q c).0 ≡ refused n) × Between 22 23 n) ↔ (o ≡ some n)
        go (some m) e = rw (e, flex_within) (λ k. ap some (same_number m n k.0), λ k. (ap refused (some-injective _ _ k), unset_numbers a.sheet n (e ∙ k)))
        go none e = rw (e, flex_within) (λ k. absurd (omega (arith, four_searched.leaves n k.0 k.1, four_rise)), λ k. absurd (none-ne-some n k))

-- Without a step limit: the impl call's search and outcome refuse with 14 to 21, the flex call's with 14 to 17, 21 to 23, 25 and 26.
pub impl_free_says : (a : Finder) (basic : Bool) (q : Words) → Says Impl_late Counted (impl_free a basic q)
unfolding impl_free impl_search
impl_free_says a basic q = impl_outcome_says a.sheet q _ (free_stops In_search (impl_search a basic q) (question_stops limit_depth a basic _ _))

pub flex_free_says : (a : Finder) (q : Words) → Says Flex_free_late Counted (flex_free a q)
unfolding flex_free flex_outcome
flex_free_says a q = go (unset a.sheet) refl
  where
    outcome : (o : Out (List (List Result))) → Refuses (Between 14 17) o → Says Flex_free_late Counted (flex_outcome a.sheet q false o)
    outcome (refused n) h = inr (inl h)
    outcome (got rs) h = widen (flex_results a.sheet q rs) (flex_results_say a.sheet q rs)
      where
        widen : (o : Out Words) → Says Outcomes Counted o → Says Flex_free_late Counted o
        widen (got ws) h = h
        widen (refused n) h = inr h

    go : (o : Option ℕ) → unset a.sheet ≡ o → Says Flex_free_late Counted (flex_free a q)
    go (some n) e = rw (e, flex_free) (inl (unset_numbers a.sheet n e))
    go none e = rw (e, flex_free) (outcome (in_turn plainly (flex_searches a q) tt).0 (turn_stops plainly (λ r u h. free_stops In_search r h) (flex_searches a q) tt (all_stop a q)))
