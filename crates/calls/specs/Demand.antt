-- Demand 3 of the calls as they are: what a call's contract (`Calls`) says, read beside the search with no step limit, which has no count, answer buffer or workspace.
use Rattle.std.specs.Prelude.{ℕ, ◌+◌, ◌≤◌, ◌<◌, ◌≡◌, refl, ◌↔◌, Result, Bool, true, false, not, T, leb, length}
use Rattle.std.proofs.Common.{sym, ◌∙◌, ap, subst, arith, leb→le}
use Rattle.std.proofs.Math.Dec.{nleb→lt}
use Rattle.rules.specs.Lists.{Words}
use Rattle.rules.specs.Limits.{limit_steps}
use Rattle.rules.specs.Run.{Out, got, refused}
use Rattle.rules.specs.Calls.{free_find_impl, free_find_flex, try_find_impl, find_flex, answer_after}
use Rattle.rules.specs.Limit.{asked_find_impl, asked_find_flex, Enters, Demand3_one}
use Rattle.rules.proofs.Limit.{one-try_find_impl, one-find_flex}
use Rattle.checks.specs.Numbers.{finder}
use Rattle.refusals.specs.declared.Stopped.{Stopped}
use Rattle.calls.specs.Outcomes.{Outcome, outcome_of, told, number_of, count_of, Calls}

-- A run from start count c that came to the outcome r and left the answer buffer as it is after, where the search with no step limit comes to `free` after `asked` questions:
pub record Demanded (free : Out Words) (asked c : ℕ) (answer answer' : Words) (r : Outcome) : Type 0 where
  -- if it ends at 2,000 or below, it gives exactly the answer of that search, number and words,
  pub outcome : count_of r ≤ 2000 → r ≡ outcome_of (free, c + asked)
  pub words : count_of r ≤ 2000 → answer' ≡ answer_after free answer
  -- and ends at start + the number of questions;
  pub end : count_of r ≤ 2000 → count_of r ≡ c + asked
  -- it ends above 2,000 exactly when that sum is above 2,000.
  pub above : (2000 < count_of r) ↔ (2000 < c + asked)

count_is : (o : Out Words × ℕ) → count_of (outcome_of o) ≡ o.1
unfolding count_of outcome_of
count_is o = go o.0
  where
    go : (x : Out Words) → count_of (outcome_of (x, o.1)) ≡ o.1
    go (got ws) = refl
    go (refused n) = refl

demanded : (o : Out Words × ℕ) (free : Out Words) (asked c : ℕ) (answer answer' work work' : Words) (r : Result ℕ Stopped) → Demand3_one 2000 free asked c o → Calls o answer answer' work work' r → Demanded free asked c answer answer' (told r)
demanded o free asked c answer answer' work work' r d k = record {
  outcome = λ h. k.outcome ∙ ap outcome_of (λ i. (d.answer (low h) i, d.end (low h) i));
  words = λ h. k.answer_is ∙ ap (λ (x : Out Words). answer_after x answer) (d.answer (low h));
  end = λ h. count ∙ d.end (low h);
  above = (λ h. d.above.0 (omega (arith, count)), λ h. let z = d.above.1 h in omega (arith, count));
}
  where
    count : count_of (told r) ≡ o.1
    count = ap count_of k.outcome ∙ count_is o

    low : count_of (told r) ≤ 2000 → o.1 ≤ 2000
    low h = omega (arith, count)

-- The impl call, past its entry checks: `free` and `asked` do not depend on the start count or on what the buffers hold, so any two runs that are alike but for these share them.
pub impl_demand : (s q : Words) (source generics basic c : ℕ) (answer answer' work work' : Words) (r : Result ℕ Stopped) → Enters (finder s source generics) q answer work c →
    Calls (try_find_impl limit_steps (finder s source generics) basic q (length answer) (length work) c) answer answer' work work' r →
    Demanded (free_find_impl (finder s source generics) basic q) (asked_find_impl (finder s source generics) basic q) c answer answer' (told r)
impl_demand s q source generics basic c answer answer' work work' r past k = demanded _ _ _ c answer answer' work work' r (one-try_find_impl (finder s source generics) q answer work c past basic) k

-- The flex call.
pub flex_demand : (s q : Words) (source generics c : ℕ) (answer answer' work work' : Words) (r : Result ℕ Stopped) → Enters (finder s source generics) q answer work c →
    Calls (find_flex limit_steps (finder s source generics) q (length answer) (length work) c) answer answer' work work' r →
    Demanded (free_find_flex (finder s source generics) q) (asked_find_flex (finder s source generics) q) c answer answer' (told r)
flex_demand s q source generics c answer answer' work work' r past k = demanded _ _ _ c answer answer' work work' r (one-find_flex (finder s source generics) q answer work c past) k

-- Two runs that share `free` and `asked`, of which the first starts with at least as many steps spent and ends at 2,000 or below: the second ends there too,
-- both have the same number, both answer buffers get the same words, and each ends at its own start + the number of questions.
pub record Alike (free : Out Words) (asked c c' : ℕ) (answer answer₁ answer' answer'₁ : Words) (r r' : Outcome) : Type 0 where
  pub ends : count_of r' ≤ 2000
  pub number : number_of r ≡ number_of r'
  pub first : answer₁ ≡ answer_after free answer
  pub second : answer'₁ ≡ answer_after free answer'
  pub counts : (count_of r ≡ c + asked) × (count_of r' ≡ c' + asked)

number_is : (x : Out Words) (c c' : ℕ) → number_of (outcome_of (x, c)) ≡ number_of (outcome_of (x, c'))
unfolding number_of outcome_of
number_is (got ws) c c' = refl
number_is (refused n) c c' = refl

pub two_runs : (free : Out Words) (asked c c' : ℕ) (answer answer₁ answer' answer'₁ : Words) (r r' : Outcome) → Demanded free asked c answer answer₁ r → Demanded free asked c' answer' answer'₁ r' → c' ≤ c → count_of r ≤ 2000 → Alike free asked c c' answer answer₁ answer' answer'₁ r r'
two_runs free asked c c' answer answer₁ answer' answer'₁ r r' d e spent low = record {
  ends = under;
  number = ap number_of (d.outcome low) ∙ number_is free (c + asked) (c' + asked) ∙ ap number_of (sym (e.outcome under));
  first = d.words low;
  second = e.words under;
  counts = (d.end low, e.end under);
}
  where
    sum : c + asked ≤ 2000
    sum = omega (arith, d.end low)

    under : count_of r' ≤ 2000
    under = by (leb (count_of r') 2000) refl
      where
        by : (b : Bool) → leb (count_of r') 2000 ≡ b → count_of r' ≤ 2000
        by true p = leb→le (count_of r') 2000 (subst T (sym p) tt)
        by false p = let h : 2000 < count_of r' = nleb→lt (count_of r') 2000 (subst (λ b. T (not b)) (sym p) tt) in absurd (let k = e.above.0 h in omega (arith, k, sum, spent))
