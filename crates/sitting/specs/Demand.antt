-- Demand 3 of a sitting: start and end are its spent count before and after. Read from a call's contract (`Sits`) beside the search with no step limit.
use Rattle.std.specs.Prelude.{ℕ, ◌+◌, ◌≤◌, ◌<◌, ◌≡◌, refl, ◌↔◌, Bool, true, false, not, T, leb, length}
use Rattle.std.proofs.Common.{sym, ◌∙◌, ap, subst, arith, leb→le}
use Rattle.std.proofs.Math.Dec.{nleb→lt}
use Rattle.rules.specs.Lists.{Words}
use Rattle.rules.specs.Limits.{limit_steps}
use Rattle.rules.specs.Run.{Out}
use Rattle.rules.specs.Calls.{free_find_impl, free_find_flex, try_find_impl, find_flex, answer_after}
use Rattle.rules.specs.Limit.{asked_find_impl, asked_find_flex, Enters, Demand3_one}
use Rattle.rules.proofs.Limit.{one-try_find_impl, one-find_flex}
use Rattle.checks.specs.Numbers.{finder}
use Rattle.sitting.specs.Sits.{tally, number_in, Sits}

-- A call in a sitting with `before` spent, where the search with no step limit comes to `free` after `asked` questions:
pub record Demanded (free : Out Words) (asked before number after : ℕ) (answer answer' : Words) : Type 0 where
  -- if it leaves 2,000 or below spent, it gives exactly the answer of that search, number and words,
  pub number_is : after ≤ 2000 → number ≡ number_in free
  pub words : after ≤ 2000 → answer' ≡ answer_after free answer
  -- and what is spent is as many as its questions;
  pub end : after ≤ 2000 → after ≡ before + asked
  -- it leaves more than 2,000 spent exactly when that sum is above 2,000.
  pub above : (2000 < after) ↔ (2000 < before + asked)

demanded : (o : Out Words × ℕ) (free : Out Words) (asked before number after : ℕ) (answer answer' work work' : Words) → Demand3_one 2000 free asked before o → Sits o answer answer' work work' (tally number after) → Demanded free asked before number after answer answer'
demanded o free asked before number after answer answer' work work' d x = record {
  number_is = λ h. x.number_is ∙ ap number_in (d.answer (low h));
  words = λ h. x.answer_is ∙ ap (λ (y : Out Words). answer_after y answer) (d.answer (low h));
  end = λ h. x.spent_is ∙ d.end (low h);
  above = (λ h. d.above.0 (omega (arith, x.spent_is)), λ h. let z = d.above.1 h in omega (arith, x.spent_is));
}
  where
    low : after ≤ 2000 → o.1 ≤ 2000
    low h = omega (arith, x.spent_is)

-- The impl call, past its entry checks: `free` and `asked` do not depend on what is spent or on what the buffers hold, so any two calls that are alike but for these share them.
pub impl_demand : (s q : Words) (source generics basic before number after : ℕ) (answer answer' work work' : Words) → Enters (finder s source generics) q answer work before →
    Sits (try_find_impl limit_steps (finder s source generics) basic q (length answer) (length work) before) answer answer' work work' (tally number after) →
    Demanded (free_find_impl (finder s source generics) basic q) (asked_find_impl (finder s source generics) basic q) before number after answer answer'
impl_demand s q source generics basic before number after answer answer' work work' past x = demanded _ _ _ before number after answer answer' work work' (one-try_find_impl (finder s source generics) q answer work before past basic) x

-- The flex call.
pub flex_demand : (s q : Words) (source generics before number after : ℕ) (answer answer' work work' : Words) → Enters (finder s source generics) q answer work before →
    Sits (find_flex limit_steps (finder s source generics) q (length answer) (length work) before) answer answer' work work' (tally number after) →
    Demanded (free_find_flex (finder s source generics) q) (asked_find_flex (finder s source generics) q) before number after answer answer'
flex_demand s q source generics before number after answer answer' work work' past x = demanded _ _ _ before number after answer answer' work work' (one-find_flex (finder s source generics) q answer work before past) x

-- Two calls that share `free` and `asked`, in one sitting or in two, of which the first starts with at least as much spent and leaves 2,000 or below: the second leaves that too,
-- both have the same number, both answer buffers get the same words, and each spends the number of questions.
pub record Alike (free : Out Words) (asked before before' number number' after after' : ℕ) (answer answer₁ answer' answer'₁ : Words) : Type 0 where
  pub ends : after' ≤ 2000
  pub number_same : number ≡ number'
  pub first : answer₁ ≡ answer_after free answer
  pub second : answer'₁ ≡ answer_after free answer'
  pub counts : (after ≡ before + asked) × (after' ≡ before' + asked)

pub two_calls : (free : Out Words) (asked before before' number number' after after' : ℕ) (answer answer₁ answer' answer'₁ : Words) → Demanded free asked before number after answer answer₁ → Demanded free asked before' number' after' answer' answer'₁ → before' ≤ before → after ≤ 2000 → Alike free asked before before' number number' after after' answer answer₁ answer' answer'₁
two_calls free asked before before' number number' after after' answer answer₁ answer' answer'₁ d e spent low = record {
  ends = under;
  number_same = d.number_is low ∙ sym (e.number_is under);
  first = d.words low;
  second = e.words under;
  counts = (d.end low, e.end under);
}
  where
    sum : before + asked ≤ 2000
    sum = omega (arith, d.end low)

    under : after' ≤ 2000
    under = by (leb after' 2000) refl
      where
        by : (b : Bool) → leb after' 2000 ≡ b → after' ≤ 2000
        by true p = leb→le after' 2000 (subst T (sym p) tt)
        by false p = let h : 2000 < after' = nleb→lt after' 2000 (subst (λ b. T (not b)) (sym p) tt) in absurd (let k = e.above.0 h in omega (arith, k, sum, spent))
