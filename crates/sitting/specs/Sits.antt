-- What a call in a sitting comes to: its number, the count spent after it, and what answer buffer and workspace hold.
use Rattle.std.specs.Prelude.{ℕ, ◌≡◌, refl, Result, Ok, Err}
use Rattle.std.proofs.Common.{sym, ◌∙◌, ap}
use Rattle.rules.specs.Lists.{Words}
use Rattle.rules.specs.Run.{Out, got, refused}
use Rattle.rules.specs.Calls.{answer_after, work_after}
use Rattle.refusals.specs.declared.Stopped.{Stopped}
use Rattle.refusals.specs.Numbers.{end_number, end_count}
use Rattle.calls.specs.Outcomes.{Outcome, outcome_of, told, number_of, count_of, Calls}
use Rattle.sitting.specs.declared.Tally.{Tally}

abbrev pub tally : ℕ → ℕ → Tally
tally n c = record { number = n; count = c }

-- An outcome as two numbers.
unfoldable pub tally_of : Outcome → Tally
tally_of o = tally (number_of o) (count_of o)

-- The number of an outcome of the rules: 0 where it is answered.
unfoldable pub number_in : Out Words → ℕ
number_in o = elim o [ got ws ↦ 0 | refused n ↦ n ]

-- A call that comes to o: number and count, and what the answer buffer and the workspace hold after it.
pub record Sits (o : Out Words × ℕ) (answer answer' work work' : Words) (r : Tally) : Type 0 where
  pub number_is : r.number ≡ number_in o.0
  pub spent_is : r.count ≡ o.1
  pub answer_is : answer' ≡ answer_after o.0 answer
  pub work_is : work' ≡ work_after o.0 work

number_same : (x : Out Words) (c : ℕ) → number_of (outcome_of (x, c)) ≡ number_in x
unfolding number_of outcome_of number_in
number_same (got ws) c = refl
number_same (refused n) c = refl

count_same : (x : Out Words) (c : ℕ) → count_of (outcome_of (x, c)) ≡ c
unfolding count_of outcome_of
count_same (got ws) c = refl
count_same (refused n) c = refl

told_tally : (r : Result ℕ Stopped) → tally_of (told r) ≡ tally (end_number r) (end_count r)
unfolding tally_of number_of count_of
told_tally (Ok c) = refl
told_tally (Err s) = refl

-- A call of `calls` whose outcome is told as two numbers.
pub sits : (o : Out Words × ℕ) (answer answer' work work' : Words) (r : Result ℕ Stopped) (n c : ℕ) → Calls o answer answer' work work' r → n ≡ end_number r → c ≡ end_count r → Sits o answer answer' work work' (tally n c)
unfolding tally_of
sits o answer answer' work work' r n c k en ec = record {
  number_is = en ∙ sym (ap (λ (x : Tally). x.number) (told_tally r)) ∙ ap number_of k.outcome ∙ number_same o.0 o.1;
  spent_is = ec ∙ sym (ap (λ (x : Tally). x.count) (told_tally r)) ∙ ap count_of k.outcome ∙ count_same o.0 o.1;
  answer_is = k.answer_is;
  work_is = k.work_is;
}
