-- What a call comes to, in the code's words: the outcome by its cases, and what answer buffer and workspace hold after it.
use Rattle.std.specs.Prelude.{ℕ, ◌+◌, ◌*◌, ◌≡◌, Result, Ok, Err}
use Rattle.std.proofs.Common.{sym, ◌∙◌, ap, arith}
use Rattle.rules.specs.Lists.{Words}
use Rattle.rules.specs.Run.{Out, got, refused}
use Rattle.rules.specs.Calls.{answer_after, work_after}
use Rattle.refusals.specs.declared.Stopped.{Stopped}
use Rattle.refusals.specs.Numbers.{number_of as refusal_number}

-- What a call comes to: answered, or refused with its number; and the count after.
pub data Outcome : Type 0 where
  Answered : ℕ → Outcome
  Refused : ℕ → ℕ → Outcome

-- The outcome of a call of the rules: answered, or refused with its number; and the count after.
unfoldable pub outcome_of : Out Words × ℕ → Outcome
outcome_of o = elim o.0 [ got ws ↦ Answered o.1 | refused n ↦ Refused n o.1 ]

-- The number and the count of an outcome: 0 where it is answered.
unfoldable pub number_of : Outcome → ℕ
number_of (Answered c) = 0
number_of (Refused n c) = n

unfoldable pub count_of : Outcome → ℕ
count_of (Answered c) = c
count_of (Refused n c) = c

-- The code's, with the number of its refusal.
abbrev pub told : Result ℕ Stopped → Outcome
told (Ok c) = Answered c
told (Err s) = Refused (refusal_number s.refusal) s.count

-- A call that comes to o: its outcome, and what the answer buffer and the workspace hold after it.
pub record Calls (o : Out Words × ℕ) (answer answer' work work' : Words) (r : Result ℕ Stopped) : Type 0 where
  pub outcome : told r ≡ outcome_of o
  pub answer_is : answer' ≡ answer_after o.0 answer
  pub work_is : work' ≡ work_after o.0 work

-- The C interface: the outcome as one number, its count × 2^32 and the number.
unfoldable pub packed_of : Outcome → ℕ
packed_of r = count_of r * 4294967296 + number_of r

pub record PackedCalls (o : Out Words × ℕ) (answer answer' work work' : Words) (r : ℕ) : Type 0 where
  pub packed : r ≡ packed_of (outcome_of o)
  pub answer_is : answer' ≡ answer_after o.0 answer
  pub work_is : work' ≡ work_after o.0 work

pub packed_call : (o : Out Words × ℕ) (answer answer' work work' : Words) (r : Result ℕ Stopped) (n : ℕ) → Calls o answer answer' work work' r → n ≡ packed_of (told r) → PackedCalls o answer answer' work work' n
packed_call o answer answer' work work' r n k e = record { packed = e ∙ ap packed_of k.outcome; answer_is = k.answer_is; work_is = k.work_is }

pub packed_answered : (r : Result ℕ Stopped) (c n : ℕ) → r ≡ Ok c → n ≡ c * 4294967296 → n ≡ packed_of (told r)
unfolding packed_of count_of number_of
packed_answered r c n e k = k ∙ (let z : c * 4294967296 ≡ c * 4294967296 + 0 = omega arith in z) ∙ ap (λ (x : Result ℕ Stopped). packed_of (told x)) (sym e)

pub packed_refused : (r : Result ℕ Stopped) (s : Stopped) (n : ℕ) → r ≡ Err s → n ≡ s.count * 4294967296 + refusal_number s.refusal → n ≡ packed_of (told r)
unfolding packed_of count_of number_of
packed_refused r s n e k = k ∙ ap (λ (x : Result ℕ Stopped). packed_of (told x)) (sym e)
