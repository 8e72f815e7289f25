-- The whole calls: turned away at entry, or what they come to behind it.
use Rattle.std.specs.Prelude.{ℕ, ◌≤◌, ◌≡◌, refl, Bool, true, false, not, ◌||◌, ◌++◌, T, ltb, Result, Ok, Err, length, get_or, take, drop, replicate}
use Rattle.std.proofs.Math.Path.{sym, ap}
use Rattle.std.proofs.Common.{◌∙◌, append-nil, drop_of_length-le, length-take-le}
use Rattle.std.proofs.Math.Option.{none}
use native.Mathlib.Omega.{arith}
use Rattle.std.proofs.Math.Dec.{nltb→le}
use borrow.Rule.Slice.PartMut.{put_mid, post_of}
use Rattle.rules.specs.Lists.{Words}
use Rattle.rules.specs.Limits.{limit_sheet, limit_question, limit_answer, limit_workspace, limit_count}
use Rattle.rules.specs.Layout.{header_length, question_length}
use Rattle.rules.specs.Run.{Out}
use Rattle.rules.specs.Check.{refusal, of_length, entry}
use Rattle.rules.specs.CheckLaws.{unrefused}
use Rattle.rules.specs.CheckNumbers.{entry_numbers}
use Rattle.rules.specs.Calls.{answer_after}
use Rattle.words.specs.Buffers.{cleared, cleared_front}
use Rattle.checks.specs.Numbers.{number, finder}
use Rattle.refusals.specs.declared.Refusal.{Refusal}
use Rattle.refusals.specs.declared.Stopped.{Stopped}
use Rattle.refusals.specs.Numbers.{number_of, number_some}
use Rattle.closing.specs.Ended.{Ends}
use Rattle.calls.specs.declared.Kind.{Kind}
use Rattle.calls.specs.Outcomes.{Answered, Refused, outcome_of, told, Calls}
use Rattle.calls.specs.Kinds.{checks_of, within_of, whole_of, behind, turned_away, behind_entry, work_cleared}
use Rattle.calls.specs.Behind.{Entered, Behind, number-some, number-none}

-- What is put back before the rest of the workspace.
pub put_back : (n : ℕ) (work ys zs : Words) → n ≤ length work → length ys ≡ n → zs ≡ cleared n ys → put_mid 0 n work zs ≡ replicate n 0 ++ drop n work
put_back n work ys zs h l e =
    ap (λ (x : Words). x ++ post_of 0 n work) (e ∙ cleared_front n ys (omega arith) ∙ ap (λ (x : Words). replicate n 0 ++ x) (let few : length ys ≤ n = omega arith in drop_of_length-le ys few) ∙ append-nil (replicate n 0))

-- The outcome of a call behind its checks is that of the rules.
ended_is : (o : Out Words × ℕ) (buf out : Words) (r : Result ℕ Stopped) → Ends o buf out r → told r ≡ outcome_of o
unfolding outcome_of
ended_is o buf out (Ok c) x = let a = x.closed.answers refl in ap Answered x.count ∙ sym (ap (λ (y : Out Words). outcome_of (y, o.1)) a.is)
ended_is o buf out (Err s) x = let z = x.closed.refuses (number_some s.refusal) in ap (λ c. Refused (number_of s.refusal) c) x.count ∙ sym (ap (λ (y : Out Words). outcome_of (y, o.1)) z)

module _ (kind : Kind) (s q : Words) (source generics : ℕ) (buf work : Words) (count : ℕ) where
  abbrev run : Out Words × ℕ
  run = whole_of kind (finder s source generics) q (length buf) (length work) count

  -- Turned away: nothing is touched, and nothing is spent.
  pub call_away : (w : Refusal) → number_of w ≡ number (entry s q (length buf) (length work) count) → Calls run buf buf work work (Err (record { refusal = w; count = count }))
  unfolding outcome_of
  call_away w e =
      let t = turned_away kind (finder s source generics) q buf work count (number_of w) (number-some (entry s q (length buf) (length work) count) (number_of w) e (number_some w)) in
      record { outcome = sym (ap outcome_of t.0); answer_is = sym t.1; work_is = sym t.2 }

  -- Else it is what it comes to behind entry.
  module _ (e : 0 ≡ number (entry s q (length buf) (length work) count)) where
    passes : refusal (entry s q (length buf) (length work) count) ≡ none
    passes = number-none (entry s q (length buf) (length work) count) 0 (λ m p z. let b = entry_numbers s q (length buf) (length work) count m p in omega (arith, b.least)) e refl

    whole : run ≡ behind (refusal (checks_of kind (finder s source generics) q)) (within_of kind (finder s source generics) q count) count
    whole = behind_entry kind (finder s source generics) q (length buf) (length work) count passes

    pub call_comes : (out ws' : Words) (r : Result ℕ Stopped) (k : ℕ) → k ≡ limit_workspace → k ≤ length work → Behind (behind (refusal (checks_of kind (finder s source generics) q)) (within_of kind (finder s source generics) q count) count) buf out (take k work) ws' r → Calls run buf out work (put_mid 0 k work ws') r
    call_comes out ws' r k w long b = record {
      outcome = ended_is _ buf out r b.ends ∙ ap outcome_of (sym whole);
      answer_is = b.ends.closed.after ∙ ap (λ (x : Out Words × ℕ). answer_after x.0 buf) (sym whole);
      work_is = put_back k work b.last ws' long (b.long ∙ length-take-le k work long) (b.clear ∙ ap (λ j. cleared j b.last) (sym w)) ∙ ap (λ j. replicate j 0 ++ drop j work) w ∙ sym (work_cleared kind (finder s source generics) q buf work count passes);
    }

-- What entry has tested.
module _ (s q : Words) (answer work count : ℕ) (e : 0 ≡ number (entry s q answer work count)) where
  tests : (i : ℕ) → T (not (get_or (entry s q answer work count) i (0, false)).1)
  tests = unrefused (entry s q answer work count) (number-none (entry s q answer work count) 0 (λ m p k. let b = entry_numbers s q answer work count m p in omega (arith, b.least)) e refl)

  neither : (a b : Bool) → T (not (a || b)) → T (not a) × T (not b)
  neither true b t = absurd t
  neither false b t = (tt, t)

  pub entry_room : (k : ℕ) → k ≡ limit_workspace → k ≤ work
  unfolding entry of_length
  entry_room k w = let l = nltb→le work limit_workspace (tests 3) in omega arith

  pub entry_passed : (k l : ℕ) → k ≡ limit_workspace → l ≡ k → Entered s q answer l count
  unfolding entry of_length
  entry_passed k l w d = record {
    sheet_some = let x = nltb→le (length s) header_length (neither (ltb (length s) header_length) (ltb limit_sheet (length s)) (tests 0)).0 in omega arith;
    sheet_short = nltb→le limit_sheet (length s) (neither (ltb (length s) header_length) (ltb limit_sheet (length s)) (tests 0)).1;
    question-some = let x = nltb→le (length q) question_length (neither (ltb (length q) question_length) (ltb limit_question (length q)) (tests 1)).0 in omega arith;
    question_short = nltb→le limit_question (length q) (neither (ltb (length q) question_length) (ltb limit_question (length q)) (tests 1)).1;
    answer_long = nltb→le answer limit_answer (tests 2);
    work_is = d ∙ w;
    count_low = nltb→le limit_count count (tests 4);
  }

pub part-entered : (s q : Words) (answer : ℕ) (work : Words) (count k : ℕ) → 0 ≡ number (entry s q answer (length work) count) → k ≡ limit_workspace → Entered s q answer (length (take k work)) count
part-entered s q answer work count k e w = entry_passed s q answer (length work) count e k (length (take k work)) w (length-take-le k work (entry_room s q answer (length work) count e k w))

pub part_is : (s q : Words) (answer : ℕ) (work : Words) (count k : ℕ) → 0 ≡ number (entry s q answer (length work) count) → k ≡ limit_workspace → k ≡ length (take k work)
part_is s q answer work count k e w = sym (length-take-le k work (entry_room s q answer (length work) count e k w))
