-- A call behind its entry checks: the checks of sheet, ids and question, then what the search comes to; the workspace's first words are cleared.
use Rattle.std.specs.Prelude.{ℕ, ◌≤◌, ◌<◌, ◌≡◌, refl, Bool, true, false, ◌≢◌, [], ◌∷◌, ◌++◌, Result, Err, length}
use Rattle.std.proofs.Math.Path.{sym, ap, subst}
use Rattle.std.proofs.Common.{◌∙◌, arith}
use Rattle.std.proofs.Math.Option.{Option, none, some, some-ne-none}
use Rattle.rules.specs.Lists.{Words}
use Rattle.rules.specs.Limits.{limit_sheet, limit_question, limit_answer, limit_workspace, limit_count}
use Rattle.rules.specs.Run.{Out}
use Rattle.rules.specs.Check.{Checks, refusal, of_sheet, of_ids, of_impl_question, of_flex_question, impl_checks, flex_checks}
use Rattle.rules.specs.CheckLaws.{Checked}
use Rattle.rules.specs.CheckedTables.{Ready}
use Rattle.rules.proofs.CheckedTables.{impl_ready, flex_ready}
use Rattle.rules.specs.Calls.{answer_after}
use Rattle.words.specs.Buffers.{cleared}
use Rattle.checks.specs.Numbers.{number, finder}
use Rattle.steps.specs.Asking.{Searching}
use Rattle.asking.specs.Impls.{Impls}
use Rattle.flexing.specs.Asked.{Flexing}
use Rattle.refusals.specs.declared.Refusal.{Refusal}
use Rattle.refusals.specs.declared.Stopped.{Stopped}
use Rattle.refusals.specs.Numbers.{number_of, number_some}
use Rattle.closing.specs.Ended.{Ends}
use Rattle.calls.specs.declared.Kind.{Kind}
use Rattle.calls.specs.declared.Kind.TheVariants.{Impl, Flex}
use Rattle.calls.specs.Kinds.{checks_of, behind, check_some}
use Rattle.calls.specs.Prepared.{Passed, Prepared}

-- The lengths and the count that entry has tested; the workspace's part has exactly its words.
pub record Entered (s q : Words) (answer work count : ℕ) : Type 0 where
  pub sheet_some : 0 < length s
  pub sheet_short : length s ≤ limit_sheet
  pub question-some : 0 < length q
  pub question_short : length q ≤ limit_question
  pub answer_long : limit_answer ≤ answer
  pub work_is : work ≡ limit_workspace
  pub count_low : count ≤ limit_count

-- A call that passed its checks.
pub record CallPassed (k : Kind) (s q : Words) (source generics : ℕ) : Type 0 where
  pub passed : refusal (checks_of k (finder s source generics) q) ≡ none
  pub sheet_short : length s ≤ limit_sheet
  pub short : length q ≤ limit_question

refusal_first : (xs ys : Checks) → refusal (xs ++ ys) ≡ none → refusal xs ≡ none
unfolding refusal
refusal_first [] ys e = refl
refusal_first (x ∷ xs) ys e = go x.1 refl e (refusal_first xs ys)
  where
    go : (b : Bool) → x.1 ≡ b → refusal ((x ∷ xs) ++ ys) ≡ none → (refusal (xs ++ ys) ≡ none → refusal xs ≡ none) → refusal (x ∷ xs) ≡ none
    go true p f ih = absurd (some-ne-none x.0 (rw (p, refusal) at f))
    go false p f ih = rw (p, refusal) (ih (rw (p, refusal) at f))

-- The search, once its sets are prepared.
searching : (s : Words) (source generics : ℕ) (sets : Words) → Passed s source generics → Prepared s source generics sets → Searching s sets (record { source = source; generics = generics; limit = 2000 })
searching s source generics sets h p = record {
  sound = record { question = h.question; ready = h.ready };
  stands = record { checked = h.checked; source = h.ready.source; sets = p.candidates };
  low = omega arith;
  taken = p.taken;
  long = p.long;
}

module _ (s q : Words) (source generics : ℕ) where
  ready : (k : Kind) → CallPassed k s q source generics → Ready (finder s source generics) q
  ready (Impl basic) h = impl_ready (finder s source generics) basic q h.sheet_short h.passed
  ready Flex h = flex_ready (finder s source generics) q h.sheet_short h.passed

  checked : (k : Kind) → CallPassed k s q source generics → Checked s
  unfolding impl_checks flex_checks
  checked (Impl basic) h = refusal_first (of_sheet s) (of_ids (finder s source generics) basic) (refusal_first (of_sheet s ++ of_ids (finder s source generics) basic) (of_impl_question (finder s source generics) q) h.passed)
  checked Flex h = refusal_first (of_sheet s) (of_ids (finder s source generics) 0) (refusal_first (of_sheet s ++ of_ids (finder s source generics) 0) (of_flex_question (finder s source generics) q) h.passed)

  pub call_prepares : (k : Kind) → CallPassed k s q source generics → Passed s source generics
  call_prepares k h = record { question = q; ready = ready k h; checked = checked k h }

  pub impl_call : (k : Kind) (basic : ℕ) → CallPassed k s q source generics → k ≡ Impl basic → (sets : Words) → Prepared s source generics sets → Impls s sets q (record { source = source; generics = generics; limit = 2000 }) basic
  impl_call k basic h e sets c =
      let i = subst (λ (x : Kind). CallPassed x s q source generics) e h in
      record {
        searching = searching s source generics sets (call_prepares k h) c;
        passed = i.passed;
        sheet_short = h.sheet_short;
        short = h.short;
      }

  pub flex_call : (k : Kind) → CallPassed k s q source generics → k ≡ Flex → (sets : Words) → Prepared s source generics sets → Flexing s sets q (record { source = source; generics = generics; limit = 2000 })
  flex_call k h e sets c =
      let i = subst (λ (x : Kind). CallPassed x s q source generics) e h in
      record {
        searching = searching s source generics sets (call_prepares k h) c;
        passed = i.passed;
        sheet_short = h.sheet_short;
        short = h.short;
        low = omega arith;
      }

-- A call behind entry ends, and the workspace's part is cleared.
pub record Behind (o : Out Words × ℕ) (buf out ws ws' : Words) (r : Result ℕ Stopped) : Type 0 where
  pub ends : Ends o buf out r
  pub last : Words
  pub long : length last ≡ length ws
  pub clear : ws' ≡ cleared limit_workspace last

-- The number of some checks.
pub number-some : (cs : Checks) (n : ℕ) → n ≡ number cs → n ≢ 0 → refusal cs ≡ some n
unfolding number
number-some cs n e z = go (refusal cs) refl
  where
    go : (o : Option ℕ) → refusal cs ≡ o → refusal cs ≡ some n
    go none p = absurd (z (e ∙ rw (p, number) refl))
    go (some m) p = p ∙ ap some (sym (e ∙ rw (p, number) refl))

pub number-none : (cs : Checks) (n : ℕ) → ((m : ℕ) → refusal cs ≡ some m → m ≢ 0) → n ≡ number cs → n ≡ 0 → refusal cs ≡ none
unfolding number
number-none cs n h e z = go (refusal cs) refl
  where
    go : (o : Option ℕ) → refusal cs ≡ o → refusal cs ≡ none
    go none p = p
    go (some m) p = absurd (h m p (let k : number cs ≡ m = rw (p, number) refl in omega arith))

module _ (cs : Checks) (o : Out Words × ℕ) (count : ℕ) (buf : Words) where
  pub behind_refused : (w : Refusal) → number_of w ≡ number cs → Ends (behind (refusal cs) o count) buf buf (Err (record { refusal = w; count = count }))
  unfolding behind answer_after
  behind_refused w e = record {
    closed = record {
      answers = λ k. absurd (number_some w k);
      refuses = λ k. ap (λ (x : Option ℕ). (behind x o count).0) turned;
      after = sym (ap (λ (x : Option ℕ). answer_after (behind x o count).0 buf) turned);
    };
    count = sym (ap (λ (x : Option ℕ). (behind x o count).1) turned);
  }
    where
      turned : refusal cs ≡ some (number_of w)
      turned = number-some cs (number_of w) e (number_some w)

  pub behind_passed : (out : Words) (r : Result ℕ Stopped) → refusal cs ≡ none → Ends o buf out r → Ends (behind (refusal cs) o count) buf out r
  unfolding behind
  behind_passed out r p x = subst (λ (y : Option ℕ). Ends (behind y o count) buf out r) (sym p) x

-- A call's checks.
pub call_passed : (k : Kind) (s q : Words) (source generics answer work count : ℕ) → Entered s q answer work count → 0 ≡ number (checks_of k (finder s source generics) q) → CallPassed k s q source generics
call_passed k s q source generics answer work count h e = record {
  passed = number-none (checks_of k (finder s source generics) q) 0 (λ m p. let b = check_some k (finder s source generics) q m p in λ z. omega arith) e refl;
  sheet_short = h.sheet_short;
  short = h.question_short;
}

-- The constant.
pub words_are : 662794 ≡ limit_workspace
unfolding limit_workspace
words_are = refl

-- Lengths.
module _ (s q : Words) (answer work count : ℕ) (h : Entered s q answer work count) where
  pub entered_sheet : 0 < length s
  entered_sheet = h.sheet_some

  pub entered_short : length s ≤ 4096
  entered_short = h.sheet_short

  pub entered-question : 0 < length q
  entered-question = h.question-some

  pub entered_question_short : length q ≤ 4096
  entered_question_short = omega (arith, h.question_short)

  pub entered_work : (k : ℕ) → k ≤ 662794 → k ≤ work
  unfolding limit_workspace
  entered_work k l = omega (arith, h.work_is)

  pub entered-answer : limit_answer ≤ answer
  entered-answer = h.answer_long

  pub entered-count : count ≤ 1000000
  entered-count = h.count_low

  pub entered-kept : (ws us : Words) → length ws ≡ work → length us ≡ length ws → 662794 ≤ length us
  entered-kept ws us e d = let h = entered_work 662794 (omega arith) in omega arith
