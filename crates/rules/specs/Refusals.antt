-- From where each number comes, and what a whole call leaves behind it: document 01, "Turning a call away".
use Rattle.std.specs.Prelude.{ℕ, ◌+◌, ◌≤◌, ◌<◌, max, ◌≡◌, Bool, true, false, ◌++◌, ◌↔◌, ◌⊎◌, T, leb, length, take, drop, replicate}
use Rattle.std.proofs.Math.Path.{refl}
use Rattle.std.proofs.Common.{sym, ap, subst, inl, inr, ⊎_elim, arith, leb→le, le→leb}
use Rattle.std.proofs.Math.Option.{Option, none, some, some-injective, some-ne-none, none-ne-some}
use Rattle.std.proofs.Math.ListN.{get_or-append}
use Rattle.std.proofs.Math.Seq.{take-append_seam}
use Rattle.rules.specs.Lists.{Words}
use Rattle.rules.specs.Limits.{limit_workspace}
use Rattle.rules.specs.Sheet.{at}
use Rattle.rules.specs.Run.{Out, got, refused}
use Rattle.rules.specs.RunLaws.{got_not_refused, same_number, Between, Says, said, Refuses}
use Rattle.rules.specs.Calls.{answer_after, work_after}
use Rattle.rules.specs.Outcomes.{Counted, Flex_late, Searched}

-- The refusals that leave the count: 1 to 13, 22 and 23.
abbrev pub Leaves_count : ℕ → Type 0
Leaves_count n = Between 1 13 n ⊎ Between 22 23 n

-- How a whole call ends, in document 01's words: `entry` and `checks` are what the two lists of checks say, Late the numbers from the search on,
-- L the step limit, k how many searches the call makes, c the start count, answer and work the buffers before, r the outcome with the count after.
pub record Ends (Late : ℕ → Type 0) (entry checks : Option ℕ) (L k c : ℕ) (answer work : Words) (r : Out Words × ℕ) : Type 0 where
  -- A refusal is one of 1 to 13 or of those from the search on; an answer is as many words as its word 3 says.
  pub numbers : (n : ℕ) → r.0 ≡ refused n → Between 1 13 n ⊎ Late n
  pub words : (ws : Words) → r.0 ≡ got ws → Counted ws
  -- Where the entry refuses, the call comes to that number, one of 1 to 5; count, answer buffer and workspace stay as they are.
  pub turned_away : (n : ℕ) → entry ≡ some n → Between 1 5 n × (r ≡ (refused n, c)) × (answer_after r.0 answer ≡ answer) × (work_after r.0 work ≡ work)
  -- After every other end the workspace's first words, up to the constant, are zero and the rest untouched.
  pub cleared : entry ≡ none → work_after r.0 work ≡ replicate limit_workspace 0 ++ drop limit_workspace work
  -- 1 to 5 come from the entry alone, 6 to 13 from the checks between entry and search alone.
  pub from_entry : (n : ℕ) → ((r.0 ≡ refused n) × (n ≤ 5)) ↔ (entry ≡ some n)
  pub from_checks : (n : ℕ) → ((r.0 ≡ refused n) × Between 6 13 n) ↔ ((entry ≡ none) × (checks ≡ some n))
  -- "1 to 13, 22 and 23 leave the count; the others return the count reached": a question was asked,
  pub leaves : (n : ℕ) → r.0 ≡ refused n → Leaves_count n → r.1 ≡ c
  pub reached : ((n : ℕ) → r.0 ≡ refused n → ¬ Leaves_count n) → c < r.1
  -- and each search ends at most 1 above the limit, or above its start where that is higher.
  pub most : r.1 ≤ max L c + k
  -- "No refusal writes the answer."
  pub unwritten : (n : ℕ) → r.0 ≡ refused n → answer_after r.0 answer ≡ answer

-- No refusal writes the answer.
pub no_refusal_writes : (o : Out Words) (n : ℕ) (buf : Words) → o ≡ refused n → answer_after o buf ≡ buf
unfolding answer_after
no_refusal_writes o n buf e = rw (e, answer_after)

-- 1 to 5 leave the workspace; every other end clears its first words.
untouched : (n : ℕ) (work : Words) → n ≤ 5 → work_after (refused n) work ≡ work
unfolding work_after
untouched n work h = go (leb n 5) refl
  where
    go : (b : Bool) → leb n 5 ≡ b → work_after (refused n) work ≡ work
    go true e = rw (e, work_after)
    go false e = absurd (subst T e (le→leb n 5 h))

clears : (o : Out Words) (work : Words) → Refuses (λ n. 6 ≤ n) o → work_after o work ≡ replicate limit_workspace 0 ++ drop limit_workspace work
unfolding work_after
clears (got ws) work h = refl
clears (refused n) work h = go (leb n 5) refl
  where
    go : (b : Bool) → leb n 5 ≡ b → work_after (refused n) work ≡ replicate limit_workspace 0 ++ drop limit_workspace work
    go true e = absurd (omega (arith, leb→le n 5 (subst T (sym e) tt)))
    go false e = rw (e, work_after)

-- The three places at which a call ends.
module _ (Late : ℕ → Type 0) (late : (n : ℕ) → Late n → 14 ≤ n) (L k c : ℕ) (answer work : Words) where
  -- The entry refuses.
  pub entry_ends : (checks : Option ℕ) (n : ℕ) → Between 1 5 n → Ends Late (some n) checks L k c answer work (refused n, c)
  entry_ends checks n b = record {
    numbers = λ m e. inl (omega (arith, same_number n m e));
    words = λ ws e. absurd (got_not_refused ws n (sym e));
    turned_away = λ m e. let p = some-injective n m e in (omega arith, ap (λ j. (refused j, c)) p, no_refusal_writes (refused n) n answer refl, untouched n work b.most);
    cleared = λ e. absurd (some-ne-none n e);
    from_entry = λ m. (λ e. ap some (same_number n m e.0), λ e. let p = some-injective n m e in (ap refused p, omega arith));
    from_checks = λ m. (λ e. absurd (omega (arith, same_number n m e.0)), λ e. absurd (some-ne-none n e.0));
    leaves = λ m e u. refl;
    reached = λ h. absurd (h n refl (inl (omega arith)));
    most = omega arith;
    unwritten = λ m e. no_refusal_writes (refused n) n answer refl;
  }

  -- A check between entry and search refuses.
  pub check_ends : (n : ℕ) → Between 6 13 n → Ends Late none (some n) L k c answer work (refused n, c)
  check_ends n b = record {
    numbers = λ m e. inl (omega (arith, same_number n m e));
    words = λ ws e. absurd (got_not_refused ws n (sym e));
    turned_away = λ m e. absurd (none-ne-some m e);
    cleared = λ e. clears (refused n) work b.least;
    from_entry = λ m. (λ e. absurd (omega (arith, same_number n m e.0)), λ e. absurd (none-ne-some m e));
    from_checks = λ m. (λ e. (refl, ap some (same_number n m e.0)), λ e. let p = some-injective n m e.1 in (ap refused p, omega arith));
    leaves = λ m e u. refl;
    reached = λ h. absurd (h n refl (inl (omega arith)));
    most = omega arith;
    unwritten = λ m e. no_refusal_writes (refused n) n answer refl;
  }

  -- Neither does.
  pub search_ends : (r : Out Words × ℕ) → Searched Late L k c r → Ends Late none none L k c answer work r
  search_ends r h = record {
    numbers = λ n e. inr (number n e);
    words = λ ws e. subst (Says Late Counted) e h.says;
    turned_away = λ n e. absurd (none-ne-some n e);
    cleared = λ e. clears r.0 work (later r.0 h.says);
    from_entry = λ n. (λ e. absurd (omega (arith, late n (number n e.0))), λ e. absurd (none-ne-some n e));
    from_checks = λ n. (λ e. absurd (omega (arith, late n (number n e.0))), λ e. absurd (none-ne-some n e.1));
    leaves = λ n e u. ⊎_elim (λ b. absurd (omega (arith, late n (number n e)))) (h.leaves n e) u;
    reached = λ f. h.reached (λ n e b. f n e (inr b));
    most = h.most;
    unwritten = λ n e. no_refusal_writes r.0 n answer e;
  }
    where
      number : (n : ℕ) → r.0 ≡ refused n → Late n
      number n e = said Late Counted r.0 h.says n e

      later : (o : Out Words) → Says Late Counted o → Refuses (λ n. 6 ≤ n) o
      later (got ws) u = tt
      later (refused n) u = omega (arith, late n u)

pub least_flex_late : (n : ℕ) → Flex_late n → 14 ≤ n
least_flex_late n (inl b) = b.least
least_flex_late n (inr b) = omega (arith, b.least)

-- "The list of answer words, as many as its word 3 says": read from the answer buffer after an answer, they are that answer.
pub reads_back : (ws buf : Words) → Counted ws → let after = answer_after (got ws) buf in take (at after 3) after ≡ ws
unfolding answer_after
reads_back ws buf h = rw (get_or-append ws (drop (length ws) buf) 0 3 (omega arith), h.1) (take-append_seam ws (drop (length ws) buf))

-- So the answer that a call comes to stands in its buffer after.
pub written : {Late : ℕ → Type 0} {entry checks : Option ℕ} {L k c : ℕ} {answer work : Words} {r : Out Words × ℕ} → Ends Late entry checks L k c answer work r → (ws : Words) → r.0 ≡ got ws →
    let after = answer_after r.0 answer in take (at after 3) after ≡ ws
written {answer = buf} h ws e = rw e (reads_back ws buf (h.words ws e))
