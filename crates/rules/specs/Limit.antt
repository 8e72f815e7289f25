-- Demand 3, whole, for both calls: under a step limit they give the answer of the search without one, at the cost of its questions,
-- exactly where there is room for those questions. Nothing is assumed of sheet, question, source, generics or basic flag.
use Rattle.std.specs.Prelude.{ℕ, ◌+◌, ◌≤◌, ◌<◌, ◌≡◌, ◌↔◌, eqb, length, take}
use Rattle.std.proofs.Common.{sym, ◌∙◌, ap, add-zero, lt_of_not-le, arith}
use Rattle.std.proofs.Math.Option.{none, some}
use Rattle.std.proofs.Math.Seq.{take-append_seam}
use Rattle.rules.specs.Lists.{Words}
use Rattle.rules.specs.Run.{Out, got, refused, asked}
use Rattle.rules.specs.RunLaws.{Alike, equal_alike}
use Rattle.rules.specs.FlexLaws.{asked_in_turn}
use Rattle.rules.specs.Search.{Finder}
use Rattle.rules.specs.Check.{refusal, entry, impl_checks, flex_checks}
use Rattle.rules.specs.Calls.{impl_search, flex_searches, unset, answer_after}

-- How many questions the search without a step limit asks: none where a check between entry and search refuses;
unfoldable pub asked_find_impl : Finder → ℕ → Words → ℕ
asked_find_impl a basic q = elim (refusal (impl_checks a basic q)) [ some n ↦ 0 | none ↦ asked (impl_search a (eqb basic 1) q) ]

-- in the flex call none either where Fork or Drop is unset (22, 23), else those of the four searches in turn.
unfoldable pub asked_flex : Finder → Words → ℕ
asked_flex a q = elim (unset a.sheet) [ some n ↦ 0 | none ↦ asked_in_turn (flex_searches a q) ]

unfoldable pub asked_find_flex : Finder → Words → ℕ
asked_find_flex a q = elim (refusal (flex_checks a q)) [ some n ↦ 0 | none ↦ asked_flex a q ]

-- A call past the entry checks: sheet, question, the buffers as they are before, and the start count.
abbrev pub Enters : Finder → Words → Words → Words → ℕ → Type 0
Enters a q answer work c = refusal (entry a.sheet q (length answer) (length work) c) ≡ none

-- One run, from the count c under the step limit L, where the search without one comes to `free` after `asked` questions:
pub record Demand3_one (L : ℕ) (free : Out Words) (asked c : ℕ) (run : Out Words × ℕ) : Type 0 where
  -- if it ends at the limit or below, its answer is exactly that of the search with no step limit, a refusal included,
  pub answer : run.1 ≤ L → run.0 ≡ free
  -- and it ends at its start + the number of questions that search asks;
  pub end : run.1 ≤ L → run.1 ≡ c + asked
  -- it ends above the limit exactly when that sum is above it.
  pub above : (L < run.1) ↔ (L < c + asked)

-- Two runs, Short from c under the step limit L and Long from c':
pub record Demand3 (L : ℕ) (free : Out Words) (asked c c' : ℕ) (short long : Out Words × ℕ) : Type 0 where
  -- if Short ends at the limit or below, both answers are exactly that of the search with no step limit, a refusal included,
  pub answers : short.1 ≤ L → (short.0 ≡ free) × (long.0 ≡ free)
  -- and each ends at its start + the number of questions that search asks;
  pub ends : short.1 ≤ L → (short.1 ≡ c + asked) × (long.1 ≡ c' + asked)
  -- Short ends above the limit exactly when its start + that number is above it.
  pub above : (L < short.1) ↔ (L < c + asked)

pub one-run : (L : ℕ) (free : Out Words) (asked c : ℕ) (run : Out Words × ℕ) → Alike L run (free, c + asked) → Demand3_one L free asked c run
one-run L free asked c run h = record {
  answer = λ l. ap (λ o. o.0) (h.run_low l);
  end = λ l. ap (λ o. o.1) (h.run_low l);
  above = (λ l. lt_of_not-le (λ k. omega (arith, ap (λ o. o.1) (h.free_low k))), λ l. lt_of_not-le (λ k. omega (arith, ap (λ o. o.1) (h.run_low k))));
}

-- Long has at least as many steps left as Short.
pub two_runs : (L L' : ℕ) (free : Out Words) (asked c c' : ℕ) (short long : Out Words × ℕ) → L + c' ≤ L' + c → Demand3_one L free asked c short → Alike L' long (free, c' + asked) → Demand3 L free asked c c' short long
two_runs L L' free asked c c' short long room s h = record {
  answers = λ l. (s.answer l, ap (λ o. o.0) (same l));
  ends = λ l. (s.end l, ap (λ o. o.1) (same l));
  above = s.above;
}
  where
    same : short.1 ≤ L → long ≡ (free, c' + asked)
    same l = h.free_low (omega (arith, s.end l))

pub nothing-asked : (L n c : ℕ) → Alike {A = Words} L (refused n, c) (refused n, c + 0)
nothing-asked L n c = equal_alike L (λ i. (refused n, sym (add-zero c) i))

-- What the buffers hold after is a function of the outcome and of what they held (`answer_after`, `work_after`).
-- So if Short ends at the limit or below with an answer, both answer buffers begin with its words.
pub same-words : {L : ℕ} {free : Out Words} {asked c c' : ℕ} {short long : Out Words × ℕ} → Demand3 L free asked c c' short long → (answer answer' ws : Words) → short.1 ≤ L → short.0 ≡ got ws →
    (take (length ws) (answer_after short.0 answer) ≡ ws) × (take (length ws) (answer_after long.0 answer') ≡ ws)
unfolding answer_after
same-words d answer answer' ws l e = (begins answer _ e, begins answer' _ ((d.answers l).1 ∙ sym (d.answers l).0 ∙ e))
  where
    begins : (buf : Words) (o : Out Words) → o ≡ got ws → take (length ws) (answer_after o buf) ≡ ws
    begins buf o e = rw e (take-append_seam ws _)
