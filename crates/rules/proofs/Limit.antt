-- Demand 3, whole, for both calls: under a step limit they give the answer of the search without one, at the cost of its questions,
-- exactly where there is room for those questions. Nothing is assumed of sheet, question, source, generics or basic flag.
use Rattle.std.specs.Prelude.{ℕ, ◌+◌, ◌≤◌, ◌≡◌, Bool, false, List, ◌++◌, eqb, ltb, length}
use Rattle.std.proofs.Math.Path.{refl}
use Rattle.std.proofs.Common.{ap, arith}
use Rattle.std.proofs.Math.Option.{Option, none, some}
use Rattle.rules.specs.Lists.{Words}
use Rattle.rules.specs.Limits.{limit_steps}
use Rattle.rules.specs.Run.{Out, asked}
use Rattle.rules.specs.RunLaws.{not_above, Alike, made_alike}
use Rattle.rules.proofs.RunLaws.{run_alike}
use Rattle.rules.proofs.FlexLaws.{turn_alike}
use Rattle.rules.specs.Search.{Result, Finder}
use Rattle.rules.specs.Check.{refusal, entry, impl_checks, flex_checks}
use Rattle.rules.specs.CheckNumbers.{refusal-after}
use Rattle.rules.specs.Calls.{impl_search, impl_outcome, impl_free, impl_within, flex_searches, flex_outcome, unset, flex_free, flex_within, free_find_impl, free_find_flex, try_find_impl, find_flex}
use Rattle.rules.specs.Limit.{asked_find_impl, asked_flex, asked_find_flex, Enters, Demand3_one, Demand3, one-run, two_runs, nothing-asked}

-- The searches with their outcomes, under the step limit L and without one.
impl_alike : (L : ℕ) (a : Finder) (basic : Bool) (q : Words) (c : ℕ) → Alike L (impl_within (ltb L) a basic q c) (impl_free a basic q, c + asked (impl_search a basic q))
unfolding impl_within impl_free
impl_alike L a basic q c = made_alike L (impl_outcome a.sheet q) (run_alike L (impl_search a basic q) c)

flex_alike : (L : ℕ) (a : Finder) (q : Words) (c : ℕ) → Alike L (flex_within (ltb L) a q c) (flex_free a q, c + asked_flex a q)
unfolding flex_within flex_free asked_flex
flex_alike L a q c = go (unset a.sheet) refl
  where
    -- 24 only with the count above the limit
    ended : {run free : Out (List (List Result)) × ℕ} → Alike L run free → Alike L (flex_outcome a.sheet q (ltb L run.1) run.0, run.1) (flex_outcome a.sheet q false free.0, free.1)
    ended {run} {free} h = record { run_low = λ l. same (h.run_low l) l; free_low = λ l. same (h.free_low l) (rw (h.free_low l) l) }
      where
        same : run ≡ free → run.1 ≤ L → ◌≡◌ {A = Out Words × ℕ} (flex_outcome a.sheet q (ltb L run.1) run.0, run.1) (flex_outcome a.sheet q false free.0, free.1)
        same e l = rw (not_above L run.1 l) (ap (λ o. (flex_outcome a.sheet q false o.0, o.1)) e)

    go : (o : Option ℕ) → unset a.sheet ≡ o → Alike L (flex_within (ltb L) a q c) (flex_free a q, c + asked_flex a q)
    go (some n) e = rw (e, flex_within, flex_free, asked_flex) (nothing-asked L n c)
    go none e = rw (e, flex_within, flex_free, asked_flex) (ended (turn_alike L (flex_searches a q) c))

-- The whole calls, past the entry checks.
module _ (L : ℕ) (a : Finder) (q answer work : Words) (c : ℕ) (past : Enters a q answer work c) where
  whole_impl_alike : (basic : ℕ) → Alike L (try_find_impl L a basic q (length answer) (length work) c) (free_find_impl a basic q, c + asked_find_impl a basic q)
  unfolding try_find_impl free_find_impl asked_find_impl
  whole_impl_alike basic = go (refusal (impl_checks a basic q)) (refusal-after (entry a.sheet q (length answer) (length work) c) (impl_checks a basic q) past) refl
    where
      go : (o : Option ℕ) → refusal (entry a.sheet q (length answer) (length work) c ++ impl_checks a basic q) ≡ o → refusal (impl_checks a basic q) ≡ o →
          Alike L (try_find_impl L a basic q (length answer) (length work) c) (free_find_impl a basic q, c + asked_find_impl a basic q)
      go (some n) e f = rw (e, f, try_find_impl, free_find_impl, asked_find_impl) (nothing-asked L n c)
      go none e f = rw (e, f, try_find_impl, free_find_impl, asked_find_impl) (impl_alike L a (eqb basic 1) q c)

  whole_flex_alike : Alike L (find_flex L a q (length answer) (length work) c) (free_find_flex a q, c + asked_find_flex a q)
  unfolding find_flex free_find_flex asked_find_flex
  whole_flex_alike = go (refusal (flex_checks a q)) (refusal-after (entry a.sheet q (length answer) (length work) c) (flex_checks a q) past) refl
    where
      go : (o : Option ℕ) → refusal (entry a.sheet q (length answer) (length work) c ++ flex_checks a q) ≡ o → refusal (flex_checks a q) ≡ o →
          Alike L (find_flex L a q (length answer) (length work) c) (free_find_flex a q, c + asked_find_flex a q)
      go (some n) e f = rw (e, f, find_flex, free_find_flex, asked_find_flex) (nothing-asked L n c)
      go none e f = rw (e, f, find_flex, free_find_flex, asked_find_flex) (flex_alike L a q c)

  -- Demand 3 of one run past the entry checks, under any step limit.
  pub demand_3_impl_one : (basic : ℕ) → Demand3_one L (free_find_impl a basic q) (asked_find_impl a basic q) c (try_find_impl L a basic q (length answer) (length work) c)
  demand_3_impl_one basic = one-run L _ _ c _ (whole_impl_alike basic)

  pub demand_3_flex_one : Demand3_one L (free_find_flex a q) (asked_find_flex a q) c (find_flex L a q (length answer) (length work) c)
  demand_3_flex_one = one-run L _ _ c _ whole_flex_alike

-- Demand 3 of two runs alike in all but start count, what the buffers hold, and here the step limit too:
-- both past the entry checks, and Long with at least as many steps left, L - c ≤ L' - c' (written without subtraction). With one step limit that is c' ≤ c.
module _ (L L' : ℕ) (a : Finder) (q answer work answer' work' : Words) (c c' : ℕ) (past : Enters a q answer work c) (past' : Enters a q answer' work' c') (room : L + c' ≤ L' + c) where
  pub demand_3_impl : (basic : ℕ) →
      Demand3 L (free_find_impl a basic q) (asked_find_impl a basic q) c c'
      (try_find_impl L a basic q (length answer) (length work) c)
      (try_find_impl L' a basic q (length answer') (length work') c')
  demand_3_impl basic = two_runs L L' _ _ c c' _ _ room (demand_3_impl_one L a q answer work c past basic) (whole_impl_alike L' a q answer' work' c' past' basic)

  pub demand_3_flex :
      Demand3 L (free_find_flex a q) (asked_find_flex a q) c c'
      (find_flex L a q (length answer) (length work) c)
      (find_flex L' a q (length answer') (length work') c')
  demand_3_flex = two_runs L L' _ _ c c' _ _ room (demand_3_flex_one L a q answer work c past) (whole_flex_alike L' a q answer' work' c' past')

-- Demand 3 in its own words, with the step limit 2,000. One run: if it ends at 2,000 or below, it gives exactly the answer of the search with no step limit
-- and ends at start + the number of questions that search asks; it ends above 2,000 exactly when that sum is above 2,000.
module _ (a : Finder) (q answer work : Words) (c : ℕ) (past : Enters a q answer work c) where
  pub one-try_find_impl : (basic : ℕ) → Demand3_one 2000 (free_find_impl a basic q) (asked_find_impl a basic q) c (try_find_impl limit_steps a basic q (length answer) (length work) c)
  one-try_find_impl basic = demand_3_impl_one limit_steps a q answer work c past basic

  pub one-find_flex : Demand3_one 2000 (free_find_flex a q) (asked_find_flex a q) c (find_flex limit_steps a q (length answer) (length work) c)
  one-find_flex = demand_3_flex_one limit_steps a q answer work c past

-- Two runs alike in all but start count and what the buffers hold, past the entry checks: Short starts with at least as many steps spent.
module _ (a : Finder) (q answer work answer' work' : Words) (c c' : ℕ) (past : Enters a q answer work c) (past' : Enters a q answer' work' c') (spent : c' ≤ c) where
  pub demand_3_try_find_impl : (basic : ℕ) →
      Demand3 2000 (free_find_impl a basic q) (asked_find_impl a basic q) c c'
      (try_find_impl limit_steps a basic q (length answer) (length work) c)
      (try_find_impl limit_steps a basic q (length answer') (length work') c')
  demand_3_try_find_impl basic = demand_3_impl limit_steps limit_steps a q answer work answer' work' c c' past past' (omega arith) basic

  pub demand_3_find_flex :
      Demand3 2000 (free_find_flex a q) (asked_find_flex a q) c c'
      (find_flex limit_steps a q (length answer) (length work) c)
      (find_flex limit_steps a q (length answer') (length work') c')
  demand_3_find_flex = demand_3_flex limit_steps limit_steps a q answer work answer' work' c c' past past' (omega arith)
