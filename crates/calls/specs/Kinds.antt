-- The two calls by their kind: the checks behind entry, what each comes to once they have passed, and the whole call; with what the rules say of both.
use Rattle.std.specs.Prelude.{ℕ, ◌≤◌, ◌≡◌, eqb, ltb, length, drop, replicate}
use Rattle.std.proofs.Common.{◌++◌, ap, arith}
use Rattle.std.proofs.Math.Option.{Option, none, some}
use Rattle.rules.specs.Lists.{Words}
use Rattle.rules.specs.Limits.{limit_workspace, limit_steps}
use Rattle.rules.specs.Run.{Out, refused}
use Rattle.rules.specs.Search.{Finder}
use Rattle.rules.specs.Check.{Checks, refusal, entry, impl_checks, flex_checks}
use Rattle.rules.specs.CheckNumbers.{refusal-after, impl_check_numbers, flex_check_numbers}
use Rattle.rules.specs.Calls.{impl_within, flex_within, try_find_impl, find_flex, answer_after, work_after}
use Rattle.rules.proofs.Refusals.{impl_ends, flex_ends}
use Rattle.calls.specs.declared.Kind.{Kind}
use Rattle.calls.specs.declared.Kind.TheVariants.{Impl, Flex}

abbrev pub checks_of : Kind → Finder → Words → Checks
checks_of (Impl basic) a q = impl_checks a basic q
checks_of Flex a q = flex_checks a q

abbrev pub within_of : Kind → Finder → Words → ℕ → Out Words × ℕ
within_of (Impl basic) a q c = impl_within (ltb limit_steps) a (eqb basic 1) q c
within_of Flex a q c = flex_within (ltb limit_steps) a q c

abbrev pub whole_of : Kind → Finder → Words → ℕ → ℕ → ℕ → Out Words × ℕ
whole_of (Impl basic) a q answer work c = try_find_impl limit_steps a basic q answer work c
whole_of Flex a q answer work c = find_flex limit_steps a q answer work c

-- What a call behind entry comes to: the number of its checks, or what it is once they have passed.
unfoldable pub behind : Option ℕ → Out Words × ℕ → ℕ → Out Words × ℕ
behind checks o c = elim checks [ some n ↦ (refused n, c) | none ↦ o ]

-- No check has the number 0.
pub check_some : (k : Kind) (a : Finder) (q : Words) (n : ℕ) → refusal (checks_of k a q) ≡ some n → 1 ≤ n
check_some (Impl basic) a q n e = let b = impl_check_numbers a basic q n e in omega (arith, b.least)
check_some Flex a q n e = let b = flex_check_numbers a q n e in omega (arith, b.least)

-- Turned away at entry: nothing is touched, and nothing is spent.
pub turned_away : (k : Kind) (a : Finder) (q answer work : Words) (c n : ℕ) → refusal (entry a.sheet q (length answer) (length work) c) ≡ some n → let r = whole_of k a q (length answer) (length work) c in (r ≡ (refused n, c)) × (answer_after r.0 answer ≡ answer) × (work_after r.0 work ≡ work)
turned_away (Impl basic) a q answer work c n e = let t = (impl_ends limit_steps a q answer work c basic).turned_away n e in (t.1, t.2, t.3)
turned_away Flex a q answer work c n e = let t = (flex_ends limit_steps a q answer work c).turned_away n e in (t.1, t.2, t.3)

-- Else it is what it comes to behind entry,
pub behind_entry : (k : Kind) (a : Finder) (q : Words) (answer work c : ℕ) → refusal (entry a.sheet q answer work c) ≡ none → whole_of k a q answer work c ≡ behind (refusal (checks_of k a q)) (within_of k a q c) c
unfolding try_find_impl find_flex behind
behind_entry (Impl basic) a q answer work c e = ap (λ (x : Option ℕ). behind x (within_of (Impl basic) a q c) c) (refusal-after (entry a.sheet q answer work c) (impl_checks a basic q) e)
behind_entry Flex a q answer work c e = ap (λ (x : Option ℕ). behind x (within_of Flex a q c) c) (refusal-after (entry a.sheet q answer work c) (flex_checks a q) e)

-- and the workspace's first words are zero.
pub work_cleared : (k : Kind) (a : Finder) (q answer work : Words) (c : ℕ) → refusal (entry a.sheet q (length answer) (length work) c) ≡ none → work_after (whole_of k a q (length answer) (length work) c).0 work ≡ replicate limit_workspace 0 ++ drop limit_workspace work
work_cleared (Impl basic) a q answer work c e = (impl_ends limit_steps a q answer work c basic).cleared e
work_cleared Flex a q answer work c e = (flex_ends limit_steps a q answer work c).cleared e
