-- `row`. The loop's invariant: the words of k sub-questions are written.
use Rattle.std.proofs.Common.{◌≡◌, length}
use Rattle.queries.specs.Rows.{Rowing}
use Rattle.queries.proofs.row.Given as goal

abbrev pub invariant-loop-k : goal.invariant-loop-k
invariant-loop-k l = (length l.ts ≡ length l.initial.ts) × Rowing l.qs l.ts l.k l.m
