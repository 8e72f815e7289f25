-- `read_row`: one each time.
use Rattle.std.proofs.Common.{◌≤◌, vec_len}
use Rattle.cases.proofs.read_row.Given as goal

abbrev pub invariant-loop : goal.invariant-loop
invariant-loop g l = vec_len l.words ≤ l.counter
