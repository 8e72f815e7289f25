-- The number of a node that is pushed: the limit where there is no room.
use Rattle.std.specs.Prelude.{ℕ, Result, Ok, Err}
use Rattle.rules.specs.Limits.{limit_nodes}
use Rattle.refusals.specs.declared.Refusal.{Refusal}

abbrev pub pushed_number : Result ℕ Refusal → ℕ
pushed_number (Ok n) = n
pushed_number (Err refusal) = limit_nodes
