-- What a call comes to behind its checks: its count, or a refusal with it; and the answer buffer.
use Rattle.std.specs.Prelude.{ℕ, ◌≡◌, Result}
use Rattle.rules.specs.Lists.{Words}
use Rattle.rules.specs.Run.{Out}
use Rattle.refusals.specs.declared.Stopped.{Stopped}
use Rattle.refusals.specs.Numbers.{end_number, end_count}
use Rattle.closing.specs.Impl.{Closed}

pub record Ends (o : Out Words × ℕ) (buf out : Words) (r : Result ℕ Stopped) : Type 0 where
  pub closed : Closed o.0 buf out (end_number r)
  pub count : end_count r ≡ o.1
