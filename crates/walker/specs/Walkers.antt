-- Where a walker stands.
use Rattle.std.specs.Prelude.{ℕ, Option, Some, None}
use Rattle.walker.specs.declared.Walker.{Walker}

-- The place of a walker, and 0 where the chain has ended.
abbrev pub place_of : Option Walker → ℕ
place_of None = 0
place_of (Some w) = w.at
