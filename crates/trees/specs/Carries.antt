-- Words carried from one place to another, between two slices or within one.
use Rattle.std.specs.Prelude.{ℕ, ◌+◌, ◌≤◌, ◌<◌, ◌≡◌, length}
use Rattle.rules.specs.Lists.{Words}
use Rattle.rules.specs.Sheet.{at}

-- The n words of src from a on stand in us from b on; all others are those of ws.
pub record Carries (src ws us : Words) (a b n : ℕ) : Type 0 where
  pub len : length us ≡ length ws
  pub there : (i : ℕ) → i < n → at us (b + i) ≡ at src (a + i)
  pub low : (i : ℕ) → i < b → at us i ≡ at ws i
  pub high : (i : ℕ) → b + n ≤ i → at us i ≡ at ws i
