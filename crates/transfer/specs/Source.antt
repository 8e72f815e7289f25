-- The table that the records of a chain are, by their places.
use Rattle.std.specs.Prelude.{ℕ, ◌≡◌, refl, map}
use Rattle.rules.specs.Lists.{Words}
use Rattle.rules.specs.Sheet.{chain}
use Rattle.rules.specs.Types.{Types}
use Rattle.rules.specs.Transfer.{node_state, new_nodes, table}

-- The table of some records, by their places.
unfoldable pub indexed : Words → Words → Types
indexed s places = new_nodes 0 (map (node_state s) places)

-- The table from a head is that of its chain's places.
pub table-indexed : (s : Words) (h : ℕ) → indexed s (chain s h) ≡ table s h
unfolding indexed table
table-indexed s h = refl
