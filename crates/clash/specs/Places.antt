-- The places of the records of a table whose records fit into the sheet.
use Rattle.std.specs.Prelude.{ℕ, ◌+◌, ◌*◌, ◌≤◌, ◌≡◌, length, take}
use Rattle.std.proofs.Common.{sym, arith, length-take-le}
use Rattle.rules.specs.Lists.{Words}
use Rattle.rules.specs.Sheet.{chain}
use Rattle.chart.specs.Index.{Indexed}
use Rattle.transfer.specs.Callers.{places-chain}

module _ (s : Words) (head : ℕ) (few : 5 * length (chain s head) ≤ length s) (ws : Words) (l : length s ≤ 5 * length ws) where
  pub places_room : 0 + length (chain s head) ≤ length ws
  places_room = omega (arith, few)

  module _ (us : Words) (n : ℕ) (x : Indexed s head ws us 0 n) (long : length us ≡ length ws) where
    pub places_few : n ≤ length us
    places_few = omega (arith, x.count, few)

    pub places-length : n ≡ length (take n us)
    places-length = sym (length-take-le n us places_few)

    pub places_are : take n us ≡ chain s head
    places_are = places-chain s head us 0 n x.count x.place (omega (arith, places_few))
