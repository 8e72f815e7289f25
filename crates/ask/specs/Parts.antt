-- The length of the front of a slice, as lending it asks.
use Rattle.std.specs.Prelude.{ℕ, ◌≤◌, ◌≡◌, List, length, take}
use Rattle.std.proofs.Common.{sym, length-take-le}

pub front_length : {A : Type 0} (n : ℕ) (xs : List A) → n ≤ length xs → n ≡ length (take n xs)
front_length n xs h = sym (length-take-le n xs h)
