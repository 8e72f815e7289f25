-- The length of the front of a slice, as lending it asks, and bytes that are put.
use Rattle.std.specs.Prelude.{ℕ, ◌+◌, ◌≤◌, ◌<◌, ◌≡◌, List, length, take, set}
use Rattle.std.proofs.Common.{sym, arith, length-set, length-take-le}

pub front_length : {A : Type 0} (n : ℕ) (xs : List A) → n ≤ length xs → n ≡ length (take n xs)
front_length n xs h = sym (length-take-le n xs h)

-- Behind a place where something was put there is still the buffer.
pub put-within : {A : Type 0} (n : ℕ) (x : A) (xs : List A) → n < length xs → n + 1 ≤ length (set xs n x)
put-within n x xs h = omega (arith, length-set xs n x)

pub put_front : {A : Type 0} (n : ℕ) (x : A) (xs : List A) → n < length xs → n + 1 ≡ length (take (n + 1) (set xs n x))
put_front n x xs h = front_length (n + 1) (set xs n x) (put-within n x xs h)
