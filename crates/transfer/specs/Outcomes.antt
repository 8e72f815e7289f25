-- Parameters that are given or not, and what the functions that move a type answer, in the words of the rules' notions: 0 for none, else a type word and 1.
use Rattle.std.specs.Prelude.{ℕ, ◌+◌, Option, Some, None, Result, Ok, Err, true, false, []}
use Rattle.std.proofs.Common.{Bor}
use Rattle.std.proofs.Props.{props}
use Rattle.std.proofs.Math.Option as rules
use mathlib.Core.List.{List}
use Rattle.rules.specs.Lists.{Words}
use Rattle.rules.specs.Types.{Ty}
use Rattle.table.specs.Packing.{TypeWords}
use Rattle.refusals.specs.declared.Refusal.{Refusal}
use Rattle.transfer.specs.Moving.{params_of}

-- The parameters, where there are any.
abbrev pub params_in : Option (Bor Words) → rules.Option (List Ty)
params_in None = params_of false []
params_in (Some ps) = params_of true ps.now

-- They are type words.
abbrev pub GivenWords : Option (Bor Words) → Type 0
GivenWords None = Unit {0}
GivenWords (Some ps) = TypeWords ps.now

-- There is one proof of it.
pub given_once : (o : Option (Bor Words)) → IsProp (GivenWords o)
given_once None = hlevel props
given_once (Some ps) = hlevel props

-- The type that stands for another, if any does.
abbrev pub stands : Option ℕ → ℕ
stands None = 0
stands (Some t) = t + 1

-- What a type became, if there was room.
abbrev pub went : Result ℕ Refusal → ℕ
went (Err refusal) = 0
went (Ok t) = t + 1
