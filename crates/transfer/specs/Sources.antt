-- What a source of any form is known to be: a table whose nodes are their own roots, if its form says so.
use Rattle.std.specs.Prelude.{ℕ, ◌/◌, ◌<◌, ◌≡◌, true, false, length}
use Rattle.std.proofs.Common.{refl, true≢false, sym, arith}
use Rattle.rules.specs.Lists.{Words}
use Rattle.rules.specs.Types.{Types, find}
use Rattle.rules.specs.Transfer.{type_of_word}
use Rattle.rules.specs.Answer.{word_of_type}
use Rattle.transfer.specs.Source.{indexed}
use Rattle.transfer.specs.Records.{indexed-count, find_own}

-- Each node is its own root.
pub record OwnRoots (src : Types) : Type 0 where
  pub each : (t : ℕ) → t / 2 < length src → t ≡ word_of_type (find src (type_of_word t))

-- A packed table has others, which its form does not tell.
pub not_told : {src : Types} → false ≡ true → OwnRoots src
not_told e = absurd (true≢false (sym e))

-- Records are.
pub own_roots : (s places : Words) → OwnRoots (indexed s places)
own_roots s places = record { each = λ t h. find_own s places t (t / 2) refl (omega (arith, h, indexed-count s places)) }
