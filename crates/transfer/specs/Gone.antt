-- Types of records that went already: each is its own root.
use Rattle.std.specs.Prelude.{ℕ, suc, ◌+◌, ◌-◌, ◌/◌, ◌≤◌, ◌<◌, ◌≡◌, refl, ◌≢◌, Bool, true, false, not, List, length, set, take}
use Rattle.std.proofs.Common.{ap, arith}
use Rattle.std.proofs.Math.Option.{Option}
use Rattle.rules.specs.Lists.{Words}
use Rattle.rules.specs.Sheet.{at}
use Rattle.rules.specs.Types.{Ty, Types}
use Rattle.rules.specs.Transfer.{Transfer, transfer_in, type_of_word}
use Rattle.transfer.specs.Sources.{OwnRoots}
use Rattle.transfer.specs.Moving.{Levels, Gone, GoneRecord, Transfers}
use Rattle.transfer.specs.Leaves.{settles_there}
use Rattle.transfer.specs.Ways.{Going, going_level, going_next, type_settled}

pub gone_packed : (b : Bool) (ms : Words) (t : ℕ) → b ≡ true → GoneRecord b ms t 0
gone_packed b ms t e = record { records = λ z. absurd (z refl); gone = λ z. absurd (z refl) }

pub gone_record : (b : Bool) (ms : Words) (t q : ℕ) → b ≡ false → Gone ms t q → GoneRecord b ms t q
gone_record b ms t q e g = record { records = λ z. e; gone = λ z. g }

-- `transfer_each`: the next type is a node of the source, and so of the mapping.
module _ (src : Types) (f : Ty → Transfer → Ty × Transfer) (ws ms us ns ts vs : Words) (m i left : ℕ) (g : Going src f ws ms us ns ts vs m i) (h : i < m) (d : Levels src (take m ts) left) where
  next_inside : at vs i / 2 < length src
  unfolding type_of_word
  next_inside = (going_level src f ws ms us ns ts vs m i left g h d).inside

  pub next_long : at vs i / 2 < length ns
  next_long = omega (arith, next_inside, g.mapping.long)

  pub next_small : at ns (at vs i / 2) ≤ 512
  next_small = g.mapping.small (at vs i / 2) next_inside

-- The type at i went already, and stands where it went: b says that nothing is told of the roots of the source.
module _ (src : Types) (b : Bool) (roots : not b ≡ true → OwnRoots src) (ps : Option (List Ty)) (left : ℕ) (ws ms us ns ts vs : Words) (m i : ℕ) where
  pub going_gone : (q : ℕ) → q ≢ 0 → Going src (transfer_in left src ps) ws ms us ns ts vs m i → i < m → Levels src (take m ts) left → GoneRecord b ns (at vs i) q → Going src (transfer_in left src ps) ws ms us ns ts (set vs i (q - 1)) m (i + 1)
  going_gone q z g h d r = going_next src ps left ws ms us ns ts vs m i g h d us ns q same z
    where
      inside : at vs i / 2 < length src
      inside = next_inside src (transfer_in left src ps) ws ms us ns ts vs m i left g h d

      same : Transfers src (transfer_in (suc (left - 1)) src ps (type_of_word (at vs i))) us ns us ns q
      same = type_settled src (at vs i) (at vs i) ((roots (ap not (r.records z))).each (at vs i) inside) ps ns q (settles_there src ps ns (at vs i) g.mapping inside q (r.gone z) z) (left - 1) us g.packed g.mapping z
