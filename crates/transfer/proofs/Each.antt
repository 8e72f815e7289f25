-- The first types have gone, and the next with them: u is where it went.
use Rattle.std.proofs.Common.{ℕ, ◌≡◌, ◌+◌, ◌-◌, ◌<◌, List, set, take, suc, subst, arith, Bool, true, not}
use Rattle.std.proofs.Math.Option.{Option}
use Rattle.rules.specs.Lists.{Words}
use Rattle.rules.specs.Sheet.{at}
use Rattle.rules.specs.Types.{Ty, Types}
use Rattle.rules.specs.Transfer.{transfer_in, type_of_word}
use Rattle.transfer.specs.Moving.{Levels, GoneRecord, Transfers}
use Rattle.transfer.specs.Sources.{OwnRoots}
use Rattle.transfer.specs.Ways.{Going, going_next}
use Rattle.transfer.specs.Gone.{going_gone}

module _ (src : Types) (ps : Option (List Ty)) (left : ℕ) (ws ms us ns ts vs : Words) (m i : ℕ) (g : Going src (transfer_in left src ps) ws ms us ns ts vs m i) (h : i < m) (d : Levels src (take m ts) left) (u : ℕ) where
  as_written : (xs ys : Words) → Going src (transfer_in left src ps) ws ms xs ys ts (set vs i (u + 1 - 1)) m (i + 1) → Going src (transfer_in left src ps) ws ms xs ys ts (set vs i u) m (i + 1)
  as_written xs ys r = subst (λ k. Going src (transfer_in left src ps) ws ms xs ys ts (set vs i k) m (i + 1)) (let z : u + 1 - 1 ≡ u = omega arith in z) r

  pub moved_on : (xs ys : Words) → Transfers src (transfer_in (suc (left - 1)) src ps (type_of_word (at vs i))) us ns xs ys (u + 1) → Going src (transfer_in left src ps) ws ms xs ys ts (set vs i u) m (i + 1)
  moved_on xs ys t = as_written xs ys (going_next src ps left ws ms us ns ts vs m i g h d xs ys (u + 1) t (λ e. omega arith))

  pub gone_on : (b : Bool) → (b ≡ true → OwnRoots src) → GoneRecord (not b) ns (at vs i) (u + 1) → Going src (transfer_in left src ps) ws ms us ns ts (set vs i u) m (i + 1)
  gone_on b roots r = as_written us ns (going_gone src (not b) (λ e. roots (twice b e)) ps left ws ms us ns ts vs m i (u + 1) (λ e. omega arith) g h d r)
    where
      twice : (b : Bool) → not (not b) ≡ true → b ≡ true
      twice b e = grind arith
