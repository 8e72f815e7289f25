-- What holds of every element of a list, of whatever a run comes to, and of what a call hands back.
use Rattle.std.specs.Prelude.{ℕ, suc, ◌≡◌, Bool}
use Rattle.std.proofs.Math.Path.{refl}
use Rattle.std.proofs.Math.Bool.{true, false}
use Rattle.rules.specs.Run.{Run, done, stop, asks, within}
use Rattle.rules.specs.Yields.{Yields, Comes}

pub yields_within : {A : Type 0} (P : A → Type 0) (over : ℕ → Bool) (r : Run A) (c : ℕ) → Yields P r → Comes P (within over r c).0
unfolding within
yields_within P over (done a) c h = h
yields_within P over (stop n) c h = tt
yields_within P over (asks r) c h = go (over (suc c)) refl (yields_within P over r (suc c) h)
  where
    go : (b : Bool) → over (suc c) ≡ b → Comes P (within over r (suc c)).0 → Comes P (within over (asks r) c).0
    go true e k = rw (e, within) tt
    go false e k = rw (e, within) k
