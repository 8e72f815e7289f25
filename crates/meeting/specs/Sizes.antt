-- The size of a term with sides: how many types it has. The inverse is of the same size, so that types that are the same are of one size, whatever their sides.
use Prim.Native.Nat.{ℕ, zero, suc, ◌+◌, ◌/◌, ◌%◌, ◌≤◌, ◌<◌}
use Rattle.std.specs.Prelude.{◌≡◌, Bool, not, [], ◌∷◌, length, take}
use Rattle.std.proofs.Math.Path.{refl, ap}
use Rattle.std.proofs.Common.{sym, ◌∙◌, ap₂, le_of_suc-le-suc, not-suc-le-zero, arith, get_or-take, length-take-le}
use Rattle.std.proofs.Math.Bool.{true, false}
use Rattle.rules.specs.Lists.{Words}
use Rattle.rules.specs.Sheet.{at, kind_flag, row_own_inverse}
use Rattle.rules.specs.SignedTerms.{Signed, svar, scon, snil, scons, SignedSol, inverse, turned, made, made_own, made_other}
use Rattle.table.specs.declared.Row.{Row}
use Rattle.refs.specs.Meaning.{odd, means, row, Meaning}
use Rattle.refs.specs.Refs.{side_of}
use Rattle.refs.specs.Children.{Over, Gathers}

unfoldable pub signed_size : Signed → ℕ
signed_size (svar n b) = 0
signed_size (scon b k d t) = suc (signed_size t)
signed_size snil = 0
signed_size (scons t u) = signed_size t + signed_size u

module _ (s : Words) where
  inverse-size : (t : Signed) → signed_size (inverse s t) ≡ signed_size t
  unfolding signed_size inverse
  inverse-size (svar n b) = refl
  inverse-size (scon b k d t) = go (kind_flag s row_own_inverse k d) refl (inverse-size t)
    where
      own : kind_flag s row_own_inverse k d ≡ true → inverse s (scon b k d t) ≡ scon b k d (inverse s t)
      own e = rw (e, inverse)

      other : kind_flag s row_own_inverse k d ≡ false → inverse s (scon b k d t) ≡ scon (not b) k d t
      other e = rw (e, inverse)

      go : (o : Bool) → kind_flag s row_own_inverse k d ≡ o → signed_size (inverse s t) ≡ signed_size t → signed_size (inverse s (scon b k d t)) ≡ signed_size (scon b k d t)
      go true e ih = ap signed_size (own e) ∙ ap suc ih
      go false e ih = ap signed_size (other e)
  inverse-size snil = refl
  inverse-size (scons t u) = ap₂ ◌+◌ (inverse-size t) (inverse-size u)

  pub turned-size : (b : Bool) (t : Signed) → signed_size (turned s b t) ≡ signed_size t
  unfolding turned
  turned-size true t = inverse-size t
  turned-size false t = refl

  -- A known type is one more than its children.
  pub made-size : (i : Bool) (k d : ℕ) (t : Signed) → signed_size (made s i k d t) ≡ suc (signed_size t)
  unfolding signed_size
  made-size i k d t = go (kind_flag s row_own_inverse k d) refl
    where
      go : (o : Bool) → kind_flag s row_own_inverse k d ≡ o → signed_size (made s i k d t) ≡ suc (signed_size t)
      go true e = ap signed_size (made_own s i k d t e) ∙ ap suc (turned-size i t)
      go false e = ap signed_size (made_other s i k d t e)

-- The size of what a ref means. What is known of it: refs of types that mean the same are of one size,
unfoldable pub size : SignedSol → ℕ → ℕ
size m r = signed_size (m (r % 2048))

means-size : (s : Words) (m : SignedSol) (t : ℕ) → signed_size (means s m t) ≡ size m (t / 2)
unfolding size means
means-size s m t = turned-size s (odd t) (m (t / 2 % 2048))

pub size_same : (s : Words) (m : SignedSol) (a b : ℕ) → means s m a ≡ means s m b → size m (a / 2) ≡ size m (b / 2)
size_same s m a b e = sym (means-size s m a) ∙ ap signed_size e ∙ means-size s m b

-- and a ref is larger than each of its children.
row-larger : (s : Words) (m : SignedSol) (ts : Words) (j : ℕ) → j < length ts → size m (at ts j / 2) ≤ signed_size (row s m ts)
unfolding row signed_size
row-larger s m [] j h = absurd (not-suc-le-zero h)
row-larger s m (t ∷ ts) zero h = omega (arith, means-size s m t)
row-larger s m (t ∷ ts) (suc j) h = omega (arith, row-larger s m ts j (le_of_suc-le-suc h))

over_smaller : (s : Words) (m : SignedSol) (r : ℕ) (i : Bool) (ts : Words) → Over s (m (r % 2048)) i (row s m ts) → (j : ℕ) → j < length ts → size m (at ts j / 2) < size m r
unfolding size
over_smaller s m r i ts c j h = omega (arith, ap signed_size c.is ∙ made-size s i c.kind c.id (row s m ts), row-larger s m ts j h)

pub child_smaller : (s ps ws : Words) (m : SignedSol) (r : ℕ) (o : Row) → Gathers s ps ws r o → Meaning s ps ws m → (j : ℕ) → j < o.n → size m (at o.types j / 2) < size m r
child_smaller s ps ws m r o g w j h = omega (
  arith,
  over_smaller s m r (side_of s ps ws r) (take o.n o.types) (g.are m w) j (omega (arith, length-take-le o.n o.types g.long)),
  ap (λ t. size m (t / 2)) (get_or-take o.n o.types j 0 h),
)

-- Refs are read modulo 2048.
pub size_mod : (m : SignedSol) (a b : ℕ) → a % 2048 ≡ b % 2048 → size m a ≡ size m b
unfolding size
size_mod m a b e = ap (λ k. signed_size (m k)) e
