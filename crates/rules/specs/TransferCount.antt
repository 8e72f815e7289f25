-- How many nodes an export makes: at most one for each node of its source. And an import of a list of impl types is the import of all their arguments in one row.
use Rattle.std.specs.Prelude.{ℕ, zero, suc, ◌+◌, ◌≤◌, ◌<◌, ◌≡◌, refl, false, List, [], ◌∷◌, ◌++◌, ◌≢◌, ◌⊎◌}
use Rattle.std.proofs.Common.{sym, ◌∙◌, ap, subst, inl, inr, le_refl, not-suc-le-zero, arith, length-append, length-set}
use Rattle.std.proofs.Math.Option.{Option, none, some, some-injective}
use Rattle.std.proofs.Math.Decide.{ℕ_discrete}
use Rattle.std.proofs.Math.ListN.{length}
use Rattle.rules.specs.Lists.{concat_map}
use Rattle.rules.specs.Types.{Ty, unknown, known, Types, new_node, ImplType}
use Rattle.rules.specs.Transfer.{Transfer, mapped, transfer_each, transfer_in, transfer_types, import_types, transfer_impl_types, export_types}
use Rattle.rules.specs.Robinson.{AllIn, WellFormed, eqb_true, eqb_false}
use Rattle.rules.specs.Carried.{pushed, transfer_carries}

-- 1 for none.
unfoldable absent : Option Ty → ℕ
absent none = 1
absent (some u) = 0

-- How many of the numbers below n are not mapped.
unfoldable unmapped : List (ℕ × Ty) → ℕ → ℕ
unmapped ps zero = 0
unmapped ps (suc n) = absent (mapped ps n) + unmapped ps n

unmapped-none : (n : ℕ) → unmapped [] n ≡ n
unfolding unmapped mapped absent
unmapped-none zero = refl
unmapped-none (suc n) = omega (arith, unmapped-none n)

pub mapped_other : (ps : List (ℕ × Ty)) (r : ℕ) (u : Ty) (n : ℕ) → r ≢ n → mapped ((r, u) ∷ ps) n ≡ mapped ps n
unfolding mapped
mapped_other ps r u n h = rw (eqb_false r n h, mapped)

pub mapped_here : (ps : List (ℕ × Ty)) (r : ℕ) (u : Ty) → mapped ((r, u) ∷ ps) r ≡ some u
unfolding mapped
mapped_here ps r u = rw (eqb_true r r refl, mapped)

-- What is mapped after a push was before, or is what was pushed.
pub push_cases : (m : Transfer) (r x : ℕ) (u : Ty) → mapped (pushed m r).0 x ≡ some u → (mapped m.0 x ≡ some u) ⊎ ((r ≡ x) × (u.1 ≡ length m.1) × (u.0 ≡ false))
push_cases m r x u e = go (ℕ_discrete r x)
  where
    go : Dec (r ≡ x) → (mapped m.0 x ≡ some u) ⊎ ((r ≡ x) × (u.1 ≡ length m.1) × (u.0 ≡ false))
    go (yes q) = let w = some-injective _ _ (sym e ∙ ap (mapped (pushed m r).0) (sym q) ∙ mapped_here m.0 r (false, length m.1)) in inr (q, ap (λ (t : Ty). t.1) w, ap (λ (t : Ty). t.0) w)
    go (no q) = inl (sym (mapped_other m.0 r (false, length m.1) x q) ∙ e)

unmapped_past : (ps : List (ℕ × Ty)) (r : ℕ) (u : Ty) (n : ℕ) → n ≤ r → unmapped ((r, u) ∷ ps) n ≡ unmapped ps n
unfolding unmapped
unmapped_past ps r u zero h = refl
unmapped_past ps r u (suc n) h = omega (arith, ap absent (mapped_other ps r u n (λ e. not-suc-le-zero {n = 0} (omega arith))), unmapped_past ps r u n (omega arith))

-- Mapping one more leaves one less.
unmapped_push : (ps : List (ℕ × Ty)) (r : ℕ) (u : Ty) (n : ℕ) → r < n → mapped ps r ≡ none → suc (unmapped ((r, u) ∷ ps) n) ≡ unmapped ps n
unfolding unmapped absent
unmapped_push ps r u zero h e = absurd (not-suc-le-zero h)
unmapped_push ps r u (suc n) h e = go (ℕ_discrete r n) (unmapped_push ps r u n)
  where
    go : Dec (r ≡ n) → (r < n → mapped ps r ≡ none → suc (unmapped ((r, u) ∷ ps) n) ≡ unmapped ps n) → suc (absent (mapped ((r, u) ∷ ps) n) + unmapped ((r, u) ∷ ps) n) ≡ absent (mapped ps n) + unmapped ps n
    go (yes q) ih = subst (λ k. suc (absent (mapped ((r, u) ∷ ps) k) + unmapped ((r, u) ∷ ps) k) ≡ absent (mapped ps k) + unmapped ps k) q (omega (arith, ap absent (mapped_here ps r u), ap absent e, unmapped_past ps r u r (le_refl r)))
    go (no q) ih = omega (arith, ap absent (mapped_other ps r u n q), ih (omega arith) e)

module _ (src : Types) (formed : WellFormed src) (ps : Option (List Ty)) where
  -- Pushed nodes and roots not yet mapped, together.
  abbrev Counted : ℕ → Transfer → Type 0
  Counted c m = length m.1 + unmapped m.0 (length src) ≡ c

  counted : (c : ℕ) (ts : List Ty) (m : Transfer) → AllIn (length src) ts → Counted c m → Counted c (transfer_types src ps ts m).1
  counted c = transfer_carries src formed ps (Counted c)
      (λ m r h e v. omega (arith, length-append m.1 (new_node (length m.1) unknown ∷ []), unmapped_push m.0 r (false, length m.1) (length src) h e))
      (λ m n r i kd d cs qs e l v. omega (arith, length-set m.1 n (new_node n (known i kd d qs))))

  -- An import adds at most as many nodes as its source has.
  pub import_most : (ts : List Ty) (dst : Types) → AllIn (length src) ts → length (import_types src ps ts dst).1 ≤ length dst + length src
  unfolding import_types
  import_most ts dst a = omega (arith, counted (length dst + length src) ts ([], dst) a (omega (arith, unmapped-none (length src))))

-- An export has at most as many nodes as its source.
pub export_most : (src : Types) → WellFormed src → (ts : List Ty) → AllIn (length src) ts → length (export_types src ts).1 ≤ length src
unfolding export_types
export_most src formed ts a = omega (arith, import_most src formed none ts [] a)

-- The arguments of some impl types, in one row.
abbrev pub row : List ImplType → List Ty
row qs = concat_map (λ (q : ImplType). q.1) qs

each_append : (f : Ty → Transfer → Ty × Transfer) (xs ys : List Ty) (m : Transfer) →
    transfer_each f (xs ++ ys) m ≡ ((transfer_each f xs m).0 ++ (transfer_each f ys (transfer_each f xs m).1).0, (transfer_each f ys (transfer_each f xs m).1).1)
unfolding transfer_each
each_append f [] ys m = refl
each_append f (x ∷ xs) ys m = ap (λ (r : List Ty × Transfer). ((f x m).0 ∷ r.0, r.1)) (each_append f xs ys (f x m).1)

-- Moving impl types, one after the other, is moving that row.
pub row_moves : (src : Types) (ps : Option (List Ty)) (qs : List ImplType) (m : Transfer) →
    transfer_types src ps (row qs) m ≡ (row (transfer_impl_types src ps qs m).0, (transfer_impl_types src ps qs m).1)
unfolding transfer_types transfer_impl_types transfer_each concat_map
row_moves src ps [] m = refl
row_moves src ps (q ∷ qs) m =
    let f = transfer_in (suc (length src)) src ps in
    let a = transfer_each f q.1 m in
    each_append f q.1 (row qs) m ∙ ap (λ (r : List Ty × Transfer). (a.0 ++ r.0, r.1)) (row_moves src ps qs a.1)
