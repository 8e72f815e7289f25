-- Types read as terms with sides, so that inversion counts, each Error by a name of its own: the terms, their inverses and their laws; solutions of a table and readings of a source by such terms, and what a source and a table have in common.
use Rattle.std.specs.Prelude.{ℕ, suc, ◌<◌, ◌≡◌, not, ◌≢◌, eqb, length, get_or}
use Rattle.std.proofs.Math.Path.{refl, sym, ap, ap₂}
use Rattle.std.proofs.Common.{◌∙◌, subst, arith}
use Rattle.std.proofs.Math.Bool.{Bool, true, false}
use mathlib.Core.List.{List, [], ◌∷◌, map}
use Rattle.std.proofs.Math.Decide.{ℕ_discrete}
use Rattle.rules.specs.Lists.{Words}
use Rattle.rules.specs.Layout.{kind_error, kind_param}
use Rattle.rules.specs.Sheet.{self_dual, kind_flag, row_own_inverse}
use Rattle.rules.specs.Types.{Ty, TypeState, unknown, known, Types, node_at, xor, invert_if, find, state_at}
use Rattle.rules.specs.Solutions.{rep, eqb_true, eqb_false}
use Rattle.rules.specs.CommonSides.{xor_comm, xor_assoc, xor_twice, side_by}
use Rattle.rules.specs.ErrorsApart.{IsError}

-- Terms with sides: unknowns, upright or inverted; types of a side, a kind and an id over their children; and lists of children.
pub data Signed : Type 0 where
  svar : ℕ → Bool → Signed
  scon : Bool → ℕ → ℕ → Signed → Signed
  snil : Signed
  scons : Signed → Signed → Signed

-- The inverse: of a type whose kind is its own inverse that of its children, of any other its other side.
unfoldable pub inverse : Words → Signed → Signed
inverse s (svar n b) = svar n (not b)
inverse s (scon b k d t) = elim (kind_flag s row_own_inverse k d) [ true ↦ scon b k d (inverse s t) | false ↦ scon (not b) k d t ]
inverse s snil = snil
inverse s (scons t u) = scons (inverse s t) (inverse s u)

-- A term, inverted or not.
unfoldable pub turned : Words → Bool → Signed → Signed
turned s b t = elim b [ true ↦ inverse s t | false ↦ t ]

-- A solution gives each node a term with sides.
abbrev pub SignedSol : Type 0
SignedSol = ℕ → Signed

-- The term of a type, and those of some types as a list.
unfoldable pub value : Words → SignedSol → Ty → Signed
value s θ t = turned s t.0 (θ t.1)

unfoldable pub values : Words → SignedSol → List Ty → Signed
values s θ [] = snil
values s θ (c ∷ cs) = scons (value s θ c) (values s θ cs)

-- The term of a known type, by its inversion, kind, id and children: what is its own inverse has its inversion in its children.
unfoldable pub made : Words → Bool → ℕ → ℕ → Signed → Signed
made s i k d t = elim (kind_flag s row_own_inverse k d) [ true ↦ scon false k d (turned s i t) | false ↦ scon i k d t ]

-- The id of a known type of kind k at root r; for an Error, which never joins another, the name that ν gives its root.
unfoldable pub label : (ℕ → ℕ) → ℕ → ℕ → ℕ → ℕ
label ν k d r = elim (eqb k kind_error) [ true ↦ ν r | false ↦ d ]

-- The term of root r is what its state says.
abbrev pub SignedFits : Words → (ℕ → ℕ) → SignedSol → ℕ → TypeState → Type 0
SignedFits s ν θ r unknown = Unit {0}
SignedFits s ν θ r (known i k d cs) = θ r ≡ made s i k (label ν k d r) (values s θ cs)

-- The solutions of a table with sides: every node has the term of the type of its root that it is, and every root that of its state.
abbrev pub SignedSolves : Words → (ℕ → ℕ) → Types → SignedSol → Type 0
SignedSolves s ν ts θ = (n : ℕ) → n < length ts → (θ n ≡ value s θ (node_at ts n).up) × SignedFits s ν θ (rep ts n) (state_at ts (rep ts n))

-- The term of root n of a source by its state: a Param is what π gives it, inverted as it is.
abbrev pub SignedSuits : Words → (ℕ → ℕ) → SignedSol → SignedSol → ℕ → TypeState → Type 0
SignedSuits s ν π τ n unknown = Unit {0}
SignedSuits s ν π τ n (known i k d cs) = elim (eqb k kind_param) as (λ b. Type 0) [ true ↦ τ n ≡ turned s i (π d) | false ↦ τ n ≡ made s i k (label ν k d n) (values s τ cs) ]

-- τ reads a source table whose nodes are their own roots, its Params as π says.
abbrev pub SignedReads : Words → (ℕ → ℕ) → Types → SignedSol → SignedSol → Type 0
SignedReads s ν src π τ = (n : ℕ) → n < length src → SignedSuits s ν π τ n (state_at src n)

-- Terms with sides that the types xs of a source and the types ys of a table both are: in a solution of the table, and in a reading of the source by some choice for its Params. No two Errors have one name, be they of the table, of the source, or one of either.
pub record SignedCommon (s : Words) (ts src : Types) (xs ys : List Ty) : Type 0 where
  pub σ : SignedSol
  pub name : ℕ → ℕ
  pub solves : SignedSolves s name ts σ
  pub π : SignedSol
  pub τ : SignedSol
  pub called : ℕ → ℕ
  pub reads : SignedReads s called src π τ
  pub same : values s τ xs ≡ values s σ ys
  pub apart : (a b : ℕ) → a < length ts → b < length ts → rep ts a ≡ a → rep ts b ≡ b → IsError (state_at ts a) → IsError (state_at ts b) → name a ≡ name b → a ≡ b
  pub apart-source : (a b : ℕ) → a < length src → b < length src → IsError (state_at src a) → IsError (state_at src b) → called a ≡ called b → a ≡ b
  pub apart-both : (a b : ℕ) → a < length src → b < length ts → rep ts b ≡ b → IsError (state_at src a) → IsError (state_at ts b) → called a ≢ name b

not_twice : (b : Bool) → not (not b) ≡ b
not_twice true = refl
not_twice false = refl

xor_self : (b : Bool) → xor b b ≡ false
xor_self true = refl
xor_self false = refl

-- The inversion of what was met inverted.
side_through : (a b i j : Bool) → xor i (xor (xor i a) (xor j b)) ≡ xor (xor b a) j
side_through a b i j = xor_assoc i (xor i a) (xor j b) ∙ ap (λ x. xor x (xor j b)) (xor_twice i a) ∙ xor_comm a (xor j b) ∙ sym (xor_assoc j b a) ∙ xor_comm j (xor b a)

module _ (s : Words) where
  pub inverse_own : (b : Bool) (k d : ℕ) (t : Signed) → kind_flag s row_own_inverse k d ≡ true → inverse s (scon b k d t) ≡ scon b k d (inverse s t)
  unfolding inverse
  inverse_own b k d t e = rw (e, inverse)

  inverse_other : (b : Bool) (k d : ℕ) (t : Signed) → kind_flag s row_own_inverse k d ≡ false → inverse s (scon b k d t) ≡ scon (not b) k d t
  unfolding inverse
  inverse_other b k d t e = rw (e, inverse)

  pub made_own : (i : Bool) (k d : ℕ) (t : Signed) → kind_flag s row_own_inverse k d ≡ true → made s i k d t ≡ scon false k d (turned s i t)
  unfolding made
  made_own i k d t e = rw (e, made)

  pub made_other : (i : Bool) (k d : ℕ) (t : Signed) → kind_flag s row_own_inverse k d ≡ false → made s i k d t ≡ scon i k d t
  unfolding made
  made_other i k d t e = rw (e, made)

  -- Inverted twice is upright.
  pub inverse_twice : (t : Signed) → inverse s (inverse s t) ≡ t
  unfolding inverse
  inverse_twice (svar n b) = ap (svar n) (not_twice b)
  inverse_twice (scon b k d t) = go (kind_flag s row_own_inverse k d) refl (inverse_twice t)
    where
      go : (o : Bool) → kind_flag s row_own_inverse k d ≡ o → inverse s (inverse s t) ≡ t → inverse s (inverse s (scon b k d t)) ≡ scon b k d t
      go true e ih = ap (inverse s) (inverse_own b k d t e) ∙ inverse_own b k d (inverse s t) e ∙ ap (scon b k d) ih
      go false e ih = ap (inverse s) (inverse_other b k d t e) ∙ inverse_other (not b) k d t e ∙ ap (λ x. scon x k d t) (not_twice b)
  inverse_twice snil = refl
  inverse_twice (scons t u) = ap₂ scons (inverse_twice t) (inverse_twice u)

  pub turned_twice : (a b : Bool) (t : Signed) → turned s a (turned s b t) ≡ turned s (xor a b) t
  unfolding turned
  turned_twice true true t = inverse_twice t
  turned_twice true false t = refl
  turned_twice false b t = refl

  pub turned-back : (b : Bool) (t : Signed) → turned s b (turned s b t) ≡ t
  unfolding turned
  turned-back true t = inverse_twice t
  turned-back false t = refl

  pub inverse-turned : (b : Bool) (t : Signed) → inverse s (turned s b t) ≡ turned s b (inverse s t)
  unfolding turned
  inverse-turned true t = refl
  inverse-turned false t = refl

  -- What is its own inverse is one term, inverted or not.
  pub turned_own : (b : Bool) (t : Signed) → inverse s t ≡ t → turned s b t ≡ t
  unfolding turned
  turned_own true t e = e
  turned_own false t e = refl

  pub turned-made : (b i : Bool) (k d : ℕ) (t : Signed) → turned s b (made s i k d t) ≡ made s (xor b i) k d t
  unfolding turned
  turned-made false i k d t = refl
  turned-made true i k d t = go (kind_flag s row_own_inverse k d) refl
    where
      go : (o : Bool) → kind_flag s row_own_inverse k d ≡ o → inverse s (made s i k d t) ≡ made s (not i) k d t
      go true e = ap (inverse s) (made_own i k d t e) ∙ inverse_own false k d (turned s i t) e ∙ ap (scon false k d) (turned_twice true i t) ∙ sym (made_own (not i) k d t e)
      go false e = ap (inverse s) (made_other i k d t e) ∙ inverse_other i k d t e ∙ sym (made_other (not i) k d t e)

  pub value_invert : (θ : SignedSol) (b : Bool) (t : Ty) → value s θ (invert_if b t) ≡ turned s b (value s θ t)
  unfolding value invert_if
  value_invert θ b t = sym (turned_twice b t.0 (θ t.1))

  pub turned-values : (θ : SignedSol) (b : Bool) (cs : List Ty) → turned s b (values s θ cs) ≡ values s θ (map (invert_if b) cs)
  unfolding values turned inverse
  turned-values θ true [] = refl
  turned-values θ false [] = refl
  turned-values θ true (c ∷ cs) = ap₂ scons (sym (value_invert θ true c)) (turned-values θ true cs)
  turned-values θ false (c ∷ cs) = ap₂ scons (sym (value_invert θ false c)) (turned-values θ false cs)

  pub values_same : (θ σ : SignedSol) (cs : List Ty) → ((j : ℕ) → j < length cs → θ (get_or cs j (false, 0)).1 ≡ σ (get_or cs j (false, 0)).1) → values s θ cs ≡ values s σ cs
  unfolding values value
  values_same θ σ [] h = refl
  values_same θ σ (c ∷ cs) h = ap₂ scons (ap (turned s c.0) (h 0 (omega arith))) (values_same θ σ cs (λ j l. h (suc j) (omega arith)))

  -- A type has the term of the type of its root that it is.
  pub value-find : (ts : Types) (θ : SignedSol) (t : Ty) → θ t.1 ≡ value s θ (node_at ts t.1).up → value s θ t ≡ value s θ (find ts t)
  unfolding value find invert_if
  value-find ts θ t e = ap (turned s t.0) e ∙ turned_twice t.0 (node_at ts t.1).up.0 (θ (node_at ts t.1).up.1)

  -- Two known types of one kind and id that met, their children inverted as they were.
  pub made-met : (a b i j : Bool) (k d : ℕ) (t u : Signed) → (kind_flag s row_own_inverse k d ≡ false → xor i a ≡ xor j b) → t ≡ turned s (xor (xor i a) (xor j b)) u → made s i k d t ≡ made s (xor (xor b a) j) k d u
  unfolding turned
  made-met a b i j k d t u f e = go (kind_flag s row_own_inverse k d) refl
    where
      inv : Bool
      inv = xor (xor i a) (xor j b)

      go : (o : Bool) → kind_flag s row_own_inverse k d ≡ o → made s i k d t ≡ made s (xor (xor b a) j) k d u
      go true q = made_own i k d t q ∙ ap (scon false k d) (ap (turned s i) e ∙ turned_twice i inv u ∙ ap (λ x. turned s x u) (side_through a b i j)) ∙ sym (made_own (xor (xor b a) j) k d u q)
      go false q =
          let z : inv ≡ false = ap (λ x. xor x (xor j b)) (f q) ∙ xor_self (xor j b) in
          made_other i k d t q ∙ ap₂ (λ (x : Bool) (y : Signed). scon x k d y) (sym (side_by b a i j (f q))) (e ∙ ap (λ x. turned s x u) z) ∙ sym (made_other (xor (xor b a) j) k d u q)

-- The label of what is no Error is its id,
pub label-plain : (ν : ℕ → ℕ) (k d r : ℕ) → k ≢ kind_error → label ν k d r ≡ d
unfolding label
label-plain ν k d r h = rw (eqb_false k kind_error h, label)

-- that of an Error its name,
pub label_error : (ν : ℕ → ℕ) (k d r : ℕ) → k ≡ kind_error → label ν k d r ≡ ν r
unfolding label
label_error ν k d r h = rw (eqb_true k kind_error h, label)

-- one where names are one.
pub label_same : (ν μ : ℕ → ℕ) (k d r r' : ℕ) → ν r ≡ μ r' → label ν k d r ≡ label μ k d r'
unfolding label
label_same ν μ k d r r' e = go (eqb k kind_error) refl
  where
    go : (b : Bool) → eqb k kind_error ≡ b → label ν k d r ≡ label μ k d r'
    go true q = rw (q, label) e
    go false q = rw (q, label)

-- Flags do not depend on the name of an Error.
pub label_flag : (s : Words) (j : ℕ) (ν : ℕ → ℕ) (k d r : ℕ) → kind_flag s j k (label ν k d r) ≡ kind_flag s j k d
unfolding label kind_flag self_dual
label_flag s j ν k d r = go (ℕ_discrete k kind_error)
  where
    go : Dec (k ≡ kind_error) → kind_flag s j k (label ν k d r) ≡ kind_flag s j k d
    go (yes q) = subst (λ x. kind_flag s j x (label ν x d r) ≡ kind_flag s j x d) (sym q) refl
    go (no q) = ap (kind_flag s j k) (label-plain ν k d r q)

-- Nodes of one class have one name.
abbrev pub Named : (ℕ → ℕ) → Types → Type 0
Named ν ts = (a b : ℕ) → a < length ts → b < length ts → rep ts a ≡ rep ts b → ν a ≡ ν b
