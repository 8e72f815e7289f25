-- A type that is its own inverse stays so in every later table: it is a term without unknowns, and what solves the later table solves the earlier.
use Prim.Native.Nat.{ℕ, zero, suc, ◌≤◌, ◌<◌}
use Rattle.std.specs.Prelude.{◌≡◌, Bool}
use Rattle.std.proofs.Math.Path.{refl, subst}
use Rattle.std.proofs.Common.{sym, ◌∙◌, ap, true≢false, arith}
use Rattle.std.proofs.Math.Bool.{true, false}
use mathlib.Core.List.{List, [], ◌∷◌}
use Rattle.std.proofs.Math.ListN.{length}
use Rattle.rules.specs.Lists.{Words, all}
use Rattle.rules.specs.Sheet.{kind_flag, row_own_inverse}
use Rattle.rules.specs.Types.{Ty, TypeState, unknown, known, Types, invert_if, invert_state, find, state_at, kind, self_inverse_in, self_inverse}
use Rattle.rules.specs.Solutions.{Term, var, con, nil, cons, term_size, Sol, terms, rep, Fits, Solves, AllIn, ChildrenIn, WellFormed, Free, Fuel, fuel_none, fuel_step, fuel_full}

-- A term of types that are their own inverse, and no unknown.
abbrev pub Own : Words → Term → Type 0
Own s (var n) = ⊥
Own s (con k d t) = (kind_flag s row_own_inverse k d ≡ true) × Own s t
Own s nil = Unit {0}
Own s (cons t u) = Own s t × Own s u

module _ (s : Words) (ts : Types) (formed : WellFormed ts) where
  -- `self_inverse` by what a type's root is: b is its flag.
  pub opened : (k : ℕ) (t : Ty) {i : Bool} {kd d : ℕ} {cs : List Ty} → state_at ts (rep ts t.1) ≡ known i kd d cs → (b : Bool) → kind_flag s row_own_inverse kd d ≡ b → self_inverse_in (suc k) s ts t ≡ elim b [ true ↦ all (λ c. self_inverse_in k s ts c) cs | false ↦ false ]
  unfolding self_inverse_in kind find invert_if rep invert_state
  opened k t q b e = rw (q, e, self_inverse_in, kind)

  none : (k : ℕ) (t : Ty) → state_at ts (rep ts t.1) ≡ unknown → self_inverse_in (suc k) s ts t ≡ false
  unfolding self_inverse_in kind find invert_if rep invert_state
  none k t q = rw (q, self_inverse_in, kind)

  kids : (t : Ty) → t.1 < length ts → {i : Bool} {kd d : ℕ} {cs : List Ty} → state_at ts (rep ts t.1) ≡ known i kd d cs → AllIn (length ts) cs
  kids t h q = subst (ChildrenIn (length ts)) q (formed t.1 h).2

  -- It is such a term in every solution.
  module _ (θ : Sol) (sv : Solves ts θ) where
    own_terms : (f : Ty → Bool) (cs : List Ty) → AllIn (length ts) cs → ((c : Ty) → c.1 < length ts → f c ≡ true → Own s (θ c.1)) → all f cs ≡ true → Own s (terms θ cs)
    unfolding all terms
    own_terms f [] a h e = tt
    own_terms f (c ∷ cs) a h e = go (f c) refl e (own_terms f cs a.1 h)
      where
        go : (b : Bool) → f c ≡ b → all f (c ∷ cs) ≡ true → (all f cs ≡ true → Own s (terms θ cs)) → Own s (terms θ (c ∷ cs))
        go true q z ih = (h c a.0 q, ih (rw (q, all) at z))
        go false q z ih = absurd (true≢false (sym (rw (q, all) at z)))

    own_read : (k : ℕ) (t : Ty) → t.1 < length ts → self_inverse_in k s ts t ≡ true → Own s (θ t.1)
    unfolding self_inverse_in
    own_read zero t h e = absurd (true≢false (sym e))
    own_read (suc k) t h e = go (state_at ts (rep ts t.1)) refl (own_read k)
      where
        go : (st : TypeState) → state_at ts (rep ts t.1) ≡ st → ((c : Ty) → c.1 < length ts → self_inverse_in k s ts c ≡ true → Own s (θ c.1)) → Own s (θ t.1)
        go unknown q ih = absurd (true≢false (sym e ∙ none k t q))
        go (known i kd d cs) q ih = flagged (kind_flag s row_own_inverse kd d) refl
          where
            flagged : (b : Bool) → kind_flag s row_own_inverse kd d ≡ b → Own s (θ t.1)
            flagged true z = subst (Own s) (sym ((sv t.1 h).0 ∙ subst (Fits θ (rep ts t.1)) q (sv t.1 h).1)) (z, own_terms (λ c. self_inverse_in k s ts c) cs (kids t h q) ih (sym (opened k t q true z) ∙ e))
            flagged false z = absurd (true≢false (sym e ∙ opened k t q false z))

  -- What is such a term in the free solution is its own inverse.
  module _ (σ : Sol) (free : Free ts σ) where
    read_terms : (f : Ty → Bool) (cs : List Ty) → AllIn (length ts) cs → ((c : Ty) → c.1 < length ts → term_size (σ c.1) ≤ term_size (terms σ cs) → Own s (σ c.1) → f c ≡ true) → Own s (terms σ cs) → all f cs ≡ true
    unfolding all terms term_size
    read_terms f [] a h o = refl
    read_terms f (c ∷ cs) a h o = rw (h c a.0 (omega arith) o.0, all) (read_terms f cs a.1 (λ c' hc l. h c' hc (omega arith)) o.1)

    read_own : (k : ℕ) (t : Ty) → t.1 < length ts → Fuel k (length ts) σ (term_size (σ t.1)) → Own s (σ t.1) → self_inverse_in k s ts t ≡ true
    unfolding term_size
    read_own zero t h fu o = absurd (fuel_none (length ts) σ (term_size (σ t.1)) fu)
    read_own (suc k) t h fu o = go (state_at ts (rep ts t.1)) refl (read_own k)
      where
        at_root : σ t.1 ≡ σ (rep ts t.1)
        at_root = (free.solves t.1 h).0

        go : (st : TypeState) → state_at ts (rep ts t.1) ≡ st → ((c : Ty) → c.1 < length ts → Fuel k (length ts) σ (term_size (σ c.1)) → Own s (σ c.1) → self_inverse_in k s ts c ≡ true) → self_inverse_in (suc k) s ts t ≡ true
        go unknown q ih = absurd (subst (Own s) (at_root ∙ free.vars (rep ts t.1) (formed t.1 h).0 (formed t.1 h).1 q) o)
        go (known i kd d cs) q ih = opened k t q true own.0 ∙ read_terms (λ c. self_inverse_in k s ts c) cs (kids t h q) (λ c hc l w. ih c hc (fuel_step k (length ts) σ (term_size (σ t.1)) (term_size (σ c.1)) (rep ts t.1) (formed t.1 h).0 (ap term_size (sym at_root)) (omega (arith, ap term_size whole)) fu) w) own.1
          where
            whole : σ t.1 ≡ con kd d (terms σ cs)
            whole = at_root ∙ subst (Fits σ (rep ts t.1)) q (free.solves t.1 h).1

            own : Own s (con kd d (terms σ cs))
            own = subst (Own s) whole o

-- A table and a later one: as long, both well-formed, with a free solution, and what solves it solves the earlier.
pub record Later (ts us : Types) : Type 0 where
  pub before : WellFormed ts
  pub len : length us ≡ length ts
  pub formed : WellFormed us
  pub solution : Sol
  pub free : Free us solution
  pub out : (θ : Sol) → Solves us θ → Solves ts θ

pub own_later : (s : Words) (ts us : Types) → Later ts us → (t : Ty) → t.1 < length ts → self_inverse s ts t ≡ true → self_inverse s us t ≡ true
unfolding self_inverse
own_later s ts us l t h e = read_own s us l.formed l.solution l.free (suc (length us)) t (subst (λ N. t.1 < N) (sym l.len) h) (fuel_full (length us) l.solution _) (own_read s ts l.before l.solution (l.out l.solution l.free.solves) (suc (length ts)) t h e)
