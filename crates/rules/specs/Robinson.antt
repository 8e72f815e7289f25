-- Unification against Robinson (1965): J. A. Robinson, A Machine-Oriented Logic Based on the Resolution Principle. On upright, error-free tables `unify` succeeds exactly if a unifier exists, and a success is a most general one.
use Rattle.std.specs.Prelude.{ℕ, suc, ◌<◌, ◌≡◌, refl, false, ◌↔◌}
use Rattle.std.proofs.Math.Path.{sym, ap, subst}
use Rattle.std.proofs.Common.{◌∙◌}
use Rattle.std.proofs.Math.ListN.{length}
use Rattle.rules.specs.Lists.{Words}
use Rattle.rules.specs.Types.{Ty, TypeState, unknown, known, Types, state_at, success, unify}
use Rattle.rules.specs.Solutions.{solves_sub, unique, instance, known≢}
use Rattle.rules.specs.Joining.{After, agree}
use Rattle.rules.specs.MostGeneral.{Won, unify_in_right}
use Rattle.rules.specs.UnifyKeeps.{StaysAcyclic, unify-acyclic}
use Rattle.rules.specs.UprightTables.{unify-upright}
use Rattle.rules.specs.UnifierFound.{unify-found}
-- The words of the theorem, passed on.
unfoldable pub use Rattle.rules.specs.Solutions.{term_size, terms, rep, sub}
pub use Rattle.rules.specs.Solutions.{Term, var, con, nil, cons, Sol, Fits, Solves, AllIn, ChildrenIn, WellFormed, Free, Readable, eqb_true, eqb_false}
unfoldable pub use Rattle.rules.specs.Readings.{reading}
pub use Rattle.rules.specs.Readings.{Acyclic, reading-free, acyclic_iff_readable, acyclic_iff_none}
pub use Rattle.rules.specs.MostGeneral.{flip_in}
pub use Rattle.rules.specs.UprightTables.{Upright, PlainState, UprightErrorFree}

-- The verdict is success,
abbrev pub Succeeds : Words → Types → Ty → Ty → Type 0
Succeeds s ts a b = (unify s ts a b).0 ≡ success

-- and the table that `unify` leaves, whatever the verdict.
abbrev pub joined : Words → Types → Ty → Ty → Types
joined s ts a b = (unify s ts a b).1

-- What a success leaves, of all tables, inverted and with Error too: the solutions of the table after it are those of the table before it at which the two types agree.
pub unify_solutions : (s : Words) (ts : Types) (a b : Ty) → WellFormed ts → a.1 < length ts → b.1 < length ts → Readable ts → Succeeds s ts a b → (θ : Sol) → Solves (joined s ts a b) θ ↔ (Solves ts θ × (θ a.1 ≡ θ b.1))
unfolding unify
unify_solutions s ts a b formed ha hb fr e θ =
    let r = (unify_in_right (suc (length ts)) s ts a b formed ha hb fr (subst Won (sym e) tt)).0 in
    (λ sv. (r.out θ sv, agree ts _ a.1 b.1 ha hb r θ sv), λ p. r.into θ p.0 p.1)

-- A table of which the theorem speaks: well formed, acyclic, upright and error-free.
pub record Plain (ts : Types) : Type 0 where
  pub formed : WellFormed ts
  pub acyclic : Acyclic ts
  pub upright : UprightErrorFree ts

-- An upright type of it.
pub record PlainType (ts : Types) (a : Ty) : Type 0 where
  pub inside : a.1 < length ts
  pub upright : a.0 ≡ false

-- A unifier of two types: a substitution for the unknowns of the table that makes the terms that they read as one.
abbrev pub Unifies : Types → Ty → Ty → Sol → Type 0
Unifies ts a b τ = sub τ (reading ts a.1) ≡ sub τ (reading ts b.1)

-- A most general unifier: every other is it, and then that other.
pub record IsMostGeneral (ts : Types) (a b : Ty) (μ : Sol) : Type 0 where
  pub unifies : Unifies ts a b μ
  pub general : (τ : Sol) → Unifies ts a b τ → (n : ℕ) → n < length ts → sub τ (sub μ (reading ts n)) ≡ sub τ (reading ts n)

-- Robinson's theorem, for `unify` of two types of a table.
pub record Robinson (s : Words) (ts : Types) (a b : Ty) : Type 0 where
  -- It succeeds exactly if there is a unifier.
  pub succeeds : Succeeds s ts a b ↔ ((τ : Sol) × Unifies ts a b τ)
  -- After success the table's solutions are the old solutions at which the two types agree.
  pub solutions : Succeeds s ts a b → (θ : Sol) → Solves (joined s ts a b) θ ↔ (Solves ts θ × (θ a.1 ≡ θ b.1))
  -- After success the table reads as a most general unifier of the two,
  pub general : Succeeds s ts a b → IsMostGeneral ts a b (reading (joined s ts a b))
  -- applied to what it read as before.
  pub reads : Succeeds s ts a b → (n : ℕ) → n < length ts → reading (joined s ts a b) n ≡ sub (reading (joined s ts a b)) (reading ts n)
  -- Whatever the verdict, the table stays as long, well formed, acyclic, upright and error-free.
  pub len : length (joined s ts a b) ≡ length ts
  pub after : Plain (joined s ts a b)

module _ (s : Words) (ts : Types) (plain : Plain ts) (a b : Ty) (pa : PlainType ts a) (pb : PlainType ts b) where
  free : Free ts (reading ts)
  free = reading-free ts plain.formed plain.acyclic

  stays : StaysAcyclic ts (joined s ts a b)
  stays = unify-acyclic s ts a b plain.formed plain.acyclic pa.inside pb.inside

  free-after : Free (joined s ts a b) (reading (joined s ts a b))
  free-after = reading-free (joined s ts a b) stays.formed stays.acyclic

  -- Wherever there is a unifier, it is found.
  found : (τ : Sol) → Unifies ts a b τ → Succeeds s ts a b
  found τ u = unify-found s ts a b plain.formed plain.upright pa.inside pb.inside pa.upright pb.upright (reading ts, free) (λ n. sub τ (reading ts n)) (solves_sub ts τ (reading ts) free.solves) u

  module _ (e : Succeeds s ts a b) where
    r : After ts a.1 b.1 (joined s ts a b)
    unfolding unify
    r = (unify_in_right (suc (length ts)) s ts a b plain.formed pa.inside pb.inside (reading ts, free) (subst Won (sym e) tt)).0

    anew : (n : ℕ) → n < length ts → sub (reading (joined s ts a b)) (reading ts n) ≡ reading (joined s ts a b) n
    anew n h = instance ts (reading ts) (reading (joined s ts a b)) plain.formed free (r.out _ free-after.solves) n h

    one : Unifies ts a b (reading (joined s ts a b))
    one = anew a.1 pa.inside ∙ agree ts _ a.1 b.1 pa.inside pb.inside r _ free-after.solves ∙ sym (anew b.1 pb.inside)

    -- An unknown of the table after it was one before.
    unknown_before : (n : ℕ) → n < length ts → rep (joined s ts a b) n ≡ n → state_at (joined s ts a b) n ≡ unknown → state_at ts n ≡ unknown
    unknown_before n h rn u = go (state_at ts n) refl
      where
        go : (st : TypeState) → state_at ts n ≡ st → state_at ts n ≡ unknown
        go unknown q = q
        go (known i k d cs) q = absurd (known≢ (sym q ∙ sym (r.kept n h (r.fewer n h rn) rn (λ z. known≢ (sym q ∙ z))) ∙ u))

    most : (τ : Sol) → Unifies ts a b τ → (n : ℕ) → n < length ts → sub τ (sub (reading (joined s ts a b)) (reading ts n)) ≡ sub τ (reading ts n)
    unfolding sub
    most τ u n h =
        ap (sub τ) (anew n h)
        ∙ unique (joined s ts a b) (λ m. sub τ (reading (joined s ts a b) m)) (λ m. sub τ (reading ts m)) stays.formed (_, free-after) (solves_sub _ τ _ free-after.solves) (r.into _ (solves_sub ts τ (reading ts) free.solves) u) same n (subst (λ N. n < N) (sym stays.len) h)
      where
        same : (m : ℕ) → m < length (joined s ts a b) → rep (joined s ts a b) m ≡ m → state_at (joined s ts a b) m ≡ unknown → sub τ (reading (joined s ts a b) m) ≡ sub τ (reading ts m)
        same m hm rm um = let h' = subst (λ N. m < N) stays.len hm in ap (sub τ) (free-after.vars m hm rm um ∙ sym (free.vars m h' (r.fewer m h' rm) (unknown_before m h' rm um)))

  -- Robinson's theorem: on a well-formed, acyclic, upright and error-free table, for any two upright types of it.
  pub robinson : Robinson s ts a b
  robinson = record {
    succeeds = (λ e. (_, one e), λ t. found t.0 t.1);
    solutions = unify_solutions s ts a b plain.formed pa.inside pb.inside (reading ts, free);
    general = λ e. record { unifies = one e; general = most e };
    reads = λ e n h. sym (anew e n h);
    len = stays.len;
    after = record { formed = stays.formed; acyclic = stays.acyclic; upright = unify-upright s ts a b plain.formed (reading ts, free) plain.upright pa.inside pb.inside pa.upright pb.upright };
  }
