-- Robinson's theorem for the code: for every verdict and every words that `unify` may leave by its contract, on well-formed, acyclic, upright and error-free tables.
use Rattle.std.specs.Prelude.{ℕ, ◌<◌, ◌≡◌, refl, ◌↔◌, length}
use Rattle.std.proofs.Common.{sym, ◌∙◌, ap, subst}
use Rattle.rules.specs.Lists.{Words}
use Rattle.rules.specs.Types.{Types, success, failure, indeterminate, Unified, unify}
use Rattle.rules.specs.Types as rules
use Rattle.rules.specs.Transfer.{type_of_word}
use Rattle.rules.specs.Robinson.{Sol, Solves, sub, reading, Plain, PlainType, IsMostGeneral, robinson}
use Rattle.rules.specs.Robinson as theorem
use Rattle.table.specs.Packing.{types_of}
use Rattle.memo.specs.declared.verdict.UnifyResult.{UnifyResult}
use Rattle.memo.specs.declared.verdict.UnifyResult.TheVariants.{Success, Failure, Indeterminate}
use Rattle.memo.specs.Verdicts.{result_of}
use Rattle.unify.specs.Results.{Unifies}

-- ws are the words before, us after, v the verdict, for type words a and b.
pub record Robinson (ws us : Words) (v : UnifyResult) (a b : ℕ) : Type 0 where
  -- It succeeds exactly if there is a unifier.
  pub succeeds : (v ≡ Success) ↔ ((τ : Sol) × theorem.Unifies (types_of ws) (type_of_word a) (type_of_word b) τ)
  -- After success the table's solutions are the old solutions at which the two types agree.
  pub solutions : v ≡ Success → (θ : Sol) → Solves (types_of us) θ ↔ (Solves (types_of ws) θ × (θ (type_of_word a).1 ≡ θ (type_of_word b).1))
  -- After success the table reads as a most general unifier of the two,
  pub general : v ≡ Success → IsMostGeneral (types_of ws) (type_of_word a) (type_of_word b) (reading (types_of us))
  -- applied to what it read as before.
  pub reads : v ≡ Success → (n : ℕ) → n < length (types_of ws) → reading (types_of us) n ≡ sub (reading (types_of us)) (reading (types_of ws) n)
  -- Whatever the verdict, the table stays as long, well formed, acyclic, upright and error-free.
  pub len : length (types_of us) ≡ length (types_of ws)
  pub after : Plain (types_of us)

abbrev Lost : rules.UnifyResult → Type 0
Lost success = ⊥
Lost failure = Unit {0}
Lost indeterminate = Unit {0}

won : (v : UnifyResult) → result_of v ≡ success → v ≡ Success
unfolding result_of
won Success e = refl
won Failure e = absurd (subst Lost e tt)
won Indeterminate e = absurd (subst Lost e tt)

-- What meets the contract of `unify` meets the theorem.
pub unify_robinson : (s ws us : Words) (v : UnifyResult) (a b : ℕ) → Plain (types_of ws) → PlainType (types_of ws) (type_of_word a) → PlainType (types_of ws) (type_of_word b) → Unifies us v (unify s (types_of ws) (type_of_word a) (type_of_word b)) → Robinson ws us v a b
unfolding result_of
unify_robinson s ws us v a b plain pa pb u = record {
  succeeds = (λ z. r.succeeds.0 (yes z), λ t. won v (verdict ∙ r.succeeds.1 t));
  solutions = λ z. subst (λ (ts : Types). (θ : Sol) → Solves ts θ ↔ (Solves (types_of ws) θ × (θ (type_of_word a).1 ≡ θ (type_of_word b).1))) (sym end) (r.solutions (yes z));
  general = λ z. subst (λ (ts : Types). IsMostGeneral (types_of ws) (type_of_word a) (type_of_word b) (reading ts)) (sym end) (r.general (yes z));
  reads = λ z. subst (λ (ts : Types). (n : ℕ) → n < length (types_of ws) → reading ts n ≡ sub (reading ts) (reading (types_of ws) n)) (sym end) (r.reads (yes z));
  len = ap length end ∙ r.len;
  after = subst Plain (sym end) r.after;
}
  where
    r : theorem.Robinson s (types_of ws) (type_of_word a) (type_of_word b)
    r = robinson s (types_of ws) plain (type_of_word a) (type_of_word b) pa pb

    verdict : result_of v ≡ (unify s (types_of ws) (type_of_word a) (type_of_word b)).0
    verdict = ap (λ (m : Unified). m.0) u.is

    end : types_of us ≡ (unify s (types_of ws) (type_of_word a) (type_of_word b)).1
    end = ap (λ (m : Unified). m.1) u.is

    yes : v ≡ Success → (unify s (types_of ws) (type_of_word a) (type_of_word b)).0 ≡ success
    yes z = sym verdict ∙ ap result_of z
