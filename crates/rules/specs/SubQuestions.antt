-- Sub-questions are asked of neat tables only, with types that are nodes of them: a question comes to the same by any two ways to ask that agree on those.
use Rattle.std.specs.Prelude.{◌≡◌, Bool}
use Rattle.std.proofs.Math.Path.{refl, ap, fun_ext}
use Rattle.std.proofs.Common.{◌∙◌}
use mathlib.Core.List.{List, [], ◌∷◌}
use Rattle.rules.specs.Types.{Types, ImplType}
use Rattle.rules.specs.Run.{Run, ◌>>=◌}
use Rattle.rules.specs.Search.{Finder, Result, add_results, collect, find_impl_candidates, try_candidate, before_candidates}
use Rattle.rules.specs.Yields.{Every}

-- A question, where `ask` is the question one level down.
unfoldable pub question_by : (Types → ImplType → Run (List Result)) → Finder → Bool → Types → ImplType → Run (List Result)
question_by ask a basic ts q =
    before_candidates a basic ts q >>= λ fs.
    find_impl_candidates a ts q basic >>= λ is.
    collect (try_candidate ask a.sheet ts q) is fs

pub collect-same : {B : Type 0} (Q : B → Type 0) (f g : B → Run (List Result)) → ((b : B) → Q b → f b ≡ g b) → (bs : List B) → Every Q bs → (fs : List Result) → collect f bs fs ≡ collect g bs fs
unfolding collect
collect-same Q f g same [] h fs = refl
collect-same Q f g same (b ∷ bs) h fs =
    ap (λ (r : Run (List Result)). r >>= λ gs. add_results fs gs >>= λ hs. collect f bs hs) (same b h.0)
    ∙ ap (λ (k : List Result → Run (List Result)). g b >>= λ gs. add_results fs gs >>= k) (fun_ext (collect-same Q f g same bs h.1))
