-- How a question starts: 18, 15, or what comes before its candidates; and its candidates.
use Prim.Native.Nat.{ℕ, zero, suc, ◌+◌, ◌-◌, ◌≤◌, ◌<◌}
use Rattle.std.specs.Prelude.{◌≡◌, refl, Bool, false, ◌≢◌, List, ltb}
use Rattle.std.proofs.Common.{sym, ◌∙◌, add-one}
use Rattle.std.proofs.Math.Path.{ap}
use native.Mathlib.Omega.{arith}
use borrow.Author.Tests.{lt-ltb, le-ltb}
use Rattle.rules.specs.Types.{Types, ImplType}
use Rattle.rules.specs.Run.{Run, ◌>>=◌, refused, within}
use Rattle.steps.specs.Asking.{finder_of, Searching}
use Rattle.finder.specs.declared.Search.{Search}
use Rattle.rules.specs.Search.{Finder, Result, collect, find_impl_candidates, try_candidate, before_candidates, question}

-- The rules' finder of a search.
abbrev pub finder_in : Search → Finder
finder_in x = finder_of x.sheet.now x.f

-- The call has passed its checks, and the sets of its source stand.
abbrev pub SearchingIn : Search → Type 0
SearchingIn x = Searching x.sheet.now x.sets.now x.f

-- The question one level down.
abbrev pub ask_below : ℕ → Finder → Types → ImplType → Run (List Result)
ask_below d a us r = question d a false us r

-- Of a question with d levels left below it: what is left after built-ins and impl parameters.
unfoldable pub candidates_left : ℕ → Finder → Bool → Types → ImplType → List Result → Run (List Result)
candidates_left d a basic ts q fs = find_impl_candidates a ts q basic >>= λ is. collect (try_candidate (ask_below d a) a.sheet ts q) is fs

module _ (L : ℕ) (a : Finder) (basic : Bool) (ts : Types) (q : ImplType) (c : ℕ) where
  -- Above the limit it is 18, whatever depth is left; then 15.
  pub question_over : (d : ℕ) → L ≤ c → within (ltb L) (question d a basic ts q) c ≡ (refused 18, c + 1)
  unfolding question within
  question_over zero h = rw (lt-ltb L (suc c) (omega arith), within) (ap (λ n. (refused 18, n)) (sym (add-one c)))
  question_over (suc d) h = rw (lt-ltb L (suc c) (omega arith), within) (ap (λ n. (refused 18, n)) (sym (add-one c)))

  pub question_deep : (d : ℕ) → d ≡ 0 → c < L → within (ltb L) (question d a basic ts q) c ≡ (refused 15, c + 1)
  unfolding question within
  question_deep d e h = rw (e, le-ltb L (suc c) (omega arith), within) (ap (λ n. (refused 15, n)) (sym (add-one c)))

  -- Else the count has risen, and it starts without results.
  pub question_start : (d : ℕ) → d ≢ 0 → c < L → within (ltb L) (question d a basic ts q) c ≡ within (ltb L) (before_candidates a basic ts q >>= λ fs. candidates_left (d - 1) a basic ts q fs) (c + 1)
  unfolding question within candidates_left
  question_start zero e h = absurd (e refl)
  question_start (suc d) e h =
      rw (le-ltb L (suc c) (omega arith), within)
      (ap (λ n. within (ltb L) (before_candidates a basic ts q >>= λ fs. candidates_left n a basic ts q fs) (suc c)) (let z : d ≡ suc d - 1 = omega arith in z)
      ∙ ap (λ n. within (ltb L) (before_candidates a basic ts q >>= λ fs. candidates_left (suc d - 1) a basic ts q fs) n) (sym (add-one c)))
