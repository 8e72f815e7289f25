-- `note`: all that lies further on is noted.
use Rattle.std.proofs.Common.{ℕ, ◌≡◌}
use Rattle.values.specs.Folds.{Below, Right, Folded}
use Rattle.values.proofs.folds.note.Given as goal

abbrev pub invariant-loop-i : goal.invariant-loop-i
invariant-loop-i g l = Below l.b l.initial.ws l.ws × ((f : ℕ → ℕ) → f 0 ≡ 0 → Right l.w l.b l.initial.ws f (goal.F-post g l.step) → Folded l.w l.b f l.i l.initial.ws l.ws)
