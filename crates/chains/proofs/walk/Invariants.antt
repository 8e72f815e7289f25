-- `walk`: a run from here on is one from the head on.
use Rattle.std.proofs.Common.{◌≡◌, length, Bool}
use Rattle.rules.specs.Lists.{Words}
use Rattle.rules.specs.Sheet.{chain}
use Rattle.chains.specs.Walks.{Runs, Calls}
use Rattle.chains.proofs.walk.Given as goal

abbrev pub invariant-loop-p : goal.invariant-loop-p
invariant-loop-p g l =
    (length l.ws ≡ length l.initial.ws)
    × ((vs : Words) (r : Bool) → Runs (Calls (goal.F-post g l.test)) l.p-iterator l.ws vs r → Runs (Calls (goal.F-post g l.test)) (chain l.s l.h) l.initial.ws vs r)
