-- `stand`: one word after the other.
use Rattle.std.proofs.Common.{◌≡◌, length}
use Rattle.opening.specs.Standing.{Standing}
use Rattle.opening.proofs.stand.Given as goal

abbrev pub invariant-loop-k : goal.invariant-loop-k
invariant-loop-k l = Standing l.base l.n l.k l.ps × (length l.ps ≡ length l.initial.ps)
