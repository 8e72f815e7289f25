-- `+own_walk`: the root and then its children, and the fuel falls.
use Rattle.std.specs.Prelude.{not, refl}
use Rattle.std.proofs.Common.{ap, rules}
use Rattle.order.specs.Owning.{owning_not, owning_on, owns_flag, owns_kids}
use Rattle.order.specs.Words.{kids_below}
use Rattle.order.proofs.+own_walk.Goals as goal

pub own-returns-then-not-may_own : goal.own-returns-then-not-may_own
own-returns-then-not-may_own t c = search (rules, owns_flag)

pub own-returns-then-not-own_all : goal.own-returns-then-not-own_all
own-returns-then-not-own_all t c = owns_kids _ _ _ _ _ _ _ _ _ (λ h. c.in-Some.ensures.1) c.in-Some.ensures.0 c.state-p.ensures c.own_all.ensures (ap not c.if-not-own_all.true)

pub own_all-returns-then-not-own : goal.own_all-returns-then-not-own
own_all-returns-then-not-own t c = owning_not _ _ _ _ _ _ _ c.loop-j.invariant _ _ _ _ (kids_below _ _ _ _ _ c.in-Some.ensures) c.loop-j-test.true refl c.own.ensures (ap not c.if-not-own.true)

pub own_all-loop-j-preserved : goal.own_all-loop-j-preserved
own_all-loop-j-preserved t c = search (rules, owning_on)
