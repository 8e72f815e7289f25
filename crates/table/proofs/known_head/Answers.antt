-- `known_head`: the head says the kind.
use Rattle.std.proofs.Common.{◌∙◌, refl, sym}
use Rattle.table.specs.Reads.{kind_here, kind_past}
use Rattle.table.proofs.known_head.Goals as goal

pub returns-in_err-h-clause-none : goal.returns-in_err-h-clause-none
returns-in_err-h-clause-none c = rw c.from_residual.ensures (sym (kind_past _ _ _ refl c.in_err-h.ensures.past))

pub returns-then-kind-eq0-clause-none : goal.returns-then-kind-eq0-clause-none
returns-then-kind-eq0-clause-none c = sym (kind_here _ _ _ _ refl c.in_ok-h.ensures.there c.in_ok-h.ensures.is) ∙ sym c.kind.ensures ∙ c.if-kind-eq0.true

pub returns-clause-known : goal.returns-clause-known
returns-clause-known c = λ e. c.if-kind-eq0.false (c.kind.ensures ∙ kind_here _ _ _ _ refl c.in_ok-h.ensures.there c.in_ok-h.ensures.is ∙ e)
