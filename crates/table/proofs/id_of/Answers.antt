-- `id_of`: an unknown node has no id.
use Rattle.std.proofs.Common.{◌∙◌, refl, sym}
use Rattle.table.specs.Reads.{id_none, id_bare, id_over}
use Rattle.table.proofs.id_of.Goals as goal

pub returns-in_default : goal.returns-in_default
returns-in_default c = id_none _ _ _ (sym c.in_default.ensures.none) refl

pub returns-then-arity-eq0 : goal.returns-then-arity-eq0
returns-then-arity-eq0 c = id_bare _ _ _ refl c.in-Some.ensures.known _ _ c.field-z.ensures c.in-Some.ensures.is (sym c.arity.ensures ∙ c.if-arity-eq0.true)

pub returns-else-arity-eq0 : goal.returns-else-arity-eq0
returns-else-arity-eq0 c = id_over _ _ _ refl c.in-Some.ensures.known _ _ c.field-z.ensures c.in-Some.ensures.is (λ e. c.if-arity-eq0.false (c.arity.ensures ∙ e))
