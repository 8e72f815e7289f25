-- `unify_impl_types`: by the traits.
use Rattle.std.proofs.Common.{rules, ⊎_elim}
use Rattle.unify.specs.Lists.{impl_left, impl_right, impl_differ, impl_same}
use Rattle.unify.proofs.unify_impl_types.Goals as goal

pub returns-then-a-eq0 : goal.returns-then-a-eq0
returns-then-a-eq0 c = ⊎_elim (λ z. search (rules, impl_left)) (λ z. search (rules, impl_right)) c.then-a-eq0.either

pub returns-then-a-b : goal.returns-then-a-b
returns-then-a-b c = search (rules, impl_differ)

pub returns : goal.returns
returns c = search (rules, impl_same)
