-- `join_on_success`: by the verdict.
use Rattle.std.proofs.Common.{rules, sym}
use Rattle.unify.specs.Binding.{success_roots, success_joins}
use Rattle.unify.proofs.Success.{other_stays}
use Rattle.unify.proofs.join_on_success.Goals as goal

pub join-requires-clause-roots : goal.join-requires-clause-roots
join-requires-clause-roots c = search (rules, success_roots)

pub returns-then-eq : goal.returns-then-eq
returns-then-eq c = search (rules, success_joins)

pub returns-else-eq : goal.returns-else-eq
returns-else-eq c = other_stays _ _ _ _ _ (sym c.if-eq.ensures) c.requires.packed
