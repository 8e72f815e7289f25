-- `impl_question_tests`: one test after the other.
use Rattle.std.proofs.Common.{ap}
use Rattle.std.proofs.Math.Bool.{not}
use Rattle.checks.specs.Numbers.{passed_on, refuses, passes, requires, impl_inside}
use Rattle.refusals.specs.declared.Refusal.TheVariants.{QuestionChains, QuestionValues, QuestionCycle}
use Rattle.checks.proofs.impl_question_tests.Goals as goal

pub returns-in_err-require : goal.returns-in_err-require
returns-in_err-require c = passed_on _ _ _ c.from_residual.ensures (refuses QuestionChains _ _ (ap not c.impl_question_keeps.ensures) _ _ c.in_err-require.ensures)

pub returns-in_err-require-2 : goal.returns-in_err-require-2
returns-in_err-require-2 c = passed_on _ _ _ c.from_residual-in_err-require-2.ensures (passes QuestionChains _ _ (ap not c.impl_question_keeps.ensures) _ _ c.in_ok-require.ensures (refuses QuestionValues _ _ (ap not c.impl_question_values.ensures) _ _ c.in_err-require-2.ensures))

pub question_acyclic-requires-clause-inside : goal.question_acyclic-requires-clause-inside
question_acyclic-requires-clause-inside c = impl_inside _ _ _ _ c.impl_question_values.ensures c.in_ok-require-2.ensures

pub returns : goal.returns
returns c = passes QuestionChains _ _ (ap not c.impl_question_keeps.ensures) _ _ c.in_ok-require.ensures (passes QuestionValues _ _ (ap not c.impl_question_values.ensures) _ _ c.in_ok-require-2.ensures (requires QuestionCycle _ _ (ap not c.question_acyclic.ensures.value) _ c.require-3.ensures))
