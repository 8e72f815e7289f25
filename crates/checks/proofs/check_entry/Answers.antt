-- `check_entry`: the lengths, then the count.
use Rattle.checks.specs.Numbers.{passed_on, refuses, passes, requires, not_within, entry_sheet, entry_past, answer_limit, work_limit, count_limit}
use Rattle.refusals.specs.declared.Refusal.TheVariants.{QuestionLength, AnswerLength, WorkspaceLength, StartCount}
use Rattle.checks.proofs.check_entry.Goals as goal

pub returns-in_err-check_length : goal.returns-in_err-check_length
returns-in_err-check_length c = passed_on _ _ _ c.from_residual.ensures (entry_sheet _ _ _ _ _ _ c.in_err-check_length.ensures)

pub returns-in_err-require : goal.returns-in_err-require
returns-in_err-require c = passed_on _ _ _ c.from_residual-in_err-require.ensures (entry_past _ _ _ _ _ _ c.in_ok-check_length.ensures (refuses QuestionLength _ _ (not_within c.within.ensures) _ _ c.in_err-require.ensures))

pub returns-in_err-require-2 : goal.returns-in_err-require-2
returns-in_err-require-2 c = passed_on _ _ _ c.from_residual-in_err-require-2.ensures (entry_past _ _ _ _ _ _ c.in_ok-check_length.ensures (passes QuestionLength _ _ (not_within c.within.ensures) _ _ c.in_ok-require.ensures (refuses AnswerLength _ _ (answer_limit c.args.answer) _ _ c.in_err-require-2.ensures)))

pub returns-in_err-require-3 : goal.returns-in_err-require-3
returns-in_err-require-3 c = passed_on _ _ _ c.from_residual-in_err-require-3.ensures (entry_past _ _ _ _ _ _ c.in_ok-check_length.ensures (passes QuestionLength _ _ (not_within c.within.ensures) _ _ c.in_ok-require.ensures (passes AnswerLength _ _ (answer_limit c.args.answer) _ _ c.in_ok-require-2.ensures (refuses WorkspaceLength _ _ (work_limit c.args.work) _ _ c.in_err-require-3.ensures))))

pub returns : goal.returns
returns c = entry_past _ _ _ _ _ _ c.in_ok-check_length.ensures (passes QuestionLength _ _ (not_within c.within.ensures) _ _ c.in_ok-require.ensures (passes AnswerLength _ _ (answer_limit c.args.answer) _ _ c.in_ok-require-2.ensures (passes WorkspaceLength _ _ (work_limit c.args.work) _ _ c.in_ok-require-3.ensures (requires StartCount _ _ (count_limit c.args.count) _ c.require-4.ensures))))
