-- `impl_question_ok`: the table and the arguments.
use Rattle.std.proofs.Common.{rules}
use Rattle.values.specs.Verdict.{question-rows, question_forward, question_args_forward, impl_question-found}
use Rattle.values.proofs.records.Tabled.impl_question_ok.Goals as goal

pub table_ok-x-requires : goal.table_ok-x-requires
table_ok-x-requires c = search (rules, question-rows)

pub args_ok-y-requires : goal.args_ok-y-requires
args_ok-y-requires c = search (rules, question_forward, question_args_forward)

pub returns : goal.returns
returns c = search (rules, impl_question-found)
