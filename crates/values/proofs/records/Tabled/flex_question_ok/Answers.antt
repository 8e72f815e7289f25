-- `flex_question_ok`: the table, the type word and the zero.
use Rattle.std.proofs.Common.{rules}
use Rattle.values.specs.Verdict.{flex_rows, flex_question-found}
use Rattle.values.proofs.records.Tabled.flex_question_ok.Goals as goal

pub table_ok-x-requires : goal.table_ok-x-requires
table_ok-x-requires c = search (rules, flex_rows)

pub returns : goal.returns
returns c = search (rules, flex_question-found)
