-- `question_acyclic`: the table that the question's first word heads.
use Rattle.std.proofs.Common.{rules}
use Rattle.acyclic.specs.Sheets.{question_inside, question_table_lem}
use Rattle.acyclic.proofs.question_acyclic.Goals as goal

pub acyclic_table-requires-clause-inside : goal.acyclic_table-requires-clause-inside
acyclic_table-requires-clause-inside c = search (rules, question_inside)

pub acyclic_table-requires-clause-s_in_bounds : goal.acyclic_table-requires-clause-s_in_bounds
acyclic_table-requires-clause-s_in_bounds c = search (rules, question_inside)

pub returns-clause-value : goal.returns-clause-value
returns-clause-value c = search (rules, question_table_lem)

pub returns-clause-outside : goal.returns-clause-outside
returns-clause-outside c = search (rules, question_table_lem)
