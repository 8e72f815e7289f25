-- `generics_ok`: the words of the record, its table and impl parameters.
use Rattle.std.proofs.Common.{rules}
use Rattle.values.specs.Verdict.{generics_table-rows, generics_table_forward, generics_params_rows, generics_found}
use Rattle.values.proofs.records.Linked.generics_ok.Goals as goal

pub table_ok-x-requires : goal.table_ok-x-requires
table_ok-x-requires c = search (rules, generics_table-rows)

pub params_ok-y-requires : goal.params_ok-y-requires
params_ok-y-requires c = search (rules, generics_table_forward, generics_params_rows)

pub returns : goal.returns
returns c = search (rules, generics_found)
