-- `impl_types_ok`: the table and the arguments.
use Rattle.std.proofs.Common.{rules}
use Rattle.values.specs.Verdict.{impl_table-rows, impl_table_forward, impl_args_forward, impl_types-found}
use Rattle.values.proofs.records.Linked.impl_types_ok.Goals as goal

pub table_ok-x-requires : goal.table_ok-x-requires
table_ok-x-requires c = search (rules, impl_table-rows)

pub args_ok-y-requires : goal.args_ok-y-requires
args_ok-y-requires c = search (rules, impl_table_forward, impl_args_forward)

pub returns : goal.returns
returns c = search (rules, impl_types-found)
