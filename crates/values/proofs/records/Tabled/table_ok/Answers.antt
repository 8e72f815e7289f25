-- `table_ok`: three planes say what the nodes ask for.
use Rattle.std.proofs.Common.{rules}
use Rattle.values.specs.Verdict.{table-found}
use Rattle.values.proofs.records.Tabled.table_ok.Goals as goal

pub returns : goal.returns
returns c = search (rules, table-found)
