-- `impl_ok`: the words of the record, and its types.
use Rattle.std.proofs.Common.{rules}
use Rattle.values.specs.Verdict.{impl_found}
use Rattle.values.proofs.records.Linked.impl_ok.Goals as goal

pub returns : goal.returns
returns c = search (rules, impl_found)
