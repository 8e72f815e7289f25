-- `definition_ok`: the words of the record, and its links.
use Rattle.std.proofs.Common.{rules}
use Rattle.values.specs.Verdict.{definition_found}
use Rattle.values.proofs.records.Linked.definition_ok.Goals as goal

pub returns : goal.returns
returns c = search (rules, definition_found)
