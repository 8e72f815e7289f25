-- `links_ok`: two planes say whether a binding or a member is out of range.
use Rattle.std.proofs.Common.{rules}
use Rattle.values.specs.Verdict.{links_found}
use Rattle.values.proofs.records.Linked.links_ok.Goals as goal

pub returns : goal.returns
returns c = search (rules, links_found)
