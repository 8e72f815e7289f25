-- `sheet_ok`: the header's words and the ten chains.
use Rattle.std.proofs.Common.{rules}
use Rattle.values.specs.Kept.{kept}
use Rattle.values.specs.Verdict.{values-found}
use Rattle.values.proofs.records.Linked.sheet_ok.Goals as goal

pub chains_ok-z-requires : goal.chains_ok-z-requires
chains_ok-z-requires c = search (rules, kept)

pub returns : goal.returns
returns c = search (rules, values-found)
