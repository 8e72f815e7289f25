-- `source`: the marks are cleared first.
use Rattle.std.proofs.Common.{rules}
use Rattle.candidates.specs.Source.{cleared_keeps, sourced}
use Rattle.candidates.proofs.source.source.Goals as goal

pub climb-requires : goal.climb-requires
climb-requires c = search (rules, cleared_keeps)

pub returns : goal.returns
returns c = search (rules, sourced)
