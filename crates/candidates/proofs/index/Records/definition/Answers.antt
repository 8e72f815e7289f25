-- `definition`: its record stands where the index says.
use Rattle.std.proofs.Common.{rules}
use Rattle.candidates.specs.Index.{definition_is}
use Rattle.candidates.proofs.index.Records.definition.Goals as goal

pub returns : goal.returns
returns c = search (rules, definition_is)
