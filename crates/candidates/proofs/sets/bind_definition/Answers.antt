-- `bind_definition`: the head is the definition's.
use Rattle.std.proofs.Common.{rules}
use Rattle.candidates.specs.Sets.{definition_bound}
use Rattle.candidates.proofs.sets.bind_definition.Goals as goal

pub returns : goal.returns
returns c = search (rules, definition_bound)
