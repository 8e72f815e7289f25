-- `known`: the sub-questions and their tables are compared.
use Rattle.std.proofs.Common.{rules}
use Rattle.finder.specs.Recalling.{known_same}
use Rattle.finder.proofs.Recall.known.Goals as goal

pub returns-then-nothing-limit : goal.returns-then-nothing-limit
returns-then-nothing-limit c = search (rules, known_same)
