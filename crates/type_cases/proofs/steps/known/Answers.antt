-- `known`: what was tested fits a node.
use Rattle.std.proofs.Common.{rules}
use Rattle.type_cases.specs.Steps.{tested-words, known_pushed}
use Rattle.type_cases.proofs.steps.known.Goals as goal

pub invariant_of-known-clause-type_words : goal.invariant_of-known-clause-type_words
invariant_of-known-clause-type_words c = search (rules, tested-words)

pub returns : goal.returns
returns c = search (rules, known_pushed)
