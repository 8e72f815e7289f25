-- `word_of`: the head of the chain, the place of the record, the word in it.
use Rattle.std.proofs.Common.{rules}
use Rattle.chart.specs.Fields.{field_found}
use Rattle.opening.proofs.word_of.Goals as goal

pub returns : goal.returns
returns c = search (rules, field_found)
