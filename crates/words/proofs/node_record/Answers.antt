-- `node_record`: the test says which of the two slices is meant.
use Rattle.words.specs.Buffers.{from_question, from_sheet}
use Rattle.std.proofs.Common.{rules}
use Rattle.words.proofs.node_record.Goals as goal

pub returns-then-asked : goal.returns-then-asked
returns-then-asked c = search (rules, from_question)

pub returns-else-asked : goal.returns-else-asked
returns-else-asked c = search (rules, from_sheet)
