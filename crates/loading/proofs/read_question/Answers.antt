-- The impl call's query.
use Rattle.std.proofs.Common.{rules}
use Rattle.loading.specs.Exports.{reads_cells, cells_of}
use Rattle.loading.proofs.read_question.Goals as goal

pub read_query-requires : goal.read_query-requires
read_query-requires c = search (rules, cells_of)

pub returns : goal.returns
returns c = search (rules, reads_cells)
