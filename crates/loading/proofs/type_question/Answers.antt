-- A query of one type.
use Rattle.std.proofs.Common.{rules}
use Rattle.loading.specs.Exports.{reads_type}
use Rattle.loading.proofs.type_question.Goals as goal

pub returns : goal.returns
returns c = search (rules, reads_type)
