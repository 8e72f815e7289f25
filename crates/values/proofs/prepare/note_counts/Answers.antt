-- `note_counts`: a count is a word.
use Rattle.std.proofs.Common.{rules}
use Rattle.values.specs.Tables.{count_fits}
use Rattle.values.proofs.prepare.note_counts.Goals as goal

pub overflow_cast-ws : goal.overflow_cast-ws
overflow_cast-ws c = search (rules, count_fits)
