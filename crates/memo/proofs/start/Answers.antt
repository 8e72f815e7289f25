-- `start`: all marks are cleared where there is room for them.
use Rattle.std.proofs.Common.{rules}
use Rattle.memo.specs.Memo.{starts_clear, starts_short}
use Rattle.memo.proofs.start.Goals as goal
use Rattle.memo.proofs.start.Goals.{then-ms-ge-ALL_MARKS, else-ms-ge-ALL_MARKS}

pub returns : goal.returns
returns c = elim c.if-ms-ge-ALL_MARKS.branch [ then-ms-ge-ALL_MARKS w ↦ search (rules, starts_clear) | else-ms-ge-ALL_MARKS w ↦ search (rules, starts_short) ]
