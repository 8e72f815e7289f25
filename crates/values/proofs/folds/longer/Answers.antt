-- `longer`: up to the size of a slice.
use Rattle.std.proofs.Common.{rules}
use Rattle.values.specs.Folds.{longer_up, longer_full}
use Rattle.values.proofs.folds.longer.Goals as goal

pub returns-then-m-lt-PLANE_WORD : goal.returns-then-m-lt-PLANE_WORD
returns-then-m-lt-PLANE_WORD c = search (rules, longer_up)

pub returns-else-m-lt-PLANE_WORD : goal.returns-else-m-lt-PLANE_WORD
returns-else-m-lt-PLANE_WORD c = search (rules, longer_full)
