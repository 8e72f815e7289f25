-- `add`: a word more at the end of the row, if there is room.
use Rattle.std.proofs.Common.{rules}
use Rattle.memo.specs.Memo.{adds_one}
use Rattle.memo.proofs.add.Goals as goal

pub returns-then-n-lt-PAIRS : goal.returns-then-n-lt-PAIRS
returns-then-n-lt-PAIRS c = search (rules, adds_one)
