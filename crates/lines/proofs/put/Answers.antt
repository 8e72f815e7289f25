-- `put`: one byte.
use Rattle.std.proofs.Common.{length-set, arith, rules}
use Rattle.lines.specs.Text.{put_one}
use Rattle.lines.proofs.put.Goals as goal

pub returns : goal.returns
returns c = (search (rules, put_one), simp length-set (omega arith))
