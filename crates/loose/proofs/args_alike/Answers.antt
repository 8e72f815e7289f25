-- `args_alike`: one by one.
use Rattle.std.proofs.Common.{rules}
use Rattle.loose.specs.Loose.{args_on}
use Rattle.loose.proofs.args_alike.Goals as goal

pub loop-k-preserved : goal.loop-k-preserved
loop-k-preserved c = search (rules, args_on)
