-- `stand`: all are written.
use Rattle.std.proofs.Common.{rules}
use Rattle.opening.specs.Standing.{standing_done}
use Rattle.opening.proofs.stand.Goals as goal

pub returns : goal.returns
returns c = search (rules, standing_done)
