-- `may_own`: by its flag.
use Rattle.std.proofs.Common.{rules}
use Rattle.order.specs.Owning.{flagged_by}
use Rattle.order.specs.Words.{id_is}
use Rattle.order.proofs.may_own.Goals as goal

pub returns : goal.returns
returns c = search (rules, flagged_by, id_is)
