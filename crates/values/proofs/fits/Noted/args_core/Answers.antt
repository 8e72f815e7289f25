-- `args_core`: no such trait, none, or one.
use Rattle.std.proofs.Common.{rules}
use Rattle.values.specs.Known.{args_past, args_none, args_some}
use Rattle.values.proofs.fits.Noted.args_core.Goals as goal

pub returns-then-traits-t : goal.returns-then-traits-t
returns-then-traits-t c = search (rules, args_past)

pub returns-in_default : goal.returns-in_default
returns-in_default c = search (rules, args_none)

pub returns : goal.returns
returns c = search (rules, args_some)
