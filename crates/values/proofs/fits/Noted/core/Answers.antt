-- `core`: the six tests of a node.
use Rattle.std.proofs.Common.{rules}
use Rattle.values.specs.Value.{core_past, core-found}
use Rattle.values.proofs.fits.Noted.core.Goals as goal

pub returns-in_default : goal.returns-in_default
returns-in_default c = search (rules, core_past)

pub returns : goal.returns
returns c = search (rules, core-found)
