-- `opaque_ok`: the count is the sheet's.
use Rattle.std.proofs.Common.{rules}
use Rattle.values.specs.Verdict.{opaque_found}
use Rattle.values.proofs.fits.Noted.opaque_ok.Goals as goal

pub returns : goal.returns
returns c = search (rules, opaque_found)
