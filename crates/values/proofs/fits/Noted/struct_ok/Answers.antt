-- `struct_ok`: the count is the sheet's.
use Rattle.std.proofs.Common.{rules}
use Rattle.values.specs.Verdict.{struct-found}
use Rattle.values.proofs.fits.Noted.struct_ok.Goals as goal

pub returns : goal.returns
returns c = search (rules, struct-found)
