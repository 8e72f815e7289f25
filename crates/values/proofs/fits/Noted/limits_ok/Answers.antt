-- `limits_ok`: the counts are the sheet's.
use Rattle.std.proofs.Common.{rules}
use Rattle.values.specs.Verdict.{limits_found}
use Rattle.values.proofs.fits.Noted.limits_ok.Goals as goal

pub returns : goal.returns
returns c = search (rules, limits_found)
